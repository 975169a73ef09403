-- The laws of spelling, and what a decoder's answer says of its bytes.
use Rattle.std.proofs.Common.{◌≡◌, ℕ, ◌≤◌, List, [], ◌∷◌, ◌++◌, length, Some, None, refl, sym, ap, ◌∙◌, arith, append_assoc, append-nil, max, drop, Result, Ok, Err}
use Rattle.std.specs.Prelude.{IfOk, IfErr}
use Rattle.av_types.specs.declared.fault.Fault.{Fault}
use Rattle.av_types.specs.declared.fault.Fault.TheVariants.{OutOfMemory, BadNbt}
use Rattle.av_tags.specs.declared.tag.Root.{Root}
use Rattle.av_tags.specs.View.{document}
use Rattle.av_nbt.proofs.Bytes.{AreBytes}
use Rattle.av_nbt.proofs.TakenTags.{document_taken}
use Rattle.std.proofs.lemmas.List.{append_cancel_right}
use Rattle.std.specs.Int.{w16, to_be_bytes}
use Rattle.av_tags.specs.declared.tag.TagType.TheVariants as tag_type
use Rattle.av_tags.specs.TagTypes.{type_number}
use Rattle.av_tags.specs.Nbt.{Nbt, compound, NamedTag, Document, tag_type_of, members_of, depth, members_depth}
use Rattle.av_tags.specs.Shape.{members_in}
use Rattle.av_nbt.specs.Spelling.{SpellsDocument}
use Rattle.av_nbt.specs.Outcome.{SpellsNone, IsDecodeRefusal}
use Rattle.av_nbt.specs.Laws.{OneTag, OneDocument}
use Rattle.av_nbt.specs.Reading.{Field, Fails, Gives, type_at, text_at, until_end, members_at, payload_at, document_at}
use Rattle.av_nbt.proofs.Again.{type_again, text_again}
use Rattle.av_nbt.proofs.AgainTags.{tag_again, members_again, members_of_in, members_step, names_differ}
use Rattle.av_nbt.proofs.Taken.{same_value, same_rest}

document_step : (bytes b c n : List ℕ) (ms : List NamedTag) → type_at bytes ≡ Some (tag_type.Compound, b) → text_at b ≡ Some (n, c) → members_at (payload_at 511) c ≡ Some (ms, []) → document_at bytes ≡ Some (record { name = n; members = members_of ms })
unfolding document_at
document_step bytes b c n ms tag_type name tags = rw (tag_type, name, tags) refl

-- a document is read again from its spelling
pub document_again : (d : Document) (bytes : List ℕ) → SpellsDocument d bytes → document_at bytes ≡ Some d
document_again d bytes h =
    let inner : members_depth d.members ≤ 511 = omega (arith, h.shallow) in
    let read = members_again d.members 511 (length h.body) h.body [] h.tags.1 inner (omega arith) in
    let tags = members_step (payload_at 511) h.body [] (members_in d.members) (ap (λ b. until_end (payload_at 511) (length h.body) b) (sym (append-nil h.body)) ∙ read) (names_differ d.members h.tags.0) in
    ap (λ b. document_at b) h.parts
    ∙ document_step (type_number tag_type.Compound ∷ (h.name ++ h.body)) (h.name ++ h.body) h.body d.name (members_in d.members) (type_again tag_type.Compound (h.name ++ h.body)) (text_again d.name h.name h.body h.named) tags
    ∙ ap (λ ms. Some (record { name = d.name; members = ms })) (members_of_in d.members)

pub one_tag : OneTag
one_tag t u a b x y tag_types spells_t spells_u e =
    let limit = max (depth t) (depth u) in
    let read_t = tag_again t limit a x spells_t (omega arith) in
    let read_u = tag_again u limit b y spells_u (omega arith) in
    let both : ◌≡◌ {A = Field Nbt} (Some (t, x)) (Some (u, y)) = sym read_t ∙ ap (λ k. payload_at limit k (a ++ x)) tag_types ∙ ap (λ f. payload_at limit (tag_type_of u) f) e ∙ read_u in
    let rests : x ≡ y = same_rest (t, x) u y both in
    (same_value (t, x) u y both, append_cancel_right a b x (e ∙ ap (λ r. b ++ r) (sym rests)))

pub one_document : OneDocument
one_document d e a b x y spells_d spells_e same =
    let split_d : a ++ x ≡ type_number tag_type.Compound ∷ (spells_d.name ++ (spells_d.body ++ x)) = ap (λ f. f ++ x) spells_d.parts ∙ ap (λ r. type_number tag_type.Compound ∷ r) (append_assoc spells_d.name spells_d.body x) in
    let split_e : b ++ y ≡ type_number tag_type.Compound ∷ (spells_e.name ++ (spells_e.body ++ y)) = ap (λ f. f ++ y) spells_e.parts ∙ ap (λ r. type_number tag_type.Compound ∷ r) (append_assoc spells_e.name spells_e.body y) in
    let fields : spells_d.name ++ (spells_d.body ++ x) ≡ spells_e.name ++ (spells_e.body ++ y) = ap (λ l. drop 1 l) (sym split_d ∙ same ∙ split_e) in
    let read_d = text_again d.name spells_d.name (spells_d.body ++ x) spells_d.named in
    let read_e = text_again e.name spells_e.name (spells_e.body ++ y) spells_e.named in
    let both : ◌≡◌ {A = Field (List ℕ)} (Some (d.name, spells_d.body ++ x)) (Some (e.name, spells_e.body ++ y)) = sym read_d ∙ ap (λ f. text_at f) fields ∙ read_e in
    let names : d.name ≡ e.name = same_value (d.name, spells_d.body ++ x) e.name (spells_e.body ++ y) both in
    let bodies : spells_d.body ++ x ≡ spells_e.body ++ y = same_rest (d.name, spells_d.body ++ x) e.name (spells_e.body ++ y) both in
    let tags = one_tag (compound d.members) (compound e.members) spells_d.body spells_e.body x y refl spells_d.tags spells_e.tags bodies in
    let members : d.members ≡ e.members = let inside = tags.0 in cc in
    let heads : spells_d.name ≡ spells_e.name = spells_d.named.is ∙ ap (λ n. to_be_bytes w16 (length n) ++ n) names ∙ sym spells_e.named.is in (
      ap (λ n. record { name = n; members = d.members }) names ∙ ap (λ ms. record { name = e.name; members = ms }) members,
      spells_d.parts ∙ ap (λ n. type_number tag_type.Compound ∷ (n ++ spells_d.body)) heads ∙ ap (λ r. type_number tag_type.Compound ∷ (spells_e.name ++ r)) tags.1 ∙ sym spells_e.parts,
    )

-- bytes from which no document is read spell none
pub none_is_spelled : (bytes : List ℕ) → document_at bytes ≡ None → SpellsNone bytes
none_is_spelled bytes none d h = let read = document_again d bytes h in cc

-- the fault of a decoder
refusal : (e : Fault) (bytes : List ℕ) → Fails e (document_at bytes) → IsDecodeRefusal e bytes
refusal OutOfMemory bytes h = tt
refusal BadNbt bytes h = none_is_spelled bytes h
refusal _ bytes h = absurd h

-- what reading gives is spelled, or refused
pub gives_spelled : (r : Result Root Fault) (bytes : List ℕ) → AreBytes bytes → Gives document r (document_at bytes) → IfOk r (λ root. SpellsDocument (document root) bytes)
gives_spelled (Ok root) bytes are h = document_taken bytes (document root) are h
gives_spelled (Err e) bytes are h = tt

pub gives_refused : (r : Result Root Fault) (bytes : List ℕ) → Gives document r (document_at bytes) → IfErr r (λ e. IsDecodeRefusal e bytes)
gives_refused (Ok root) bytes h = tt
gives_refused (Err e) bytes h = refusal e bytes h
