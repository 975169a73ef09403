-- Places made pending, one entry after the other.
use Rattle.av_chunk.specs.Views.{is_entry_at}
use Rattle.std.proofs.Common.{◌≡◌, ◌≢◌, ℕ, ◌<◌, Bool, true, false, true≢false, ◌&&◌, ◌||◌, Option, Some, None, List, [], ◌∷◌, ◌++◌, length, get_or, slice_set, refl, sym, ap, ◌∙◌, if◌then◌else◌, Decides, nat_eq, get_or-set_same, get_or-set_other, length-set}
use Rattle.std.proofs.lemmas.Bool.Decides.{Decides-eqb}
use Rattle.std.proofs.lemmas.List.Folds.{list_any-append}
use Rattle.std.specs.List.{list_any}
use Rattle.std.proofs.lemmas.Bool.{eq-eqb}
use Rattle.av_types.specs.Division.{divided}
use Rattle.av_types.specs.Positions.{place_of, section_index}
use Rattle.av_types.specs.declared.position.Height.{Height}
use Rattle.av_types.specs.declared.tick.Entry.{Entry}
use Rattle.av_section.specs.Section.{is_pending}
use Rattle.av_section.specs.declared.section.Section.{Section}
use Rattle.av_codec.specs.Pending.{SlotPending, SlotAddsAll, MarksPending}

bits : (a b x : Bool) → (if x then true else (a || b)) ≡ a || (b || (x || false))
bits true b true = refl
bits true b false = refl
bits false true true = refl
bits false true false = refl
bits false false true = refl
bits false false false = refl

no_more : (b : Bool) → b || (false || false) ≡ b
no_more true = refl
no_more false = refl

this_entry : (h : Height) (done : List Entry) (e : Entry) (k i : ℕ) → section_index h (divided e.pos.y 16) ≡ k
    → list_any (is_entry_at h k i) (done ++ e ∷ []) ≡ list_any (is_entry_at h k i) done || (nat_eq i (place_of e.pos) || false)
this_entry h done e k i o =
    list_any-append (is_entry_at h k i) done (e ∷ []) ∙ ap (λ b. list_any (is_entry_at h k i) done || ((b && nat_eq i (place_of e.pos)) || false)) (ap (nat_eq k) o ∙ eq-eqb k k refl)

other_entry : (h : Height) (done : List Entry) (e : Entry) (k o i : ℕ) → section_index h (divided e.pos.y 16) ≡ k → nat_eq o k ≡ false
    → list_any (is_entry_at h o i) done ≡ list_any (is_entry_at h o i) (done ++ e ∷ [])
other_entry h done e k o i is ne =
    sym (list_any-append (is_entry_at h o i) done (e ∷ []) ∙ (ap (λ b. list_any (is_entry_at h o i) done || ((b && nat_eq i (place_of e.pos)) || false)) (ap (nat_eq o) is ∙ ne) ∙ no_more (list_any (is_entry_at h o i) done)))

slot_marked : (h : Height) (done : List Entry) (e : Entry) (old now new : Option Section) (k : ℕ) → section_index h (divided e.pos.y 16) ≡ k
    → SlotAddsAll old now (λ i. list_any (is_entry_at h k i) done) → SlotPending now new (place_of e.pos) → SlotAddsAll old new (λ i. list_any (is_entry_at h k i) (done ++ e ∷ []))
slot_marked h done e None None None k o a p = tt
slot_marked h done e None None (Some d) k o a p = absurd p
slot_marked h done e None (Some b) new k o a p = absurd a
slot_marked h done e (Some x) None new k o a p = absurd a
slot_marked h done e (Some x) (Some b) None k o a p = absurd p
slot_marked h done e (Some x) (Some b) (Some d) k o a p = record {
  numbers = λ i. p.numbers i ∙ a.numbers i;
  pending = λ i. p.pending i ∙ (ap (λ v. if nat_eq i (place_of e.pos) then true else v) (a.pending i) ∙ (bits (is_pending x i) (list_any (is_entry_at h k i) done) (nat_eq i (place_of e.pos)) ∙ ap (λ v. is_pending x i || v) (sym (this_entry h done e k i o))));
}

slot_same : (old now : Option Section) (t u : ℕ → Bool) → ((i : ℕ) → t i ≡ u i) → SlotAddsAll old now t → SlotAddsAll old now u
slot_same None None t u e a = tt
slot_same None (Some b) t u e a = absurd a
slot_same (Some x) None t u e a = absurd a
slot_same (Some x) (Some b) t u e a = record { numbers = a.numbers; pending = λ i. a.pending i ∙ ap (λ v. is_pending x i || v) (e i) }

slot_at : (h : Height) (done : List Entry) (e : Entry) (old now : List (Option Section)) (new : Option Section) (k o : ℕ) → section_index h (divided e.pos.y 16) ≡ k → k < length now
    → SlotPending (get_or now k None) new (place_of e.pos) → MarksPending h done old now → (b : Bool) → Decides b (o ≡ k) → nat_eq o k ≡ b
    → SlotAddsAll (get_or old o None) (get_or (slice_set now k new) o None) (λ i. list_any (is_entry_at h o i) (done ++ e ∷ []))
slot_at h done e old now new k o is l p m true d n =
    let same : o ≡ k = d.0 refl in
    rw (same, get_or-set_same now k new None l) (slot_marked h done e (get_or old k None) (get_or now k None) new k is (m.slots k) p)
slot_at h done e old now new k o is l p m false d n =
    let ne : o ≢ k = λ same. true≢false (sym (d.1 same)) in
    rw (get_or-set_other now k o new None ne) (slot_same (get_or old o None) (get_or now o None) (λ i. list_any (is_entry_at h o i) done) (λ i. list_any (is_entry_at h o i) (done ++ e ∷ [])) (λ i. other_entry h done e k o i is n) (m.slots o))

pub MarksPending-step : (h : Height) (done : List Entry) (e : Entry) (old now : List (Option Section)) (new : Option Section) (k : ℕ) → section_index h (divided e.pos.y 16) ≡ k → k < length now
    → SlotPending (get_or now k None) new (place_of e.pos) → MarksPending h done old now → MarksPending h (done ++ e ∷ []) old (slice_set now k new)
MarksPending-step h done e old now new k is l p m = record {
  count = length-set now k new ∙ m.count;
  slots = λ o. slot_at h done e old now new k o is l p m (nat_eq o k) (Decides-eqb o k) refl;
}
