-- Where the water entries of a chunk lie.
use Rattle.std.proofs.Common.{◌≡◌, Bool, true, false, ◌||◌, Option, Some, None, List, [], ◌∷◌, ◌++◌, refl, sym, ap, ◌∙◌, if◌then◌else◌, nat_eq}
use Rattle.std.proofs.lemmas.Bool.Decides.{Decides-eqb}
use Rattle.std.specs.List.{list_any, list_all}
use Rattle.std.proofs.lemmas.Bool.{not-false, and_parts, or_parts, and_from}
use Rattle.av_types.specs.Division.{divided}
use Rattle.av_types.specs.Positions.{place_of, section_index}
use Rattle.av_types.specs.declared.position.Pos.{Pos}
use Rattle.av_types.specs.declared.position.ChunkPos.{ChunkPos}
use Rattle.av_types.specs.declared.position.Height.{Height}
use Rattle.av_types.specs.declared.tick.Entry.{Entry}
use Rattle.av_types.proofs.SamePositions.{same_pos_is, same_pos-refl}
use Rattle.av_tags.specs.Nbt.{NamedTag}
use Rattle.av_tags.specs.Shape.{lacks}
use Rattle.av_ticks.specs.Entries.{same_pos, is_pending}
use Rattle.av_document.specs.Layout.{block_at}
use Rattle.av_document.specs.Ticks.{lies_in, fluid_of, water_entry, is_outside, is_bad_tick, with_entry, with_water}
use Rattle.av_document.proofs.Positions.{within_from, block_at-of}
use Rattle.av_codec.specs.Pending.{is_in_height}
use Rattle.av_chunk.specs.Views.{is_entry_at}
use Rattle.av_chunk.proofs.Heights.{offset_apart}

abbrev pub AreIn : ChunkPos → Height → List Entry → Type 0
AreIn c h es = list_all (λ e. lies_in c h e.pos) es ≡ true

push_in : (c : ChunkPos) (h : Height) (es : List Entry) (e : Entry) → AreIn c h es → lies_in c h e.pos ≡ true → AreIn c h (es ++ e ∷ [])
push_in c h [] e p q = and_from (lies_in c h e.pos) true q refl
push_in c h (f ∷ es) e p q = and_from (lies_in c h f.pos) _ (and_parts _ _ p).0 (push_in c h es e (and_parts _ _ p).1 q)

entry_in : (c : ChunkPos) (h : Height) (found : List Entry) (o : Option Entry) → is_outside c h o ≡ false → AreIn c h found → AreIn c h (with_entry found o)
entry_in c h found None e p = p
entry_in c h found (Some w) e p = of (is_pending w.pos found)
  where
    of : (b : Bool) → AreIn c h (if b then found else found ++ w ∷ [])
    of true = p
    of false = push_in c h found w p (not-false (lies_in c h w.pos) e)

pub water_in : (c : ChunkPos) (h : Height) (found : List Entry) (rows : List (List NamedTag)) → list_any (is_bad_tick c h) rows ≡ false → AreIn c h found → AreIn c h (with_water found rows)
water_in c h found [] e p = p
water_in c h found (ms ∷ rows) e p =
    water_in c h (with_entry found (water_entry ms)) rows (or_parts (is_bad_tick c h ms) _ e).1
    (entry_in c h found (water_entry ms) (or_parts (lacks (fluid_of ms)) _ (or_parts (is_bad_tick c h ms) _ e).0).1 p)

pub in_height : (c : ChunkPos) (h : Height) (es : List Entry) → AreIn c h es → list_all (is_in_height h) es ≡ true
in_height c h [] p = refl
in_height c h (e ∷ es) p = and_from (is_in_height h e) _ (within_from c h e.pos (and_parts (lies_in c h e.pos) _ p).0).height (in_height c h es (and_parts (lies_in c h e.pos) _ p).1)

-- ---- pending by section and place

both_ways : (a b : Bool) → (a ≡ true → b ≡ true) → (b ≡ true → a ≡ true) → a ≡ b
both_ways true b f g = sym (f refl)
both_ways false true f g = g refl
both_ways false false f g = refl

entry_at_self : (h : Height) (e : Entry) → is_entry_at h (section_index h (divided e.pos.y 16)) (place_of e.pos) e ≡ true
entry_at_self h e = and_from (nat_eq (section_index h (divided e.pos.y 16)) (section_index h (divided e.pos.y 16))) _ ((Decides-eqb (section_index h (divided e.pos.y 16)) (section_index h (divided e.pos.y 16))).1 refl) ((Decides-eqb (place_of e.pos) (place_of e.pos)).1 refl)

entry_same : (c : ChunkPos) (h : Height) (p : Pos) (e : Entry) → lies_in c h p ≡ true → lies_in c h e.pos ≡ true
    → is_entry_at h (section_index h (divided p.y 16)) (place_of p) e ≡ same_pos p e.pos
entry_same c h p e s t = both_ways _ _
    (λ at.
    let offsets : section_index h (divided p.y 16) ≡ section_index h (divided e.pos.y 16) = (Decides-eqb (section_index h (divided p.y 16)) (section_index h (divided e.pos.y 16))).0 (and_parts _ _ at).0 in
    let places : place_of p ≡ place_of e.pos = (Decides-eqb (place_of p) (place_of e.pos)).0 (and_parts (nat_eq (section_index h (divided p.y 16)) (section_index h (divided e.pos.y 16))) _ at).1 in
    let level : divided p.y 16 ≡ divided e.pos.y 16 = offset_apart h (divided p.y 16) (divided e.pos.y 16) (within_from c h p s).height (within_from c h e.pos t).height offsets in
    let same : p ≡ e.pos = sym (block_at-of c h p s) ∙ (ap (λ y. block_at c y (place_of p)) level ∙ (ap (λ i. block_at c (divided e.pos.y 16) i) places ∙ block_at-of c h e.pos t)) in
    rw same (same_pos-refl e.pos))
    (λ same. let is : p ≡ e.pos = same_pos_is p e.pos same in rw is (entry_at_self h e))

either : (a b d : Bool) → a ≡ b → (rest : Bool) → rest ≡ d → a || rest ≡ (if b then true else d)
either a true d e rest f = rw e refl
either a false d e rest f = rw (e, f) refl

pub pending_at : (c : ChunkPos) (h : Height) (p : Pos) (es : List Entry) → lies_in c h p ≡ true → AreIn c h es
    → list_any (is_entry_at h (section_index h (divided p.y 16)) (place_of p)) es ≡ is_pending p es
pending_at c h p [] s t = refl
pending_at c h p (e ∷ es) s t =
    either _ (same_pos p e.pos) (is_pending p es) (entry_same c h p e s (and_parts (lies_in c h e.pos) _ t).0) _ (pending_at c h p es s (and_parts (lies_in c h e.pos) _ t).1)
