-- Flat chunks, and worlds of air, water and stone.
use Rattle.std.proofs.Common.{◌≡◌, ℕ, zero, suc, ◌<◌, ◌≤◌, ◌==◌, ℤ, Bool, true, false, cond, IsTrue, is_some, List, [], ◌∷◌, get_or, Option, Some, None, refl, sym, ap, subst, ◌∙◌, All, arith, true≢false}
use Rattle.std.proofs.lemmas.List.Elements.{All-tail, All-weaker}
use Rattle.av_types.specs.Positions.{chunk_of, section_of, place_of, is_section_of, section_index}
use Rattle.av_types.specs.declared.position.Pos.{Pos}
use Rattle.av_types.specs.declared.position.ChunkPos.{ChunkPos}
use Rattle.av_types.specs.declared.position.SectionPos.{SectionPos}
use Rattle.av_types.specs.declared.position.Height.{Height}
use Rattle.av_types.specs.declared.tick.Entry.{Entry}
use Rattle.av_types.proofs.Coordinates.{place_less}
use Rattle.av_section.specs.Section as section
use Rattle.av_section.specs.declared.section.Section.{Section}
use Rattle.av_ticks.specs.Entries.{is_pending}
use Rattle.av_document.specs.Ticks.{lies_in}
use Rattle.av_chunk.specs.declared.chunk.Chunk.{Chunk}
use Rattle.av_cells.specs.Grid.{Grid, is_here, number_in, pending_in, cells_of, only}
use Rattle.av_cells.specs.Positions.{same_chunk, same_pos}
use Rattle.av_cells.specs.Rule.{HasKinds}
use Rattle.av_cells.specs.World as cells
use Rattle.av_cells.specs.World.{with_number, with_entry}
use Rattle.av_world.specs.Sections.{layer_at, filling_in}
use Rattle.av_world.specs.Inserted.{IsNewChunk, IsFull, chunk_grid, with_chunk}
use Rattle.av_world.specs.Lands.{IsUncarved}
use Rattle.av_world.specs.ParcelViews.{kept_grid, blocks as parcel_blocks}
use Rattle.av_world.specs.Views.{grid, blocks, site, height_of}
use Rattle.av_world.specs.declared.parcels.Parcel.{Parcel}
use Rattle.av_world.specs.declared.worlds.World.{World}
use Rattle.av_world.proofs.Whole.{whole_kept}
use Rattle.av_world_tests.specs.Flat.{IsCalm, IsCalmSlot, IsFlat, IsPlain}

-- ---- sections

pub calm_filled : (s : Section) → section.IsFilled s 0 → IsCalm s
calm_filled s f = record { none = f.pending; below = λ i l. subst (λ n. n < 11) (sym (f.numbers i l)) (omega arith) }

pub calm_kept : (s t : Section) → section.KeepsPlaces s t → IsCalm s → IsCalm t
calm_kept s t k c = record { none = λ i. k.pending i ∙ c.none i; below = λ i l. subst (λ n. n < 11) (sym (k.numbers i)) (c.below i l) }

pub calm_set : (s t : Section) (i n : ℕ) → section.SetsNumber s t i n → n < 11 → IsCalm s → IsCalm t
calm_set s t i n e m c = record { none = λ j. e.pending j ∙ c.none j; below = λ j l. subst (λ n. n < 11) (sym (e.numbers j)) (by (j == i) (section.number_at s j) (c.below j l)) } where
  by : (b : Bool) (k : ℕ) → k < 11 → cond b n k < 11
  by true k l = m
  by false k l = l

-- ---- chunks

-- a section that is there is so
abbrev IsCalmOr : Option Section → Type 0
IsCalmOr None = Unit {0}
IsCalmOr (Some s) = IsCalm s

calm_or : (o : Option Section) → IsCalmSlot o → IsCalmOr o
calm_or None h = tt
calm_or (Some s) h = h

calm_at : (ss : List (Option Section)) (i : ℕ) → All IsCalmSlot ss → IsCalmOr (get_or ss i None)
calm_at [] i h = tt
calm_at (o ∷ ss) zero h = calm_or o (h 0 None (omega arith))
calm_at (o ∷ ss) (suc i) h = calm_at ss i (All-tail IsCalmSlot o ss h)

calm_layer : (h : Height) (x : Chunk) (y : ℤ) → IsFlat h x → IsCalmOr (layer_at h x.sections.items y)
calm_layer h x y f = by (is_section_of h y) where
  by : (b : Bool) → IsCalmOr (cond b (get_or x.sections.items (section_index h y) None) None)
  by true = calm_at x.sections.items (section_index h y) f.calm
  by false = tt

quiet : (o : Option Section) (i : ℕ) → IsCalmOr o → IsTrue (is_here (filling_in o)) → pending_in (filling_in o) i ≡ false
quiet None i c t = absurd (true≢false (sym t))
quiet (Some s) i c t = c.none i

low : (o : Option Section) (i : ℕ) → i < 4096 → IsCalmOr o → IsTrue (is_here (filling_in o)) → number_in (filling_in o) i < 11
low None i l c t = absurd (true≢false (sym t))
low (Some s) i l c t = c.below i l

there : (o : Option Section) → IsCalmSlot o → IsTrue (is_some o)
there None h = absurd h
there (Some s) h = refl

pub flat_is_new : (c : ChunkPos) (h : Height) (x : Chunk) → IsFlat h x → IsNewChunk c h x
flat_is_new c h x f = record {
  whole = f.count;
  within = subst (λ (es : List Entry). All (λ e. lies_in c h e.pos ≡ true) es) (sym f.none) (λ k d l. absurd (omega arith));
  tied = λ p e t. quiet (layer_at h x.sections.items (section_of p).y) (place_of p) (calm_layer h x (section_of p).y f) t ∙ sym (ap (is_pending p) f.none);
}

pub flat_is_full : (h : Height) (x : Chunk) → IsFlat h x → IsFull x
flat_is_full h x f = All-weaker IsCalmSlot (λ o. IsTrue (is_some o)) there x.sections.items f.calm

-- ---- worlds

pub plain_new : (w : World) → ((s : SectionPos) → grid w s ≡ None) → IsUncarved w → IsPlain w
plain_new w none whole = record { whole = whole; numbers = λ p t. absurd (true≢false (sym t ∙ ap is_here (none (section_of p)))) }

pub plain_inserted : (old new : World) (c : ChunkPos) (x : Chunk) → IsPlain old → IsFlat (height_of old) x → grid new ≡ with_chunk (grid old) c (chunk_grid (height_of old) x) → (IsUncarved old → IsFull x → IsUncarved new) → IsPlain new
plain_inserted old new c x p f is whole = record {
  whole = whole p.whole (flat_is_full (height_of old) x f);
  numbers = subst (λ (g : Grid). HasKinds 11 (cells_of g)) (sym is) (λ q. by q (same_chunk c (chunk_of q)));
} where
  by : (q : Pos) (b : Bool) → IsTrue (is_here (cond b (chunk_grid (height_of old) x (section_of q)) (grid old (section_of q)))) → number_in (cond b (chunk_grid (height_of old) x (section_of q)) (grid old (section_of q))) (place_of q) < 11
  by q true t = low (layer_at (height_of old) x.sections.items (section_of q).y) (place_of q) (place_less q) (calm_layer (height_of old) x (section_of q).y f) t
  by q false t = p.numbers q t

pub plain_set : (old mid new : World) (p : Pos) (n : ℕ) → site mid ≡ site old → blocks mid ≡ blocks old → site new ≡ site mid → blocks new ≡ with_number (blocks mid) p n → n < 11 → IsPlain old → IsPlain new
plain_set old mid new p n s same t changed m plain =
    let is : blocks new ≡ with_number (blocks old) p n = changed ∙ ap (λ (w : cells.World). with_number w p n) same in
    record {
      whole = whole_kept old new (t ∙ s) (ap (λ (w : cells.World). w.loaded) is) plain.whole;
      numbers = subst (λ (w : cells.World). HasKinds 11 w) (sym is) (λ q here. by (same_pos q p) ((blocks old).number q) (plain.numbers q here));
    }
  where
    by : (b : Bool) (k : ℕ) → k < 11 → cond b n k < 11
    by true k l = m
    by false k l = l

pub plain_added : (old mid new : World) (e : Entry) → site mid ≡ site old → blocks mid ≡ blocks old → site new ≡ site mid → blocks new ≡ with_entry (blocks mid) e → IsPlain old → IsPlain new
plain_added old mid new e s same t changed plain =
    let is : blocks new ≡ with_entry (blocks old) e = changed ∙ ap (λ (w : cells.World). with_entry w e) same in
    record {
      whole = whole_kept old new (t ∙ s) (ap (λ (w : cells.World). w.loaded) is) plain.whole;
      numbers = subst (λ (w : cells.World). HasKinds 11 w) (sym is) plain.numbers;
    }

-- ---- parcels

pub parcel_kinds : (c : Parcel) (g : Grid) (b : SectionPos → Bool) → kept_grid c ≡ only b g → HasKinds 11 (cells_of g) → HasKinds 11 (parcel_blocks c)
parcel_kinds c g b out h = subst (λ (k : Grid). HasKinds 11 (cells_of k)) (sym out) (λ q. by q (b (section_of q))) where
  by : (q : Pos) (x : Bool) → IsTrue (is_here (cond x (g (section_of q)) None)) → number_in (cond x (g (section_of q)) None) (place_of q) < 11
  by q true t = h q t
  by q false t = absurd (true≢false (sym t))

pub kinds_more : (m n : ℕ) (v w : cells.World) → w ≡ v → m ≤ n → HasKinds m v → HasKinds n w
kinds_more m n v w is l h = subst (λ (u : cells.World). HasKinds n u) (sym is) (λ p t. let b = h p t in omega arith)
