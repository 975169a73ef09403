-- A chunk exchanged for another.
use Rattle.std.proofs.Common.{length-set, ◌≡◌, ℕ, ◌<◌, Bool, true, false, cond, IsTrue, List, length, slice_get, slice_set, Option, Some, None, refl, sym, ap, subst, ◌∙◌, All}
use Rattle.std.proofs.lemmas.Bool.{true≢false}
use Rattle.std.proofs.lemmas.List.Elements.{All-set}
use Rattle.av_types.specs.Positions.{chunk_of, section_of, place_of, chunk_of_section}
use Rattle.av_types.specs.declared.position.Pos.{Pos}
use Rattle.av_types.specs.declared.position.ChunkPos.{ChunkPos}
use Rattle.av_types.specs.declared.position.SectionPos.{SectionPos}
use Rattle.av_types.specs.declared.position.Height.{Height}
use Rattle.av_types.proofs.SamePositions.{same_chunk_is, same_chunk_from}
use Rattle.av_ticks.specs.Entries.{is_pending}
use Rattle.av_ticks.specs.Ticks.{entries}
use Rattle.av_document.specs.Ticks.{lies_in}
use Rattle.av_chunk.specs.declared.chunk.Chunk.{Chunk}
use Rattle.av_cells.specs.Positions.{same_chunk}
use Rattle.av_cells.specs.Grid.{Grid, is_here, pending_in, cells_of}
use Rattle.av_cells.specs.World.{Lists}
use Rattle.av_world.specs.Chunks.{IsChunkOf}
use Rattle.av_world.specs.Index.{slot}
use Rattle.av_world.specs.Lawful.{IsTied, IsWorld}
use Rattle.av_world.specs.Inserted.{IsNewChunk, chunk_grid, with_chunk, with_list}
use Rattle.av_world.specs.Sections.{layer_at, layer_in, filling_in, grid_of, lists_of, entries_in}
use Rattle.av_world.proofs.ChunkReads.{slot_there, slot_of_index}
use Rattle.av_world.specs.declared.worlds.World.{World}
use Rattle.av_world.proofs.Moved.{get_set_same, get_set_other}

abbrev some_of : {X : Type 0} → X → Option X → X
some_of d None = d
some_of d (Some x) = x

module _ (h : Height) (ps : List ChunkPos) (cs : List Chunk) (i : ℕ) (c : ChunkPos) (x : Chunk) (w : IsWorld h ps cs) (below : i < length ps) (at : slice_get ps i ≡ Some c) (new : IsNewChunk c h x) where
  found : (d : ChunkPos) → slice_get (slice_set cs i x) (slot ps d) ≡ cond (same_chunk c d) (Some x) (slice_get cs (slot ps d))
  found d = by (same_chunk c d) refl where
    here : slot ps c ≡ i
    here = slot_of_index ps c i w.rising below at

    by : (b : Bool) → same_chunk c d ≡ b → slice_get (slice_set cs i x) (slot ps d) ≡ cond b (Some x) (slice_get cs (slot ps d))
    by true e = ap (slice_get (slice_set cs i x)) (ap (slot ps) (sym (same_chunk_is c d e)) ∙ here) ∙ get_set_same cs i x (subst (λ n. i < n) w.parallel below)
    by false e = get_set_other cs i (slot ps d) x
        (λ s. true≢false (sym (same_chunk_from c d (ap (some_of c) (sym at ∙ ap (slice_get ps) (sym s) ∙ slot_there ps d (subst (λ n. n < length ps) (sym s) below)))) ∙ e))

  pub grid_exchanged : grid_of h ps (slice_set cs i x) ≡ with_chunk (grid_of h ps cs) c (chunk_grid h x)
  grid_exchanged = λ j s. is s j where
    by : (s : SectionPos) (b : Bool) → filling_in (layer_in h (cond b (Some x) (slice_get cs (slot ps (chunk_of_section s)))) s.y) ≡ cond b (filling_in (layer_at h x.sections.items s.y)) (grid_of h ps cs s)
    by s true = refl
    by s false = refl

    is : (s : SectionPos) → grid_of h ps (slice_set cs i x) s ≡ cond (same_chunk c (chunk_of_section s)) (filling_in (layer_at h x.sections.items s.y)) (grid_of h ps cs s)
    is s = ap (λ o. filling_in (layer_in h o s.y)) (found (chunk_of_section s)) ∙ by s (same_chunk c (chunk_of_section s))

  pub lists_exchanged : lists_of ps (slice_set cs i x) ≡ with_list (lists_of ps cs) c (entries x.ticks)
  lists_exchanged = λ j d. is d j where
    by : (d : ChunkPos) (b : Bool) → entries_in (cond b (Some x) (slice_get cs (slot ps d))) ≡ cond b (entries x.ticks) (lists_of ps cs d)
    by d true = refl
    by d false = refl

    is : (d : ChunkPos) → lists_of ps (slice_set cs i x) d ≡ cond (same_chunk c d) (entries x.ticks) (lists_of ps cs d)
    is d = ap entries_in (found d) ∙ by d (same_chunk c d)

  within : (d : ChunkPos) → All (λ e. lies_in d h e.pos ≡ true) (with_list (lists_of ps cs) c (entries x.ticks) d)
  within d = by (same_chunk c d) refl where
    by : (b : Bool) → same_chunk c d ≡ b → All (λ e. lies_in d h e.pos ≡ true) (cond b (entries x.ticks) (lists_of ps cs d))
    by true e = subst (λ d. All (λ e. lies_in d h e.pos ≡ true) (entries x.ticks)) (same_chunk_is c d e) new.within
    by false e = w.within d

  tied : IsTied (cells_of (with_chunk (grid_of h ps cs) c (chunk_grid h x))) (with_list (lists_of ps cs) c (entries x.ticks))
  tied = λ p t. by p (same_chunk c (chunk_of p)) refl t where
    by : (p : Pos) (b : Bool) → same_chunk c (chunk_of p) ≡ b → IsTrue (is_here (cond b (chunk_grid h x (section_of p)) (grid_of h ps cs (section_of p))))
        → pending_in (cond b (chunk_grid h x (section_of p)) (grid_of h ps cs (section_of p))) (place_of p) ≡ is_pending p (cond b (entries x.ticks) (lists_of ps cs (chunk_of p)))
    by p true e t = new.tied p (sym (same_chunk_is c (chunk_of p) e)) t
    by p false e t = w.tied p t

  pub lawful_exchanged : IsWorld h ps (slice_set cs i x)
  lawful_exchanged = record {
    parallel = w.parallel ∙ sym (length-set cs i x);
    rising = w.rising;
    limits = w.limits;
    whole = All-set (λ y. length y.sections.items ≡ h.sections) cs i x new.whole w.whole;
    within = subst (λ (l : Lists). (d : ChunkPos) → All (λ e. lies_in d h e.pos ≡ true) (l d)) (sym lists_exchanged) within;
    tied = subst (λ (l : Lists). IsTied (cells_of (grid_of h ps (slice_set cs i x))) l) (sym lists_exchanged)
        (subst (λ (g : Grid). IsTied (cells_of g) (with_list (lists_of ps cs) c (entries x.ticks))) (sym grid_exchanged) tied);
  }

-- a chunk of a world fits its position
pub chunk_fits : (w : World) (c : ChunkPos) (x : Chunk) → IsChunkOf w c x → IsNewChunk c w.height x
chunk_fits w c x r =
    record {
      whole = r.count;
      within = subst (λ es. All (λ e. lies_in c w.height e.pos ≡ true) es) r.entries_are (w.lawful.within c);
      tied = λ p e t.
          sym (ap (λ f. pending_in f (place_of p)) (r.sections (section_of p) e))
          ∙ w.lawful.tied p (subst (λ f. IsTrue (is_here f)) (sym (r.sections (section_of p) e)) t)
          ∙ ap (is_pending p) (ap (lists_of w.positions.items w.chunks.items) e ∙ r.entries_are);
    }

-- where a chunk stands that is there
pub below_at : (ps : List ChunkPos) (c : ChunkPos) (i : ℕ) → i ≡ slot ps c → slot ps c < length ps → i < length ps
below_at ps c i e l = subst (λ n. n < length ps) (sym e) l

pub stands_at : (ps : List ChunkPos) (c : ChunkPos) (i : ℕ) → i ≡ slot ps c → slot ps c < length ps → slice_get ps i ≡ Some c
stands_at ps c i e l = ap (slice_get ps) e ∙ slot_there ps c l
