-- Worlds of which no section is out.
use Rattle.std.proofs.Common.{◌≡◌, ◌<◌, ◌≤ℤ◌, ◌<ℤ◌, ◌+ℤ◌, ℤ, pos, int_le, int_lt, ℕ, zero, suc, Bool, true, false, cond, ◌&&◌, ◌||◌, IsTrue, is_some, List, [], ◌∷◌, length, get_or, slice_get, insert, Option, Some, None, refl, sym, ap, subst, ◌∙◌, arith, true≢false}
use Rattle.std.proofs.lemmas.Int.{ints}
use Rattle.std.proofs.lemmas.List.{get_or_default}
use Rattle.std.proofs.lemmas.Option.{slice_get-get_or}
use Rattle.std.proofs.lemmas.Bool.{and_from}
use Rattle.av_document.proofs.Positions.{section_inside}
use Rattle.av_types.specs.Division.{divided}
use Rattle.av_types.specs.Positions.{chunk_of, chunk_of_section, section_of, is_section_of, is_block_of, section_index}
use Rattle.av_types.specs.declared.position.Pos.{Pos}
use Rattle.av_types.specs.declared.position.ChunkPos.{ChunkPos}
use Rattle.av_types.specs.declared.position.SectionPos.{SectionPos}
use Rattle.av_types.specs.declared.position.Height.{Height}
use Rattle.av_section.specs.declared.section.Section.{Section}
use Rattle.av_chunk.specs.declared.chunk.Chunk.{Chunk}
use Rattle.av_chunk.proofs.Heights.{offset_is, offset_below}
use Rattle.av_cells.specs.Positions.{same_chunk}
use Rattle.av_cells.specs.Grid.{Grid, is_here, cells_of}
use Rattle.av_land.specs.Land as lands
use Rattle.av_world.specs.Sections.{filling_in}
use Rattle.av_world.specs.Inserted.{Inserts, IsFull, chunk_grid, with_chunk}
use Rattle.av_world.specs.Views.{grid}
use Rattle.av_world.specs.Chunks.{IsChunkOf}
use Rattle.av_world.specs.Lands.{IsUncarved}
use Rattle.av_world.specs.declared.worlds.World.{World}
use Rattle.av_world.proofs.ChunkReads.{slot_of_index, has_chunk_there}
use Rattle.av_world.proofs.Putting.{block_of, block_in}

-- exactly the blocks of these chunks and of the height are there
abbrev pub Covers : Height → List ChunkPos → Grid → Type 0
Covers h ps g = (cells_of g).loaded ≡ (λ p. lands.has_chunk ps (chunk_of p) && is_block_of h p.y)

-- a world of which nothing is loaded and that has no chunks is whole
pub whole_empty : (h : Height) (ps : List ChunkPos) (g : Grid) → ((s : SectionPos) → g s ≡ None) → ps ≡ [] → Covers h ps g
whole_empty h ps g none at = λ i p. (ap is_here (none (section_of p)) ∙ sym (ap (λ (qs : List ChunkPos). lands.has_chunk qs (chunk_of p) && is_block_of h p.y) at)) i

-- ---- a whole world with a chunk more is whole, if no section of the chunk is out

pub has_inserted : (ps : List ChunkPos) (i : ℕ) (c d : ChunkPos) → lands.has_chunk (insert ps i c) d ≡ same_chunk c d || lands.has_chunk ps d
has_inserted ps zero c d = refl
has_inserted [] (suc i) c d = refl
has_inserted (p ∷ ps) (suc i) c d = ap (λ b. same_chunk p d || b) (has_inserted ps i c d) ∙ swap (same_chunk p d) (same_chunk c d) (lands.has_chunk ps d) where
  swap : (a b e : Bool) → a || (b || e) ≡ b || (a || e)
  swap true true e = refl
  swap true false e = refl
  swap false b e = refl

some_is_here : (o : Option Section) → IsTrue (is_some o) → is_here (filling_in o) ≡ true
some_is_here None h = absurd (true≢false (sym h))
some_is_here (Some s) h = refl

here_is_some : (o : Option Section) → is_here (filling_in o) ≡ true → IsTrue (is_some o)
here_is_some None h = absurd (true≢false (sym h))
here_is_some (Some s) h = refl

layer_is_here : (h : Height) (x : Chunk) (y : ℤ) → length x.sections.items ≡ h.sections → IsFull x → (b : Bool) → is_section_of h y ≡ b
    → is_here (filling_in (cond b (get_or x.sections.items (section_index h y) None) None)) ≡ b
layer_is_here h x y count all true e = some_is_here (get_or x.sections.items (section_index h y) None) (all (section_index h y) None (rw count (offset_below h y e)))
layer_is_here h x y count all false e = refl

pub whole_inserted : (h : Height) (ps qs : List ChunkPos) (g f : Grid) (c : ChunkPos) (x : Chunk) → f ≡ with_chunk g c (chunk_grid h x) → Inserts ps c qs → length x.sections.items ≡ h.sections
    → Covers h ps g → IsFull x → Covers h qs f
whole_inserted h ps qs g f c x is ins count whole all = λ i p. (ap (λ (k : Grid). is_here (k (section_of p))) is ∙ (by p (same_chunk c (chunk_of p)) ∙ sym (there p))) i where
  there : (p : Pos) → lands.has_chunk qs (chunk_of p) && is_block_of h p.y ≡ (same_chunk c (chunk_of p) || lands.has_chunk ps (chunk_of p)) && is_block_of h p.y
  there p = ap (λ b. b && is_block_of h p.y) (ap (λ (rs : List ChunkPos). lands.has_chunk rs (chunk_of p)) ins.is ∙ has_inserted ps ins.index c (chunk_of p))

  by : (p : Pos) (b : Bool) → is_here (cond b (chunk_grid h x (section_of p)) (g (section_of p))) ≡ (b || lands.has_chunk ps (chunk_of p)) && is_block_of h p.y
  by p true = layer_is_here h x (divided p.y 16) count all (is_section_of h (divided p.y 16)) refl
  by p false = λ i. whole i p

-- ---- a chunk of a whole world has all its sections

in_range : (a b c d : ℤ) → a ≤ℤ b → c <ℤ d → int_le a b && int_lt c d ≡ true
in_range a b c d h g = grind (arith, ints)

offset_number : (h : Height) (k : ℕ) → k < h.sections → section_index h (h.min_section +ℤ pos k) ≡ k
offset_number h k l = let e = offset_is h (h.min_section +ℤ pos k) (section_inside h k l) in omega (arith, ints, e)

-- where a chunk and the number are there, a whole world has the section
section_there : (w : World) → IsUncarved w → (s : SectionPos) → lands.has_chunk w.positions.items (chunk_of_section s) ≡ true → is_section_of w.height s.y ≡ true → is_here (grid w s) ≡ true
section_there w whole s has high =
    ap (λ t. is_here (grid w t)) (block_in s)
    ∙ ((λ i. whole i (block_of s))
    ∙ (ap (λ t. lands.has_chunk w.positions.items (chunk_of_section t) && is_section_of w.height t.y) (sym (block_in s))
    ∙ and_from (lands.has_chunk w.positions.items (chunk_of_section s)) (is_section_of w.height s.y) has high))

pub chunk_is_full : (w : World) (c : ChunkPos) (x : Chunk) → IsUncarved w → IsChunkOf w c x → lands.has_chunk w.positions.items c ≡ true → IsFull x
chunk_is_full w c x whole of has = λ k d below.
    let low : k < w.height.sections = rw (← of.count) below in
    let high = section_inside w.height k low in
    let s : SectionPos = record { x = c.x; y = w.height.min_section +ℤ pos k; z = c.z } in
    let here : is_here (filling_in (cond (is_section_of w.height s.y) (get_or x.sections.items (section_index w.height s.y) None) None)) ≡ true = sym (ap is_here (of.sections s refl)) ∙ section_there w whole s has high in
    let at : is_here (filling_in (get_or x.sections.items k None)) ≡ true =
    sym (ap (λ b. is_here (filling_in (cond b (get_or x.sections.items (section_index w.height s.y) None) None))) high ∙ ap (λ j. is_here (filling_in (get_or x.sections.items j None))) (offset_number w.height k low)) ∙ here in
    here_is_some (get_or x.sections.items k d) (subst (λ o. is_here (filling_in o) ≡ true) (sym (get_or_default x.sections.items k d None below)) at)

-- and so has the chunk at an index
pub full_at_index : (w : World) (i : ℕ) (x : Chunk) (d : ChunkPos) → i < length w.positions.items → ((c : ChunkPos) → slice_get w.positions.items i ≡ Some c → IsChunkOf w c x) → IsUncarved w → IsFull x
full_at_index w i x d below of whole =
    let c = get_or w.positions.items i d in
    let at : slice_get w.positions.items i ≡ Some c = slice_get-get_or w.positions.items i d below in
    chunk_is_full w c x whole (of c at) (has_chunk_there w.positions.items c (rw (slot_of_index w.positions.items c i w.lawful.rising below at) below))
