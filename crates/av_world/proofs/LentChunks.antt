-- A chunk more that is lent.
use Rattle.std.proofs.Common.{◌≡◌, ℕ, zero, suc, ◌<◌, ◌≤◌, ◌||◌, ◌+◌, ◌∷◌, ◌++◌, take, Bool, true, false, cond, List, [], length, get_or, Option, None, refl, sym, ap, subst, ◌∙◌, arith, ◌⊎◌, inl, inr, All, true≢false}
use Rattle.std.proofs.lemmas.Bool.{cases_lt}
use Rattle.std.specs.List.{AllPairs}
use Rattle.std.proofs.lemmas.List.{take_more, get_or_default}
use Rattle.std.proofs.lemmas.Option.{get_or_from_slice_get}
use Rattle.av_types.specs.Positions.{region_of, IsInLimits, chunk_of_section, section_of, is_section_of, section_index}
use Rattle.av_types.specs.declared.position.ChunkPos.{ChunkPos}
use Rattle.av_types.specs.declared.position.SectionPos.{SectionPos}
use Rattle.av_types.specs.declared.position.Height.{Height}
use Rattle.av_types.proofs.SamePositions.{same_chunk_is}
use Rattle.av_ticks.specs.Ticks.{entries}
use Rattle.av_document.specs.Ticks.{lies_in}
use Rattle.av_section.specs.declared.section.Section.{Section}
use Rattle.av_chunk.specs.declared.chunk.Chunk.{Chunk}
use Rattle.av_cells.specs.Positions.{same_chunk}
use Rattle.av_cells.specs.Grid.{is_here}
use Rattle.av_land.specs.Land.{has_chunk}
use Rattle.av_world.specs.Chunks.{IsChunkOf}
use Rattle.av_world.specs.Index.{slot}
use Rattle.av_world.specs.Inserted.{IsNewChunk, Inserts, chunk_grid, with_chunk, with_list}
use Rattle.av_world.specs.Lending.{IsBare, IsExchanged, IsLent}
use Rattle.av_world.specs.Sections.{filling_in}
use Rattle.av_world.specs.Views.{height_of, positions_of, is_broken, grid, lists}
use Rattle.av_world.specs.declared.worlds.World.{World}
use Rattle.av_world.proofs.ChunkReads.{has_chunk_there, slot_there}
use Rattle.av_world.proofs.Filled.{has_inserted}
use Rattle.av_world.proofs.Parts.{past_none}
use Rattle.av_world.proofs.Search.{slot_most}

-- ---- a bare chunk

out_at : (xs : List (Option Section)) (i : ℕ) → All (λ o. o ≡ None) xs → get_or xs i None ≡ None
out_at xs i h = by (cases_lt i (length xs)) where
  by : (i < length xs) ⊎ (length xs ≤ i) → get_or xs i None ≡ None
  by (inl l) = h i None l
  by (inr l) = past_none xs i l

pub bare_grid : (h : Height) (x : Chunk) (s : SectionPos) → IsBare h x → chunk_grid h x s ≡ None
bare_grid h x s b = by (is_section_of h s.y) where
  by : (t : Bool) → filling_in (cond t (get_or x.sections.items (section_index h s.y) None) None) ≡ None
  by true = ap filling_in (out_at x.sections.items (section_index h s.y) b.out)
  by false = refl

pub bare_fits : (c : ChunkPos) (h : Height) (x : Chunk) → IsBare h x → IsNewChunk c h x
bare_fits c h x b =
    record {
      whole = b.count;
      within = subst (All (λ e. lies_in c h e.pos ≡ true)) (sym b.no_entry) (λ n d l. absurd (omega (arith, l)));
      tied = λ p e t. absurd (true≢false (sym t ∙ ap is_here (bare_grid h x (section_of p) b)));
    }

-- ---- what is absent

pub absent_slot : (ps : List ChunkPos) (c : ChunkPos) → has_chunk ps c ≡ false → slot ps c ≡ length ps
absent_slot ps c h = by (cases_lt (slot ps c) (length ps)) where
  by : (slot ps c < length ps) ⊎ (length ps ≤ slot ps c) → slot ps c ≡ length ps
  by (inl l) = absurd (true≢false (sym (has_chunk_there ps c l) ∙ h))
  by (inr l) = let m = slot_most ps c in omega (arith, l, m)

pub has_more : (ps qs : List ChunkPos) (c d : ChunkPos) → Inserts ps c qs → has_chunk qs d ≡ same_chunk c d || has_chunk ps d
has_more ps qs c d ins = ap (λ (rs : List ChunkPos). has_chunk rs d) ins.is ∙ has_inserted ps ins.index c d

-- ---- one chunk more

module _ (old mid new lent more : World) (c : ChunkPos) (bare x : Chunk) (was : IsLent old mid lent) (bare_is : IsBare (height_of mid) bare) (exchanged : IsExchanged mid new c bare) (of : IsChunkOf mid c x)
    (absent : has_chunk (positions_of lent) c ≡ false) (height : height_of lent ≡ height_of mid) (same_height : height_of more ≡ height_of lent)
    (grid_more : grid more ≡ with_chunk (grid lent) c (chunk_grid (height_of lent) x)) (lists_more : lists more ≡ with_list (lists lent) c (entries x.ticks)) (ins : Inserts (positions_of lent) c (positions_of more)) where
  has : (d : ChunkPos) → has_chunk (positions_of more) d ≡ same_chunk c d || has_chunk (positions_of lent) d
  has d = has_more (positions_of lent) (positions_of more) c d ins

  -- the chunk was not lent before
  not_lent : (d : ChunkPos) → same_chunk c d ≡ true → has_chunk (positions_of lent) d ≡ false
  not_lent d e = ap (has_chunk (positions_of lent)) (sym (same_chunk_is c d e)) ∙ absent

  lent_grid : (s : SectionPos) → grid more s ≡ cond (has_chunk (positions_of more) (chunk_of_section s)) (grid old s) None
  lent_grid s = ap (λ g. g s) grid_more ∙ by (same_chunk c (chunk_of_section s)) refl ∙ ap (λ t. cond t (grid old s) None) (sym (has (chunk_of_section s))) where
    by : (t : Bool) → same_chunk c (chunk_of_section s) ≡ t → cond t (chunk_grid (height_of lent) x s) (grid lent s) ≡ cond (t || has_chunk (positions_of lent) (chunk_of_section s)) (grid old s) None
    by true e =
        ap (λ h. chunk_grid h x s) height ∙ sym (of.sections s (sym (same_chunk_is c (chunk_of_section s) e))) ∙ was.left_grid s
        ∙ ap (λ t. cond t None (grid old s)) (not_lent (chunk_of_section s) e)
    by false e = was.lent_grid s

  lent_lists : (d : ChunkPos) → lists more d ≡ cond (has_chunk (positions_of more) d) (lists old d) []
  lent_lists d = ap (λ l. l d) lists_more ∙ by (same_chunk c d) refl ∙ ap (λ t. cond t (lists old d) []) (sym (has d)) where
    by : (t : Bool) → same_chunk c d ≡ t → cond t (entries x.ticks) (lists lent d) ≡ cond (t || has_chunk (positions_of lent) d) (lists old d) []
    by true e = sym of.entries_are ∙ ap (lists mid) (same_chunk_is c d e) ∙ was.left_lists d ∙ ap (λ t. cond t [] (lists old d)) (not_lent d e)
    by false e = was.lent_lists d

  left_grid : (s : SectionPos) → grid new s ≡ cond (has_chunk (positions_of more) (chunk_of_section s)) None (grid old s)
  left_grid s = ap (λ g. g s) exchanged.grid_is ∙ by (same_chunk c (chunk_of_section s)) ∙ ap (λ t. cond t None (grid old s)) (sym (has (chunk_of_section s))) where
    by : (t : Bool) → cond t (chunk_grid (height_of mid) bare s) (grid mid s) ≡ cond (t || has_chunk (positions_of lent) (chunk_of_section s)) None (grid old s)
    by true = bare_grid (height_of mid) bare s bare_is
    by false = was.left_grid s

  left_lists : (d : ChunkPos) → lists new d ≡ cond (has_chunk (positions_of more) d) [] (lists old d)
  left_lists d = ap (λ l. l d) exchanged.lists_are ∙ by (same_chunk c d) ∙ ap (λ t. cond t [] (lists old d)) (sym (has d)) where
    by : (t : Bool) → cond t (entries bare.ticks) (lists mid d) ≡ cond (t || has_chunk (positions_of lent) d) [] (lists old d)
    by true = bare_is.no_entry
    by false = was.left_lists d

  pub lent_more : IsLent old new more
  lent_more = record {
    lent_grid = lent_grid;
    lent_lists = lent_lists;
    left_grid = left_grid;
    left_lists = left_lists;
    lent_height = same_height ∙ was.lent_height;
    height_is = exchanged.height_is ∙ was.height_is;
    positions_are = exchanged.positions_are ∙ was.positions_are;
    broken_is = exchanged.broken_is ∙ was.broken_is;
  }

-- the position of a chunk that is there is in the limits
pub in_limits : (w : World) (c : ChunkPos) → slot (positions_of w) c < length (positions_of w) → IsInLimits (region_of c)
in_limits w c l = subst (λ d. IsInLimits (region_of d)) (get_or_from_slice_get (positions_of w) (slot (positions_of w) c) c c (slot_there (positions_of w) c l)) (w.lawful.limits (slot (positions_of w) c) c l)

-- ---- one after the other

pub lent_begins : (w lent : World) → ((s : SectionPos) → grid lent s ≡ None) → ((c : ChunkPos) → lists lent c ≡ []) → height_of lent ≡ height_of w → positions_of lent ≡ [] → IsLent w w lent
lent_begins w lent no_grid no_lists height no_position = record {
  lent_grid = λ s. no_grid s ∙ ap (λ t. cond t (grid w s) None) (sym (none (chunk_of_section s)));
  lent_lists = λ c. no_lists c ∙ ap (λ t. cond t (lists w c) []) (sym (none c));
  left_grid = λ s. ap (λ t. cond t None (grid w s)) (sym (none (chunk_of_section s)));
  left_lists = λ c. ap (λ t. cond t [] (lists w c)) (sym (none c));
  lent_height = height;
  height_is = refl;
  positions_are = refl;
  broken_is = refl;
} where
  none : (c : ChunkPos) → has_chunk (positions_of lent) c ≡ false
  none c = ap (λ (ps : List ChunkPos). has_chunk ps c) no_position

has_push : (ps : List ChunkPos) (c d : ChunkPos) → has_chunk (ps ++ c ∷ []) d ≡ same_chunk c d || has_chunk ps d
has_push [] c d = refl
has_push (p ∷ ps) c d = ap (λ t. same_chunk p d || t) (has_push ps c d) ∙ swap (same_chunk p d) (same_chunk c d) (has_chunk ps d) where
  swap : (x y z : Bool) → x || (y || z) ≡ y || (x || z)
  swap true true z = refl
  swap true false z = refl
  swap false true z = refl
  swap false false z = refl

-- one more of the first
pub has_next : (ps : List ChunkPos) (i : ℕ) (c d : ChunkPos) → i < length ps → has_chunk (take (i + 1) ps) d ≡ same_chunk (get_or ps i c) d || has_chunk (take i ps) d
has_next ps i c d l = ap (λ (qs : List ChunkPos). has_chunk qs d) (take_more ps i c l) ∙ has_push (take i ps) (get_or ps i c) d

none_of : (ps : List ChunkPos) (c : ChunkPos) (i : ℕ) → ((k : ℕ) (d : ChunkPos) → k < i → same_chunk (get_or ps k d) c ≡ false) → has_chunk (take i ps) c ≡ false
none_of ps c zero h = refl
none_of [] c (suc i) h = refl
none_of (p ∷ ps) c (suc i) h = by (same_chunk p c) (h zero p (omega arith)) (none_of ps c i (λ k d m. h (suc k) d (omega (arith, m)))) where
  by : (t : Bool) → t ≡ false → has_chunk (take i ps) c ≡ false → t || has_chunk (take i ps) c ≡ false
  by t e rest = rw (e, rest) refl

-- each is named once
pub not_before : (ps : List ChunkPos) (i : ℕ) (c : ChunkPos) → AllPairs (λ c d. same_chunk c d ≡ false) ps → i < length ps → has_chunk (take i ps) (get_or ps i c) ≡ false
not_before ps i c apart l = none_of ps (get_or ps i c) i (λ k d m. subst (λ x. same_chunk (get_or ps k d) x ≡ false) (get_or_default ps i d c l) (apart k i d m l))

-- the chunks of the first i positions are lent
pub record IsLending (old now lent : World) (at : List ChunkPos) (i : ℕ) : Type 0 where
  pub lent_is : IsLent old now lent
  pub chunks : (c : ChunkPos) → has_chunk (positions_of lent) c ≡ has_chunk (take i at) c
  pub broken : is_broken lent ≡ is_broken old
