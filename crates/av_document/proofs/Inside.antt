-- A chunk is written by its own blocks, entries and light alone.
use Rattle.std.proofs.Common.{◌≡◌, ℕ, zero, suc, ◌+◌, ◌<◌, ℤ, List, [], ◌∷◌, ◌++◌, Bool, true, false, cond, Some, refl, arith}
use Rattle.std.specs.Prelude.{map, codes}
use Rattle.std.specs.List.{AllByRecursion, range_with_len}
use Rattle.av_types.specs.Positions.{is_section_of}
use Rattle.av_types.specs.declared.position.Pos.{Pos}
use Rattle.av_types.specs.declared.position.ChunkPos.{ChunkPos}
use Rattle.av_types.specs.declared.position.Height.{Height}
use Rattle.av_types.specs.declared.tick.Entry.{Entry}
use Rattle.av_tags.specs.Nbt.{byte_array, members_of}
use Rattle.av_tags.specs.ByName.{with_tag}
use Rattle.av_state.specs.BlockState.{BlockState}
use Rattle.av_document.specs.Ticks.{lies_in}
use Rattle.av_document.specs.Chunk.{RestOfChunk}
use Rattle.av_document.specs.Law.{LooksInside}
use Rattle.av_document.specs.Layout.{section_at, section_layout, states_layout, states_of, section_numbers, all_of, compounds, entry_layout, block_at}
use Rattle.av_document.proofs.Positions.{lies_in-block_at}

pub map_range_agree : {X : Type 0} (f g : ℕ → X) (a n : ℕ) → ((i : ℕ) → i < a + n → f i ≡ g i) → map f (range_with_len a n) ≡ map g (range_with_len a n)
map_range_agree f g a zero h = refl
map_range_agree f g a (suc n) h =
    let first = h a (omega arith) in
    let rest = map_range_agree f g (a + 1) n (λ i less. h i (omega arith)) in
    λ i. first i ∷ rest i

pub map_same : {X Y : Type 0} (f g : X → Y) (xs : List X) → AllByRecursion (λ x. f x ≡ g x) xs → map f xs ≡ map g xs
map_same f g [] h = refl
map_same f g (x ∷ xs) h = let rest = map_same f g xs h.1 in λ i. h.0 i ∷ rest i

entries_same : (a b : Pos → Bool) (n : ℕ) (es : List Entry) → AllByRecursion (λ e. a e.pos ≡ b e.pos) es → map (λ e. entry_layout (a e.pos) n e) es ≡ map (λ e. entry_layout (b e.pos) n e) es
entries_same a b n [] h = refl
entries_same a b n (e ∷ es) h =
    let first = h.0 in
    let rest = entries_same a b n es h.1 in
    λ i. entry_layout (first i) n e ∷ rest i

states_same : (f g : ℕ → BlockState) → ((i : ℕ) → i < 4096 → f i ≡ g i) → states_of f ≡ states_of g
states_same f g h = map_range_agree f g 0 4096 (λ i less. h i (omega (arith, less)))

section_same : (c : ChunkPos) (h : Height) (f g : Pos → BlockState) (r : RestOfChunk) (l m : ℤ → List ℕ) (y : ℤ) → ((p : Pos) → lies_in c h p ≡ true → f p ≡ g p) → (is_section_of h y ≡ true → l y ≡ m y)
    → section_at c h f r l y ≡ section_at c h g r m y
section_same c h f g r l m y same lit = by (is_section_of h y) refl where
  by : (t : Bool) → is_section_of h y ≡ t → cond t (Some (section_layout (r.section y) (λ i. f (block_at c y i)) (l y))) (r.outside y) ≡ cond t (Some (section_layout (r.section y) (λ i. g (block_at c y i)) (m y))) (r.outside y)
  by true e =
      let states = states_same (λ i. f (block_at c y i)) (λ i. g (block_at c y i)) (λ i less. same (block_at c y i) (lies_in-block_at c h y i e less)) in
      let bytes = lit e in
      λ i. Some (with_tag (codes "BlockLight") (byte_array (bytes i)) (with_tag (codes "block_states") (states_layout (r.section y).states (states i)) (r.section y).tags))
  by false e = refl

pub layout_same : LooksInside
layout_same c h f g es a b r l m n same sources lit =
    let sections : (y : ℤ) → section_at c h f r l y ≡ section_at c h g r m y = λ y. section_same c h f g r l m y same (lit y) in
    let entries = entries_same a b n es sources in
    λ i. record {
      name = r.name;
      members = members_of (with_tag (codes "fluid_ticks") (compounds (r.foreign ++ entries i))
          (with_tag (codes "sections") (compounds (all_of (λ y. sections y i) section_numbers)) r.tags));
    }
