-- The entries of all lists, chunk after chunk.
use Rattle.std.proofs.Common.{◌≡◌, ℕ, zero, suc, ◌<◌, Bool, true, false, cond, List, [], ◌∷◌, ◌++◌, length, get_or, slice_get, filter, refl, sym, ap, ◌∙◌, arith, true≢false}
use Rattle.std.specs.List.{flat_map}
use Rattle.std.proofs.lemmas.List.Elements.{filter-append}
use Rattle.av_types.specs.declared.position.ChunkPos.{ChunkPos}
use Rattle.av_types.proofs.SamePositions.{same_chunk_is, same_chunk-refl}
use Rattle.av_ticks.specs.Ticks.{entries}
use Rattle.av_chunk.specs.declared.chunk.Chunk.{Chunk}
use Rattle.av_cells.specs.Positions.{same_chunk}
use Rattle.av_world.specs.Index.{slot, before, IsRising}
use Rattle.av_world.specs.Sections.{lists_of, entries_in}
use Rattle.av_world.proofs.Search.{not_before_self}

flat_map_same : {X Y : Type 0} (f g : X → List Y) (xs : List X) → ((j : ℕ) (d : X) → j < length xs → f (get_or xs j d) ≡ g (get_or xs j d)) → flat_map f xs ≡ flat_map g xs
flat_map_same f g [] h = refl
flat_map_same f g (x ∷ xs) h = ap (λ ys. ys ++ flat_map f xs) (h 0 x (omega arith)) ∙ ap (λ ys. g x ++ ys) (flat_map_same f g xs (λ j d below. h (suc j) d (omega arith)))

apart : (p q : ChunkPos) (b : Bool) → same_chunk p q ≡ b → before p q ≡ true → b ≡ false
apart p q true e h = absurd (true≢false (sym h ∙ (ap (λ r. before r q) (same_chunk_is p q e) ∙ not_before_self q)))
apart p q false e h = refl

pub lists_flat : (ps : List ChunkPos) (cs : List Chunk) → length ps ≡ length cs → IsRising ps → flat_map (lists_of ps cs) ps ≡ flat_map (λ c. entries c.ticks) cs
lists_flat [] [] long rising = refl
lists_flat [] (c ∷ cs) long rising = absurd (omega arith)
lists_flat (p ∷ ps) [] long rising = absurd (omega arith)
lists_flat (p ∷ ps) (c ∷ cs) long rising =
    ap (λ b. entries_in (slice_get (c ∷ cs) (cond b zero (suc (slot ps p)))) ++ flat_map (lists_of (p ∷ ps) (c ∷ cs)) ps) (same_chunk-refl p)
    ∙ ap (λ es. entries c.ticks ++ es)
    (flat_map_same (lists_of (p ∷ ps) (c ∷ cs)) (lists_of ps cs) ps (λ j d below. ap (λ b. entries_in (slice_get (c ∷ cs) (cond b zero (suc (slot ps (get_or ps j d)))))) (apart p (get_or ps j d) (same_chunk p (get_or ps j d)) refl (rising 0 (suc j) d (omega arith) (omega arith))))
    ∙ lists_flat ps cs (omega arith) (λ i j d lt below. rising (suc i) (suc j) d (omega arith) (omega arith)))

pub filter_flat : {X Y : Type 0} (t : Y → Bool) (f : X → List Y) (xs : List X) → filter t (flat_map f xs) ≡ flat_map (λ x. filter t (f x)) xs
filter_flat t f [] = refl
filter_flat t f (x ∷ xs) = filter-append t (f x) (flat_map f xs) ∙ ap (λ ys. filter t (f x) ++ ys) (filter_flat t f xs)
