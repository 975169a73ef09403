-- What is written at the first indices of a region, one index more, and at all.
use Rattle.std.proofs.Common.{◌≡◌, ◌∙◌, ◌≤◌, ◌+◌, ◌++◌, ◌∷◌, [], ℕ, List, Option, map, ap, sym, arith}
use Rattle.std.specs.Prelude.{option_map, slice_get}
use Rattle.std.proofs.lemmas.List.{map-append}
use Rattle.std.proofs.lemmas.List.FromFn.{map-range_with_len_more}
use Rattle.av_types.specs.Positions.{chunk_at}
use Rattle.av_rules.specs.declared.kinds.Kinds.{Kinds}
use Rattle.av_chunk.specs.declared.light.ChunkLight.{ChunkLight}
use Rattle.av_world.specs.declared.worlds.World.{World}
use Rattle.av_image.specs.declared.writing.payloads.Payload.{Payload}
use Rattle.av_image.specs.declared.rest.RegionRest.{RegionRest}
use Rattle.av_image.specs.SavingSteps.{payload_items, slot_payload, first_payloads}

module _ (w : World) (k : Kinds) (ls : List ChunkLight) (n : ℕ) (r : RegionRest) where
  pub first_more : (xs ys : List (Option Payload)) (i : ℕ) (p : Option Payload) → ys ≡ xs ++ p ∷ []
      → map (option_map payload_items) xs ≡ first_payloads w k ls n r i → option_map payload_items p ≡ slot_payload w k ls n (chunk_at r.pos i) (slice_get r.slots.items i)
      → map (option_map payload_items) ys ≡ first_payloads w k ls n r (i + 1)
  first_more xs ys i p at e own =
      ap (map (option_map payload_items)) at
      ∙ (map-append (option_map payload_items) xs (p ∷ [])
      ∙ (ap (λ l. l ++ option_map payload_items p ∷ []) e
      ∙ (ap (λ x. first_payloads w k ls n r i ++ x ∷ []) own
      ∙ sym (map-range_with_len_more (λ j. slot_payload w k ls n (chunk_at r.pos j) (slice_get r.slots.items j)) 0 i i (omega arith)))))

  pub first_all : (xs : List (Option (List ℕ))) (i m : ℕ) → i ≤ m → m ≤ i → xs ≡ first_payloads w k ls n r i → xs ≡ first_payloads w k ls n r m
  first_all xs i m a b e = let same : i ≡ m = omega (arith, a, b) in e ∙ ap (first_payloads w k ls n r) same
