-- A region that was written of what was made of each chunk.
use Rattle.std.proofs.Common.{◌≡◌, ◌<◌, ◌∙◌, List, Option, Some, None, ℕ, arith, get_or}
use Rattle.std.specs.List.{slice_get}
use Rattle.std.proofs.lemmas.Option.{slice_get-get_or}
use Rattle.av_region.specs.Layout.{HoldsAll}
use Rattle.av_region.specs.Region.{stamp_of}
use Rattle.av_rewrite.specs.Regions.{AreMadeOf, AreStamps, HoldsMade, IsRegionMadeOf, none, one}

pub made_region : (Made : ℕ → List ℕ → List ℕ → Type 0) (old new : List ℕ) (payloads : List (Option (List ℕ))) (stamps : List ℕ)
    → AreMadeOf Made old 1024 payloads → AreStamps old 1024 stamps → HoldsAll new payloads stamps → IsRegionMadeOf Made old new
made_region Made old new payloads stamps made stamped holds = record {
  chunks = λ index lt. chunk index (get_or payloads index None) (there index lt);
  stamps = λ index lt. stamp index (get_or stamps index 0) (stamp_there index lt);
}
  where
    there : (index : ℕ) → index < 1024 → slice_get payloads index ≡ Some (get_or payloads index None)
    there index lt = slice_get-get_or payloads index None (let many = made.many in omega arith)

    stamp_there : (index : ℕ) → index < 1024 → slice_get stamps index ≡ Some (get_or stamps index 0)
    stamp_there index lt = slice_get-get_or stamps index 0 (let many = stamped.many in omega arith)

    chunk : (index : ℕ) (o : Option (List ℕ)) → slice_get payloads index ≡ Some o → HoldsMade Made old new index
    chunk index None e = none (made.each index None e) (holds.absent index e)
    chunk index (Some bytes) e =
        let of_old = made.each index (Some bytes) e in
        one of_old.0 bytes of_old.1 of_old.2 (holds.held index bytes e)

    stamp : (index s : ℕ) → slice_get stamps index ≡ Some s → stamp_of new index ≡ stamp_of old index
    stamp index s e = holds.stamped index s e ∙ stamped.each index s e
