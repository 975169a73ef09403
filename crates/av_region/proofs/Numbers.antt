-- Numbers of four bytes.
use Rattle.std.proofs.Common.{◌≡◌, ◌∙◌, ℕ, ◌+◌, ◌-◌, ◌≤◌, List, [], length, drop, take, ap, arith}
use Rattle.std.specs.Int.{w32, from_be_bytes}
use Rattle.std.proofs.lemmas.List.{drop_all, take_all}
use Rattle.av_region.specs.Region.{number_at}

-- past the end there is no number but 0
pub number_at_past : (file : List ℕ) (position : ℕ) → length file ≤ position → number_at file position ≡ 0
unfolding number_at
number_at_past file position past =
    let none : drop position file ≡ [] = drop_all position file past in
    let short : take (position + 4 - position) [] ≡ [] = take_all (position + 4 - position) [] (omega arith) in
    ap (λ bytes. from_be_bytes w32 (take (position + 4 - position) bytes)) none ∙ ap (from_be_bytes w32) short

pub number_at_empty : (file : List ℕ) (position : ℕ) → length file ≡ 0 → number_at file position ≡ 0
number_at_empty file position e = number_at_past file position (omega arith)
