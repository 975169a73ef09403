use Rattle.std.proofs.Common.{◌<◌, Bor, List, ℕ}
use Rattle.std.specs.Prelude.{slice_index_or}
use Rattle.av_requests.specs.Skipping.{IsSkipped}
use Rattle.av_requests.proofs.skipping.judge_skips.Given as goal

abbrev pub invariant-loop-name : goal.invariant-loop-name
invariant-loop-name g l = (k : ℕ) (d : Bor (List ℕ)) → k < l.name-index → IsSkipped (slice_index_or l.names k d).now
