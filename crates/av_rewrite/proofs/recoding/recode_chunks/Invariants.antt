use Rattle.std.proofs.Common.{map, option_map}
use Rattle.av_rewrite.specs.Regions.{AreMadeOf, IsRecoded}
use Rattle.av_rewrite.proofs.recoding.recode_chunks.Given as goal

abbrev pub invariant-loop-index : goal.invariant-loop-index
invariant-loop-index l = AreMadeOf (λ _. IsRecoded) l.region.bytes.now l.index (map (option_map (λ v. v.items)) l.payloads.items)
