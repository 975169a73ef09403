use Rattle.std.proofs.Common.{option_map}
use Rattle.av_rewrite.specs.Regions.{IsRecoded}
use Rattle.av_rewrite.proofs.Growing.{one_more_seen}
use Rattle.av_rewrite.proofs.recoding.recode_chunks.Goals as goal

pub loop-index-preserved : goal.loop-index-preserved
loop-index-preserved c =
    one_more_seen (option_map (λ v. v.items)) (λ _. IsRecoded) c.args.region.now.bytes.now c.loop-index.index c.loop-index.payloads.items c.push.new.self.items c.in_ok-recode_chunk.field-0
    c.in_ok-push.ensures.items c.loop-index.invariant c.in_ok-recode_chunk.ensures
