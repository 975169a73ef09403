use Rattle.std.proofs.Common.{◌≡◌, length, map}
use Rattle.std.specs.Prelude.{option_map}
use Rattle.av_image.specs.SavingSteps.{payload_items, first_payloads}
use Rattle.av_dealt.specs.Dealt.{AreAtIndices}
use Rattle.av_image.specs.Making.{IsMade}
use Rattle.av_image.proofs.writing.dealt.in_order.Given as goal

abbrev pub invariant-loop-index : goal.invariant-loop-index
invariant-loop-index l =
    record {
      made : map (option_map payload_items) l.payloads.items ≡ first_payloads l.job.world.now l.job.kinds.now l.job.lights.now l.job.elapsed l.job.region.now l.index;
      long : length l.bytes.items ≡ 1024;
      own : AreAtIndices (IsMade l.job) l.bytes.items;
    }
