use Rattle.std.proofs.Common.{arith}
use Rattle.std.proofs.lemmas.Grind.{common_steps}
use Rattle.av_play.proofs.Labelling.{labelled_push}
use Rattle.av_play.proofs.turning.put_aside.Goals as goal

pub loop-entry-preserved : goal.loop-entry-preserved
loop-entry-preserved c =
    record {
      counted = omega arith;
      put = grind (arith, common_steps, labelled_push);
      room = grind (arith, common_steps);
    }
