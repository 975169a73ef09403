-- The table has the states that it had.
use Rattle.std.proofs.Common.{List, refl, subst}
use Rattle.av_tags.specs.View.{document}
use Rattle.av_state.specs.BlockState.{BlockState}
use Rattle.av_state.specs.Table.{states}
use Rattle.av_chunk.specs.Reading.{IsReading}
use Rattle.av_codec.proofs.reading.read_known.Goals as goal

pub returns-in-Ok : goal.returns-in-Ok
returns-in-Ok c =
    subst (λ (now : List BlockState). IsReading c.args.at c.args.height (document c.args.root) (states c.args.table.now) now c.in-Ok.read) (c.in-Ok.ensures.same refl) c.in-Ok.ensures.ok
