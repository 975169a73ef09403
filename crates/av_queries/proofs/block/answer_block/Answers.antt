use Rattle.av_queries.specs.BlockCommand.{answered}
use Rattle.av_queries.proofs.block.answer_block.Goals as goal

pub returns-in-Ok-clause-ran : goal.returns-in-Ok-clause-ran
returns-in-Ok-clause-ran g c = answered c.as_slice.result.now c.in-Ok.height c.in-Ok.ensures.height c.block_text.ensures
