use Rattle.std.proofs.Common.{refl}
use Rattle.av_commands.specs.BlockCommand.{written, unwritten, refused}
use Rattle.av_commands.proofs.block.block_text.Goals as goal

pub returns-in-Ok-write_first : goal.returns-in-Ok-write_first
returns-in-Ok-write_first g c =
    written c.in-Ok.line.items c.in-Ok.ensures.line (rw c.as_slice.ensures.value at c.in-Ok-write_first.ensures.ok) refl

pub returns-in-Ok : goal.returns-in-Ok
returns-in-Ok g c =
    unwritten c.in-Ok.line.items c.in-Ok.ensures.line (rw c.as_slice.ensures.value at c.in-Err-write_first.ensures.err) c.report_output.ensures

pub returns : goal.returns
returns g c = refused c.in-Err.refusal c.in-Err.ensures.refused refl c.explain.ensures
