use Rattle.std.proofs.Common.{inr}
use Rattle.av_types.proofs.Exits.{err_from}
use Rattle.av_commands.specs.declared.block.refusal.Refusal.TheVariants as refusal
use Rattle.av_commands.specs.BlockCommand.{IsBlockRefusal}
use Rattle.av_commands.proofs.block.answer.Goals as goal

pub returns-in_err-block-clause-refused : goal.returns-in_err-block-clause-refused
returns-in_err-block-clause-refused c =
    err_from c.from_residual-in_err-block.result (refusal.Fault c.in_err-block.field-0.0)
    (IsBlockRefusal c.args.path.now c.args.bytes.now c.args.pos c.args.height)
    c.from_residual-in_err-block.ensures.1
    (inr (c.in_ok-region.region, c.in_ok-region.ensures.path, c.in_ok-region.ensures.limits, c.in_err-block.ensures.err))
