use Rattle.std.proofs.Common.{inr, option_map}
use Rattle.av_types.proofs.Exits.{err_from}
use Rattle.av_queries.specs.CheckCommand.{IsUnreadCheck}
use Rattle.av_queries.proofs.checking.read_inputs.Goals as goal

pub returns-in_err-read_readable-clause-unread : goal.returns-in_err-read_readable-clause-unread
returns-in_err-read_readable-clause-unread g c =
    err_from c.from_residual-in_err-read_readable.result c.in_err-read_readable.field-0.0 (λ e. IsUnreadCheck c.args.folder.now (option_map (λ t. t.now) c.args.table) e.fault)
    c.from_residual-in_err-read_readable.ensures.1 (inr c.in_err-read_readable.ensures.unlisted)
