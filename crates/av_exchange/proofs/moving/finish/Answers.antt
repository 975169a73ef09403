use Rattle.std.proofs.Common.{map}
use Rattle.av_types.proofs.Exits.{on_err_from}
use Rattle.av_exchange.specs.Outcomes.{name_of}
use Rattle.av_exchange.proofs.Stepwise.{all_finished, stopped_moving, stopped_closing}
use Rattle.av_exchange.proofs.moving.finish.Goals as goal

pub returns-in_err-settle_left-clause-err : goal.returns-in_err-settle_left-clause-err
returns-in_err-settle_left-clause-err g c = on_err_from c.from_residual.result (stopped_moving _ _ _ c.in_err-settle_left.ensures.err)

pub returns-in_err-drop_journal-clause-err : goal.returns-in_err-drop_journal-clause-err
returns-in_err-drop_journal-clause-err g c =
    on_err_from c.from_residual-in_err-drop_journal.result (stopped_closing (map name_of c.args.moves.now) _ _ _ c.in_ok-settle_left.ensures.ok c.in_err-drop_journal.ensures.err)

pub returns-clause-ok : goal.returns-clause-ok
returns-clause-ok g c = all_finished (map name_of c.args.moves.now) _ _ _ c.in_ok-settle_left.ensures.ok c.in_ok-drop_journal.ensures.ok
