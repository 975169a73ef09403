use Rattle.std.proofs.Common.{All, get_or, subst}
use Rattle.std.proofs.lemmas.Option.{slice_get-get_or}
use Rattle.av_lending.specs.Brought.{IsReadyAt}
use Rattle.av_lending.proofs.lender.find.Goals as goal

pub returns-in-None : goal.returns-in-None
returns-in-None c =
    let g = get_or c.args.groups.now c.in_ok-number.number c.index-groups-number.result in
    (g, slice_get-get_or c.args.groups.now c.in_ok-number.number c.index-groups-number.result c.if-number-groups.false, subst (All (IsReadyAt c.args.stages.now)) c.as_slice.ensures.value c.in-None.ensures)
