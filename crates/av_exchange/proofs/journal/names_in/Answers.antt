use Rattle.std.proofs.Common.{sym, subst}
use Rattle.av_exchange.specs.Names.{IsRegionName}
use Rattle.av_exchange.proofs.Stepwise.{all_more}
use Rattle.av_exchange.proofs.journal.names_in.Goals as goal

pub loop-line-preserved : goal.loop-line-preserved
loop-line-preserved c =
    all_more IsRegionName c.loop-line.names.items c.in_ok-from_str.field-0 _ c.in_ok-push.ensures.items c.loop-line.invariant
    (subst IsRegionName (sym c.in_ok-from_str.ensures.ok) (c.in_ok-is_region_name.ensures.is c.if-not-branch.false))
