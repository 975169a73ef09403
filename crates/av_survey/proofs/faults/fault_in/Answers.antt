use Rattle.std.proofs.Common.{Option, sym, subst}
use Rattle.av_types.specs.declared.fault.Fault.{Fault}
use Rattle.av_codec.proofs.Found.{if_ok_then}
use Rattle.av_survey.specs.Survey.{IsFirstIn}
use Rattle.av_survey.proofs.faults.fault_in.Goals as goal

pub returns : goal.returns
returns c =
    if_ok_then c.found.result c.found.ensures
    (λ o is. subst (λ (x : Option Fault). IsFirstIn c.args.height c.args.payload.now c.args.at x) (sym is.1)
    (rw c.in-Ok.ensures.ok at (c.in-Err.ensures.err is.0)))
