use Rattle.std.proofs.Common.{Result, Ok, Err, IfOk, OnOk}
use Rattle.av_run.proofs.Inputs.{can_run}
use Rattle.av_bench.proofs.running.read.Goals as goal

if_ok : {A E : Type 0} (r : Result A E) (F : Type 0) (P Q : A → Type 0) → OnOk r F → IfOk r P → ((x : A) → F → P x → Q x) → IfOk r Q
if_ok (Ok x) F P Q few h f = f x few h
if_ok (Err e) F P Q few h f = tt

pub returns : goal.returns
returns g c = if_ok c.read_input.result _ _ _ c.read_input.ensures.few c.read_input.ensures.ok (λ i few h. can_run _ _ _ c.args.ticks i few.few_ticks h)
