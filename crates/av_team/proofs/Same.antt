-- Plans of one tick.
use Rattle.std.proofs.Common.{◌≡◌, ◌∙◌, sym}
use Rattle.av_lending.specs.declared.plans.Plan.{Plan}
use Rattle.av_line.specs.Shown.{LineShown, PassShown}
use Rattle.av_team.specs.Lines.{IsPassOf}

pub same_plan : (p q : Plan) → p.tick ≡ q.tick → p.kinds.value ≡ q.kinds.value → p.start.value ≡ q.start.value → p.groups.value ≡ q.groups.value → p ≡ q
same_plan p q tick kinds start groups = λ i. record { tick = tick i; kinds = record { marker = p.kinds.marker; value = kinds i }; start = record { marker = p.start.marker; value = start i }; groups = record { marker = p.groups.marker; value = groups i } }

-- a pass of a line that was opened with a plan like this one
pub pass_of : (line : LineShown) (p q : Plan) (s : PassShown Plan) → s.line ≡ line.line → s.plan ≡ q → p.tick ≡ q.tick → p.kinds.value ≡ q.kinds.value → p.start.value ≡ q.start.value → p.groups.value ≡ q.groups.value → IsPassOf line p s
pass_of line p q s here told tick kinds start groups = record { line_is = here; plan_is = told ∙ sym (same_plan p q tick kinds start groups) }
