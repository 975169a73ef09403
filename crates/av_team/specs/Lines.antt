-- What the threads of one tick share, and their passes.
use Rattle.std.specs.Prelude.{◌≡◌}
use Rattle.av_rules.specs.declared.kinds.Kinds.{Kinds}
use Rattle.av_line.specs.Shown.{LineShown, PassShown}
use Rattle.av_lending.specs.declared.plans.Plan.{Plan}
use Rattle.av_lending.specs.Plans.{IsPlanOf}
use Rattle.av_team.specs.declared.lines.Desk.{Desk}
use Rattle.av_team.specs.declared.lines.Passes.{Passes}

-- the plan is one of these kinds and of the groups
abbrev pub IsDeskOf : Desk → Kinds → Type 0
IsDeskOf d k = IsPlanOf d.plan k d.groups

-- the pass is of that line, all of whose items are of that plan
pub record IsPassOf (line : LineShown) (p : Plan) (q : PassShown Plan) : Type 0 where
  pub line_is : q.line ≡ line.line
  pub plan_is : q.plan ≡ p

-- a pass of the line of work, one of the line of what comes back, and one of that of the tick's world
pub record ArePassesOf (d : Desk) (q : Passes) : Type 0 where
  pub of_works : IsPassOf d.works d.plan q.works
  pub of_backs : IsPassOf d.backs d.plan q.backs
  pub of_keepers : IsPassOf d.keepers d.plan q.keepers
