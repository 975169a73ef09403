use Rattle.std.proofs.Common.{ℕ, ◌≤◌, ap, arith}
use Rattle.av_rules.specs.Kinds.{kind_count}
use Rattle.av_land.specs.Land.{Land}
use Rattle.av_world.specs.Views.{blocks}
use Rattle.av_inter_tests.proofs.Taken.{kinds_left}
use Rattle.av_inter_tests.proofs.parts.started.Goals as goal

pub new-requires-clause-kinds : goal.new-requires-clause-kinds
new-requires-clause-kinds c =
    let count : 11 ≤ kind_count c.args.kinds.now = omega (arith, c.count.ensures, c.if-count-lt11.false) in
    kinds_left (kind_count c.args.kinds.now) (blocks c.args.world) (blocks c.take_due.new.self) count c.take_due.ensures.loaded (ap (λ (w : Land ℕ). w.at) c.in_ok-due.ensures.left) c.requires.numbers
