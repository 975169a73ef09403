use Rattle.std.proofs.Common.{◌≡◌, true, sym, subst}
use Rattle.std.specs.List.{list_all}
use Rattle.av_types.specs.declared.position.Pos.{Pos}
use Rattle.av_types.specs.declared.tick.Entry.{Entry}
use Rattle.av_rules.specs.Kinds.{kind_count}
use Rattle.av_serial.proofs.Keeps.{ready_left}
use Rattle.av_team.proofs.here.turn_here.Goals as goal

pub turn_all-requires-clause-ready : goal.turn_all-requires-clause-ready
turn_all-requires-clause-ready c =
    ready_left (kind_count c.args.kinds.now) c.args.now c.args.world.now c.leave_due.new.self c.leave_due.ensures.site c.leave_due.ensures.loaded c.leave_due.ensures.left c.requires.ready

pub turn_all-requires-clause-loaded : goal.turn_all-requires-clause-loaded
turn_all-requires-clause-loaded c =
    subst (λ (f : Pos → _). list_all (λ (e : Entry). f e.pos) c.args.entries.now ≡ true) (sym c.leave_due.ensures.loaded) c.requires.loaded
