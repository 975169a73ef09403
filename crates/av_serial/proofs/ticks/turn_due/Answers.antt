use Rattle.std.proofs.Common.{◌∙◌, sym, subst, ◌≡◌, true, List}
use Rattle.std.specs.List.{list_all}
use Rattle.av_types.specs.declared.position.Pos.{Pos}
use Rattle.av_types.specs.declared.tick.Entry.{Entry}
use Rattle.av_rules.specs.Kinds.{kind_count}
use Rattle.av_world.specs.Views.{blocks}
use Rattle.av_serial.proofs.Keeps.{ready_left, ready_same}
use Rattle.av_serial.proofs.DueLoaded.{due_loaded}
use Rattle.av_serial.proofs.ticks.turn_due.Goals as goal

pub returns-in_default-clause-ready : goal.returns-in_default-clause-ready
returns-in_default-clause-ready c = ready_same (kind_count c.args.kinds.now) c.args.world.now c.take_due.new.self c.take_due.ensures.site c.in_default.ensures.unchanged c.requires.ready

pub turn_all-requires-clause-ready : goal.turn_all-requires-clause-ready
turn_all-requires-clause-ready c =
    ready_left (kind_count c.args.kinds.now) c.args.now c.args.world.now c.take_due.new.self c.take_due.ensures.site c.take_due.ensures.loaded c.in-Ok.ensures.left c.requires.ready

pub turn_all-requires-clause-loaded : goal.turn_all-requires-clause-loaded
turn_all-requires-clause-loaded c =
    subst (λ (f : Pos → _). list_all (λ (e : Entry). f e.pos) c.as_slice.result.now ≡ true) (sym c.take_due.ensures.loaded)
    (subst (λ (es : List Entry). list_all (λ (e : Entry). (blocks c.args.world.now).loaded e.pos) es ≡ true) (sym (c.as_slice.ensures.value ∙ c.in-Ok.ensures.due)) (due_loaded c.args.now c.args.world.now c.requires.ready.whole))
