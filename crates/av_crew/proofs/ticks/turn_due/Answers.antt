use Rattle.std.proofs.Common.{◌∙◌, ap, sym, subst, ◌≡◌, true, List}
use Rattle.std.specs.List.{list_all}
use Rattle.av_types.specs.declared.position.Pos.{Pos}
use Rattle.av_types.specs.declared.tick.Entry.{Entry}
use Rattle.av_rules.specs.Kinds.{kind_count}
use Rattle.av_cells.specs.World.{Site}
use Rattle.av_world.specs.Views.{blocks}
use Rattle.av_serial.proofs.Keeps.{ready_left}
use Rattle.av_serial.proofs.DueLoaded.{due_loaded}
use Rattle.av_crew.proofs.ticks.turn_due.Goals as goal

pub turn_in_groups-requires-clause-loaded : goal.turn_in_groups-requires-clause-loaded
turn_in_groups-requires-clause-loaded g c κs within =
    subst (λ (es : List Entry). list_all (λ (e : Entry). (blocks c.args.world.now).loaded e.pos) es ≡ true) (sym c.in_ok-entries.ensures) (due_loaded c.args.now c.args.world.now c.requires.ready.whole)

pub turn_taken-requires-clause-ready : goal.turn_taken-requires-clause-ready
turn_taken-requires-clause-ready g c κs within =
    ready_left (kind_count c.args.kinds.now) c.args.now c.args.world.now c.leave_due.new.self c.leave_due.ensures.site c.leave_due.ensures.loaded c.leave_due.ensures.left c.requires.ready

pub turn_taken-requires-clause-sound : goal.turn_taken-requires-clause-sound
turn_taken-requires-clause-sound g c κs within = ap (λ (x : Site). x.broken) c.leave_due.ensures.site ∙ c.requires.sound

pub turn_taken-requires-clause-loaded : goal.turn_taken-requires-clause-loaded
turn_taken-requires-clause-loaded g c κs within =
    subst (λ (f : Pos → _). list_all (λ (e : Entry). f e.pos) c.as_slice-due.result.now ≡ true) (sym c.leave_due.ensures.loaded)
    (subst (λ (es : List Entry). list_all (λ (e : Entry). (blocks c.args.world.now).loaded e.pos) es ≡ true) (sym (c.as_slice-due.ensures.value ∙ c.in_ok-entries.ensures)) (due_loaded c.args.now c.args.world.now c.requires.ready.whole))
