use Rattle.std.proofs.Common.{◌∙◌, refl, ◌+◌, drop, take, ◌-◌}
use Rattle.std.proofs.lemmas.List.Elements.{All-drop, All-take}
use Rattle.std.proofs.lemmas.Result.{on_ok_weaker, IfOk-weaker}
use Rattle.av_rules.specs.Kinds.{kind_count}
use Rattle.av_cells.specs.Kinds.{kinds_of}
use Rattle.av_land.proofs.Idle.{other_edits}
use Rattle.av_world.specs.Lands.{land_of}
use Rattle.av_edits.specs.Numbered.{number_sets}
use Rattle.av_serial.specs.Ready.{CanApply}
use Rattle.av_serial.proofs.Edits.{own_edits, passed_on}
use Rattle.av_serial.proofs.runs.next_tick.Goals as goal

pub tick_from-requires-clause-edits : goal.tick_from-requires-clause-edits
tick_from-requires-clause-edits g c = All-take (CanApply (kind_count c.args.kinds.now) c.args.world.now) _ _ (All-drop (CanApply (kind_count c.args.kinds.now) c.args.world.now) _ c.args.edits.now c.requires.edits)

pub returns-clause-done : goal.returns-clause-done
returns-clause-done g c =
    let s = c.requires.schedule in let e = c.end_of-to.ensures in
    let own = own_edits c.args.done (c.args.done + 1) c.args.schedule.now.from c.end_of-to.result c.args.edits.now refl e.from s.passed c.requires.sorted e.next in
    let same = other_edits (kinds_of c.args.kinds.now) (c.args.done + 1) (number_sets (take (c.end_of-to.result - c.args.schedule.now.from) (drop c.args.schedule.now.from c.args.edits.now))) (number_sets c.args.edits.now) (land_of c.args.world.now) own in
    on_ok_weaker c.tick_from.result (λ h. h ∙ same.world) c.tick_from.ensures.done

pub returns-clause-count : goal.returns-clause-count
returns-clause-count g c =
    let s = c.requires.schedule in let e = c.end_of-to.ensures in
    let own = own_edits c.args.done (c.args.done + 1) c.args.schedule.now.from c.end_of-to.result c.args.edits.now refl e.from s.passed c.requires.sorted e.next in
    let same = other_edits (kinds_of c.args.kinds.now) (c.args.done + 1) (number_sets (take (c.end_of-to.result - c.args.schedule.now.from) (drop c.args.schedule.now.from c.args.edits.now))) (number_sets c.args.edits.now) (land_of c.args.world.now) own in
    IfOk-weaker c.tick_from.result _ _ (λ x h. h ∙ same.count) c.tick_from.ensures.count

pub returns-clause-schedule : goal.returns-clause-schedule
returns-clause-schedule g c =
    let s = c.requires.schedule in let e = c.end_of-to.ensures in
    let passed = passed_on c.args.done (c.args.done + 1) c.args.schedule.now.from c.end_of-to.result c.args.edits.now refl s.passed e.passed in
    on_ok_weaker c.tick_from.result (λ h. record { within = e.within; passed = passed; later = h }) c.tick_from.ensures.next
