use Rattle.std.proofs.Common.{◌∙◌, ap, subst}
use Rattle.av_rules.specs.Kinds.{kind_count}
use Rattle.av_cells.specs.Kinds.{kinds_of}
use Rattle.av_land.specs.Tick.{turned_all, without_due}
use Rattle.av_world.specs.Lands.{land_of}
use Rattle.av_world.specs.declared.worlds.World.{World}
use Rattle.av_serial.specs.Ready.{HasSameChunks}
use Rattle.av_serial.proofs.Keeps.{ready_left, chunks_on}
use Rattle.av_team.proofs.team.turn_groups.Goals as goal

pub returns-clause-done : goal.returns-clause-done
returns-clause-done g c =
    c.leave_due.ensures.left ∙ c.in_ok-turned.ensures.land_is
    ∙ ap (λ (w : World). turned_all (kinds_of c.args.kinds.now) c.args.now c.args.groups.entries.items (without_due c.args.now (land_of w))) c.replace-whole.ensures.value

pub returns-clause-ready : goal.returns-clause-ready
returns-clause-ready g c =
    ready_left (kind_count c.args.kinds.now) c.args.now c.in_ok-turned.turned c.leave_due.new.self c.leave_due.ensures.site c.leave_due.ensures.loaded c.leave_due.ensures.left c.in_ok-turned.ensures.ready

pub returns-clause-chunks : goal.returns-clause-chunks
returns-clause-chunks g c =
    chunks_on c.args.world.now c.in_ok-turned.turned c.leave_due.new.self (subst (λ (w : World). HasSameChunks w c.in_ok-turned.turned) c.replace-whole.ensures.value c.in_ok-turned.ensures.chunks)
    (record { site_is = c.leave_due.ensures.site; loaded_is = c.leave_due.ensures.loaded })
