use Rattle.std.proofs.Common.{◌∙◌, ap, sym}
use Rattle.av_cells.specs.World as cells
use Rattle.av_world.specs.ParcelViews.{blocks, lists}
use Rattle.av_world_tests.proofs.Staying.{stays_by_add}
use Rattle.av_world_tests.proofs.worlds.put_aside.Goals as goal

pub returns : goal.returns
returns c = λ h ps l part.
    let e = c.in_ok-prepare_set.ensures in let f = c.add.ensures in
    let old = c.args.parcel.now in let mid = c.prepare_set.new.self in let new = c.add.new.self in
    stays_by_add h ps l (blocks old) (blocks mid) (blocks new) (lists old) (lists mid) (lists new) c.args.entry e.same e.lists f.changed f.lists
    (ap (λ (w : cells.World). w.loaded c.args.entry.pos) e.same ∙ (sym c.loaded.ensures ∙ c.if-not-loaded.false)) part
