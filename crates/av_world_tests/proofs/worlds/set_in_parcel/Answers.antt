use Rattle.std.proofs.Common.{◌≤◌, arith}
use Rattle.av_rules.specs.Kinds.{kind_count}
use Rattle.av_cells.specs.Kinds.{kinds_of}
use Rattle.av_world.specs.ParcelViews.{blocks, lists}
use Rattle.av_world_tests.proofs.Plain.{kinds_more}
use Rattle.av_world_tests.proofs.Staying.{stays_by_awake}
use Rattle.av_world_tests.proofs.worlds.set_in_parcel.Goals as goal

pub set_awake-requires-clause-kinds : goal.set_awake-requires-clause-kinds
set_awake-requires-clause-kinds c =
    let count : 11 ≤ kind_count c.args.kinds.now = omega (arith, c.count.ensures, c.if-count-lt11.false) in
    kinds_more 11 (kind_count c.args.kinds.now) (blocks c.args.parcel.now) (blocks c.prepare_set.new.self) c.prepare_set.ensures.same count c.requires.numbers

pub returns : goal.returns
returns c = λ h ps l part.
    let e = c.in_ok-prepare_set.ensures in let f = c.set_awake.ensures in
    let old = c.args.parcel.now in let mid = c.prepare_set.new.self in let new = c.set_awake.new.cells in
    stays_by_awake h ps l (kinds_of c.args.kinds.now) c.args.now c.args.pos c.args.number (blocks old) (blocks mid) (blocks new) (lists old) (lists mid) (lists new) c.set_awake.result.items e.same e.lists f.changed f.listed part
