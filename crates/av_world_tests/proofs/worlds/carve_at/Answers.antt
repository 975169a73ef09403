use Rattle.av_cells.specs.Grid.{among}
use Rattle.av_world.specs.Views.{grid}
use Rattle.av_world_tests.proofs.Plain.{parcel_kinds}
use Rattle.av_world_tests.proofs.worlds.carve_at.Goals as goal

pub returns-clause-numbers : goal.returns-clause-numbers
returns-clause-numbers c = parcel_kinds c.in_ok-parcel.parcel (grid c.args.world.now) (among c.as_slice.result.now) c.in_ok-parcel.ensures.out c.requires.numbers
