use Rattle.av_map.specs.Views.{colours_of}
use Rattle.av_queries.specs.MapCommand.{none, read}
use Rattle.av_queries.proofs.drawing.read_colours.Goals as goal

pub returns-in_default : goal.returns-in_default
returns-in_default g c = rw (c.in_default.is, c.none.ensures) none

pub returns : goal.returns
returns g c = rw c.in-Some.is (read c.in-Some.name.now c.as_slice.result.now (colours_of c.in_ok-read.field-0) c.in_ok-read.ensures.ok)
