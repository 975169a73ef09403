-- There are as many numbers as entries.
use Rattle.std.proofs.Common.{ap, length, arith}
use Rattle.av_tags.specs.View.{view}
use Rattle.av_tags.proofs.Each.{each_many}
use Rattle.av_state.specs.States.{state_of}
use Rattle.av_section.specs.Palette.{state_in}
use Rattle.av_section.proofs.numbering.number_entries.Goals as goal

pub returns-clause-many : goal.returns-clause-many
returns-clause-many c =
    let many = each_many state_in view state_of c.args.entries.now c.in_ok-told.told.items c.in_ok-told.ensures.ok in
    omega (arith, c.in_ok-numbers-2.ensures.many, ap length c.as_slice.ensures.value, many)
