-- The tags of the numbers that came.
use Rattle.std.proofs.Common.{◌≡◌, map, take}
use Rattle.std.specs.Prelude.{slice_index_or}
use Rattle.av_tags.specs.View.{views}
use Rattle.av_state.specs.BlockState.{air}
use Rattle.av_state.specs.Table.{states}
use Rattle.av_section.specs.Palette.{state_tag}
use Rattle.av_section.proofs.writing.state_tags.Given as goal

abbrev pub invariant-loop-number : goal.invariant-loop-number
invariant-loop-number l = views l.tags.items ≡ map (λ n. state_tag (slice_index_or (states l.table) n air)) (take l.number-index l.numbers)
