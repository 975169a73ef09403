use Rattle.std.proofs.Common.{◌≡◌, ◌++◌, drop}
use Rattle.av_state.specs.Views.{properties_of}
use Rattle.av_state.specs.Words.{more_text}
use Rattle.av_state.proofs.state.write_more.Given as goal

abbrev pub invariant-loop-property : goal.invariant-loop-property
invariant-loop-property l = l.text.items ++ more_text (properties_of (drop l.property-index l.properties)) ≡ l.initial.text.items ++ more_text (properties_of l.properties)
