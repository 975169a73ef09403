-- The block state that a name and properties stand for whose texts stand elsewhere.
use Rattle.std.specs.Prelude.{List, Option, option_and_then, map}
use Rattle.av_state.specs.declared.text.PropertyText.{PropertyText}
use Rattle.av_state.specs.declared.text.StateText.{StateText}
use Rattle.av_state.specs.BlockState.{Property, BlockState, in_order, storable, meant}

abbrev pub property_told : PropertyText → Property
property_told p = record { key = p.key.now; value = p.value.now }

abbrev pub properties_told : List PropertyText → List Property
properties_told = map property_told

abbrev pub state_told : StateText → BlockState
state_told s = record { name = s.name.now; properties = properties_told s.properties.now }

-- the form of a state that a file can hold, with its properties in order
abbrev pub form_of : BlockState → Option BlockState
form_of s = option_and_then meant (storable (record { name = s.name; properties = in_order s.properties }))
