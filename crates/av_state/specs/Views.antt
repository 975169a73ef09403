-- The block state that a value of the program stands for.
use Rattle.std.specs.Prelude.{List, map}
use Rattle.av_state.specs.declared.state.Property.{Property as PropertyValue}
use Rattle.av_state.specs.BlockState.{Property}

abbrev pub property_of : PropertyValue → Property
property_of p = record { key = p.key.items; value = p.value.items }

abbrev pub properties_of : List PropertyValue → List Property
properties_of = map property_of
