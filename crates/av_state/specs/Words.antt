-- The text of a block state, as `minecraft:furnace[facing=north,lit=true]`.
use Rattle.std.specs.Prelude.{ℕ, List, [], ◌∷◌, ◌++◌, codes}
use Rattle.av_state.specs.BlockState.{Property, BlockState}

abbrev pub property_text : Property → List ℕ
property_text p = p.key ++ codes "=" ++ p.value

abbrev pub more_text : List Property → List ℕ
more_text [] = []
more_text (p ∷ ps) = codes "," ++ property_text p ++ more_text ps

abbrev pub properties_text : List Property → List ℕ
properties_text [] = []
properties_text (p ∷ ps) = codes "[" ++ property_text p ++ more_text ps ++ codes "]"

abbrev pub state_text : BlockState → List ℕ
state_text s = s.name ++ properties_text s.properties
