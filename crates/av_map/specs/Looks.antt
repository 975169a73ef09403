-- What a block shows from above, by its name.
use Rattle.std.specs.Prelude.{ℕ, List, [], ◌∷◌, Bool, codes, if◌then◌else◌}
use Rattle.std.specs.List.{list_any}
use Rattle.std.specs.Str.{bytes_eq}
use Rattle.av_state.specs.BlockState.{BlockState}
use Rattle.av_map.specs.declared.look.Look.{Look}
use Rattle.av_map.specs.Colours.{NamedColour, block_colour, water_colour}

-- what is not seen
abbrev pub air_names : List (List ℕ)
air_names = codes "minecraft:air" ∷ codes "minecraft:cave_air" ∷ codes "minecraft:void_air" ∷ []

-- water, and what stands in water always
abbrev pub water_names : List (List ℕ)
water_names = codes "minecraft:water" ∷ codes "minecraft:bubble_column" ∷ codes "minecraft:kelp" ∷ codes "minecraft:kelp_plant"
    ∷ codes "minecraft:seagrass" ∷ codes "minecraft:tall_seagrass" ∷ []

abbrev pub is_among : List ℕ → List (List ℕ) → Bool
is_among name names = list_any (λ known. bytes_eq known name) names

abbrev pub look_of : List NamedColour → BlockState → Look
look_of named s = record {
  is_air = is_among s.name air_names;
  is_water = is_among s.name water_names;
  colour = if is_among s.name water_names then water_colour named else block_colour named s.name;
}
