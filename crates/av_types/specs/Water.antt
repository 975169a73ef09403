-- How much water a block holds (minecraft.wiki, "Water").
use Rattle.std.specs.Prelude.{ℕ, ◌<◌, Bool, true, false}
use Rattle.av_types.specs.declared.water.Wet.{Wet}
use Rattle.av_types.specs.declared.water.Wet.TheVariants.{Dry, Source, Flow, Falling}

abbrev pub amount_of : Wet → ℕ
amount_of Dry = 0
amount_of Source = 8
amount_of (Flow amount) = amount
amount_of Falling = 8

abbrev pub is_wet : Wet → Bool
is_wet Dry = false
is_wet Source = true
is_wet (Flow amount) = true
is_wet Falling = true

abbrev pub is_source : Wet → Bool
is_source Dry = false
is_source Source = true
is_source (Flow amount) = false
is_source Falling = false

-- flowing water has an amount of 1 to 7
abbrev pub IsProper : Wet → Type 0
IsProper Dry = Unit {0}
IsProper Source = Unit {0}
IsProper (Flow amount) = (0 < amount) × (amount < 8)
IsProper Falling = Unit {0}
