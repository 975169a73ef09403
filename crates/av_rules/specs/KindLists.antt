-- The rows and the wetness of numbered states.
use Rattle.std.specs.Prelude.{◌≡◌, ℕ, ◌&&◌, nat_lt, nat_le, List, [], ◌∷◌, length, take, Bool, true}
use Rattle.std.specs.List.{list_all}
use Rattle.av_types.specs.declared.water.Wet.{Wet}
use Rattle.av_types.specs.declared.water.Wet.TheVariants.{Dry, Source, Flow, Falling}
use Rattle.av_rules.specs.declared.row.Row.{Row}
use Rattle.av_rules.specs.Rows.{air_row, water_row}

-- air, and water of the levels 0 to 8
abbrev pub first_rows : List Row
first_rows = air_row ∷ water_row ∷ water_row ∷ water_row ∷ water_row ∷ water_row ∷ water_row ∷ water_row ∷ water_row ∷ water_row ∷ []

abbrev pub first_wets : List Wet
first_wets = Dry ∷ Source ∷ Flow 7 ∷ Flow 6 ∷ Flow 5 ∷ Flow 4 ∷ Flow 3 ∷ Flow 2 ∷ Flow 1 ∷ Falling ∷ []

-- flowing water has an amount of 1 to 7
abbrev pub is_proper : Wet → Bool
is_proper Dry = true
is_proper Source = true
is_proper (Flow amount) = nat_lt 0 amount && nat_lt amount 8
is_proper Falling = true

-- light goes from 0 to 15
abbrev pub is_lit_properly : Row → Bool
is_lit_properly r = nat_le r.opacity 15 && nat_le r.emission 15

-- What every list of kinds keeps, for so many states.
pub record IsKindList (count : ℕ) (rows : List Row) (wets : List Wet) : Type 0 where
  pub a_row_each : length rows ≡ count
  pub a_wetness_each : length wets ≡ count
  pub rows_begin : take 10 rows ≡ first_rows
  pub wets_begin : take 10 wets ≡ first_wets
  pub proper : list_all is_proper wets ≡ true
  pub lit_properly : list_all is_lit_properly rows ≡ true
