-- What water and light ask of a block state, by the rows of a block table.
use Rattle.std.specs.Prelude.{ℕ, ℤ, List, [], ◌∷◌, Bool, true, false, ◌&&◌, ◌||◌, if◌then◌else◌, Option, Some, None, codes}
use Rattle.std.specs.List.{list_any}
use Rattle.std.specs.Str.{bytes_eq}
use Rattle.av_types.specs.declared.water.Wet.{Wet}
use Rattle.av_types.specs.declared.water.Wet.TheVariants.{Source}
use Rattle.av_state.specs.BlockState.{Property, BlockState, air_name, water_name, value_of, wet_of}
use Rattle.av_rules.specs.declared.row.Row.{Row}

-- a row of a table: the states that it is for, and what it says of them
pub record TableRow : Type 0 where
  pub name : List ℕ
  pub properties : List Property
  pub row : Row

-- a table: whether states may be soaked, its rows, and the sections of the world
pub record BlockTable : Type 0 where
  pub soaks : Bool
  pub rows : List TableRow
  pub min_section : ℤ
  pub sections : ℕ

-- what is built in
abbrev pub air_row : Row
air_row = record { opens = true; floor = false; opacity = 0; emission = 0; wet = false }

abbrev pub water_row : Row
water_row = record { opens = false; floor = false; opacity = 1; emission = 0; wet = false }

-- a state that no row is for is shut
abbrev pub shut_row : Row
shut_row = record { opens = false; floor = true; opacity = 15; emission = 0; wet = false }

-- the property is there with that value
abbrev pub is_value : List ℕ → Option (List ℕ) → Bool
is_value v None = false
is_value v (Some w) = bytes_eq v w

abbrev pub has_property : List Property → Property → Bool
has_property properties p = is_value p.value (value_of p.key properties)

abbrev pub has_properties : List Property → List Property → Bool
has_properties properties [] = true
has_properties properties (p ∷ ps) = has_property properties p && has_properties properties ps

-- the name is equal, and each property given is there with that value
abbrev pub is_for : TableRow → BlockState → Bool
is_for t s = bytes_eq t.name s.name && has_properties s.properties t.properties

-- the first row that is for a state
abbrev pub first_row : List TableRow → BlockState → Row
first_row [] s = shut_row
first_row (t ∷ ts) s = if is_for t s then t.row else first_row ts s

abbrev pub waterlogged : Property
waterlogged = record { key = codes "waterlogged"; value = codes "true" }

-- soaked by the row or by its property, where the table lets states be soaked
abbrev pub with_soaking : Bool → BlockState → Row → Row
with_soaking soaks s r = record r { wet = soaks && (r.wet || has_property s.properties waterlogged) }

-- what a table says of a state
abbrev pub row_of : BlockTable → BlockState → Row
row_of t s =
    if bytes_eq s.name air_name then air_row
    else if bytes_eq s.name water_name then water_row
    else with_soaking t.soaks s (first_row t.rows s)

-- Whether a table has a row for a state: air and water are built in, and any other needs one that is for it.
abbrev pub has_row : BlockTable → BlockState → Bool
has_row t s = bytes_eq s.name air_name || bytes_eq s.name water_name || list_any (λ r. is_for r s) t.rows

-- a soaked state is a source; any other is as wet as its name says
abbrev pub wet_by : Row → BlockState → Wet
wet_by row s = if row.wet then Source else wet_of s

abbrev pub wet_in : BlockTable → BlockState → Wet
wet_in t s = wet_by (row_of t s) s
