-- The row and the wetness of each number.
use Rattle.std.specs.Prelude.{◌≡◌, ℕ, ◌≤◌, ◌<◌, ◌-◌, List, length, slice_index_or}
use Rattle.av_types.specs.declared.water.Wet.{Wet}
use Rattle.av_types.specs.declared.water.Wet.TheVariants.{Dry, Source, Flow, Falling}
use Rattle.av_types.specs.Water.{IsProper}
use Rattle.av_state.specs.declared.table.StateTable.{StateTable}
use Rattle.av_state.specs.Table.{states}
use Rattle.av_rules.specs.declared.row.Row.{Row}
use Rattle.av_rules.specs.declared.kinds.Kinds.{Kinds}
use Rattle.av_rules.specs.Rows.{air_row, water_row, shut_row}

abbrev pub table_in : Kinds → StateTable
table_in k = k.table

-- the rows and the wetness in the order of the numbers
abbrev pub rows_in : Kinds → List Row
rows_in k = k.rows.items

abbrev pub wets_in : Kinds → List Wet
wets_in k = k.wets.items

-- how many numbers there are
abbrev pub kind_count : Kinds → ℕ
kind_count k = length (rows_in k)

-- a number that is none is shut and dry
abbrev pub row_at : Kinds → ℕ → Row
row_at k n = slice_index_or (rows_in k) n shut_row

abbrev pub wet_at : Kinds → ℕ → Wet
wet_at k n = slice_index_or (wets_in k) n Dry

-- What every Kinds keeps.
pub record AreKinds (k : Kinds) : Type 0 where
  pub counted : kind_count k ≡ length (states (table_in k))
  pub at_least_ten : 10 ≤ kind_count k
  pub bounded : kind_count k ≤ 65535
  pub air : row_at k 0 ≡ air_row
  pub dry_air : wet_at k 0 ≡ Dry
  -- the numbers of the water levels 0 to 8 follow
  pub water : (n : ℕ) → 1 ≤ n → n < 10 → row_at k n ≡ water_row
  pub source : wet_at k 1 ≡ Source
  pub flow : (n : ℕ) → 2 ≤ n → n < 9 → wet_at k n ≡ Flow (9 - n)
  pub falling : wet_at k 9 ≡ Falling
  pub proper : (n : ℕ) → IsProper (wet_at k n)
  pub opacity : (n : ℕ) → (row_at k n).opacity ≤ 15
  pub emission : (n : ℕ) → (row_at k n).emission ≤ 15
