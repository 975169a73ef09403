-- Rows and wetness made for each state.
use Rattle.std.proofs.Common.{◌≡◌, ℕ, zero, suc, ◌+◌, ◌-◌, ◌<◌, ◌≤◌, List, [], ◌∷◌, ◌++◌, length, map, take, Bool, true, false, Option, Some, None, cond, refl, ap, ◌∙◌, sym, arith, nat_lt, eqb}
use Rattle.std.specs.List.{list_all, slice_get}
use Rattle.std.proofs.lemmas.List.{length-map, map-append, take-map}
use Rattle.std.proofs.lemmas.Bool.{le-leb, lt-ltb, ltb-true, and_from}
use Rattle.std.proofs.lemmas.Option.{none-some, same_Some}
use Rattle.av_types.specs.declared.water.Wet.{Wet}
use Rattle.av_types.specs.declared.water.Wet.TheVariants.{Dry, Source, Flow, Falling}
use Rattle.av_state.specs.BlockState.{BlockState, air_name, water_name, level_of, wet_at_level, wet_of}
use Rattle.av_state.specs.StateList.{IsStateList}
use Rattle.std.specs.Str.{bytes_eq}
use Rattle.av_rules.specs.declared.row.Row.{Row}
use Rattle.av_rules.specs.declared.row.TableRow.{TableRow as TableRowValue}
use Rattle.av_rules.specs.declared.rules.Rules.{Rules}
use Rattle.av_rules.specs.Rows.{BlockTable, air_row, water_row, is_for, first_row, with_soaking, row_of, wet_in}
use Rattle.av_rules.specs.Views.{table_row_of, table_rows_of}
use Rattle.av_rules.specs.Tables.{table_of}
use Rattle.av_rules.specs.KindLists.{is_proper, is_lit_properly, IsKindList}

-- ---- one more

pub take-more : {A : Type 0} (xs : List A) (n : ℕ) (x : A) → slice_get xs n ≡ Some x → take (n + 1) xs ≡ take n xs ++ x ∷ []
take-more [] n x h = absurd (none-some x h)
take-more (y ∷ xs) zero x h = ap (λ z. z ∷ []) (same_Some y x h)
take-more (y ∷ xs) (suc n) x h =
    let e : suc n + 1 ≡ suc (n + 1) = omega arith in
    ap (λ k. take k (y ∷ xs)) e ∙ ap (λ l. y ∷ l) (take-more xs n x h)

pub map-take-more : {A B : Type 0} (f : A → B) (xs : List A) (n : ℕ) (x : A) (done : List B) → slice_get xs n ≡ Some x → done ≡ map f (take n xs) → done ++ f x ∷ [] ≡ map f (take (n + 1) xs)
map-take-more f xs n x done h e = ap (λ l. l ++ f x ∷ []) e ∙ sym (map-append f (take n xs) (x ∷ [])) ∙ ap (map f) (sym (take-more xs n x h))

-- ---- what holds for each

all_map : {A B : Type 0} (p : B → Bool) (f : A → B) → ((x : A) → p (f x) ≡ true) → (xs : List A) → list_all p (map f xs) ≡ true
all_map p f h [] = refl
all_map p f h (x ∷ xs) = rw (h x, all_map p f h xs) refl

lit : (r : Row) → r.opacity ≤ 15 → r.emission ≤ 15 → is_lit_properly r ≡ true
lit r o e = and_from _ _ (le-leb r.opacity 15 o) (le-leb r.emission 15 e)

lit_first : (ts : List TableRowValue) (s : BlockState) → is_lit_properly (first_row (table_rows_of ts) s) ≡ true
lit_first [] s = refl
lit_first (t ∷ ts) s = elim (is_for (table_row_of t) s) as (λ b. is_lit_properly (cond b t.row (first_row (table_rows_of ts) s)) ≡ true) [ true ↦ lit t.row t.opacity t.emission | false ↦ lit_first ts s ]

lit_row : (r : Rules) (s : BlockState) → is_lit_properly (row_of (table_of r) s) ≡ true
lit_row r s =
    let other : is_lit_properly (with_soaking r.soaks s (first_row (table_rows_of r.rows.items) s)) ≡ true = lit_first r.rows.items s in
    elim (bytes_eq s.name air_name) as (λ b. is_lit_properly (cond b air_row (cond (bytes_eq s.name water_name) water_row (with_soaking r.soaks s (first_row (table_rows_of r.rows.items) s)))) ≡ true)
    [ true ↦ refl | false ↦ (elim (bytes_eq s.name water_name) as (λ b. is_lit_properly (cond b water_row (with_soaking r.soaks s (first_row (table_rows_of r.rows.items) s))) ≡ true) [ true ↦ refl | false ↦ other ]) ]

proper_low : (b : Bool) (n : ℕ) → nat_lt n 8 ≡ b → eqb n 0 ≡ false → is_proper (cond b (Flow (8 - n)) Falling) ≡ true
proper_low true n e z =
    let low : n < 8 = ltb-true n 8 e in
    and_from _ _ (lt-ltb 0 (8 - n) (omega arith)) (lt-ltb (8 - n) 8 (above n z low))
  where
    above : (n : ℕ) → eqb n 0 ≡ false → n < 8 → 8 - n < 8
    above zero z h = absurd (z_is_one z)
      where
        z_is_one : true ≡ false → ⊥
        z_is_one h = cc
    above (suc n) z h = omega arith
proper_low false n e z = refl

proper_at : (b : Bool) (n : ℕ) → eqb n 0 ≡ b → is_proper (cond b Source (cond (nat_lt n 8) (Flow (8 - n)) Falling)) ≡ true
proper_at true n z = refl
proper_at false n z = proper_low (nat_lt n 8) n refl z

proper_level : (o : Option ℕ) → is_proper (wet_at_level o) ≡ true
proper_level None = refl
proper_level (Some n) = proper_at (eqb n 0) n refl

proper_wet : (s : BlockState) → is_proper (wet_of s) ≡ true
proper_wet s = elim (bytes_eq s.name water_name) as (λ b. is_proper (cond b (wet_at_level (level_of s)) Dry) ≡ true) [ true ↦ proper_level (level_of s) | false ↦ refl ]

proper_in : (t : BlockTable) (s : BlockState) → is_proper (wet_in t s) ≡ true
proper_in t s = elim ((row_of t s).wet) as (λ b. is_proper (cond b Source (wet_of s)) ≡ true) [ true ↦ refl | false ↦ proper_wet s ]

-- the rows and the wetness of the states of a table are a list of kinds
pub IsKindList-from : (r : Rules) (xs : List BlockState) (rows : List Row) (wets : List Wet) → IsStateList xs → rows ≡ map (row_of (table_of r)) xs → wets ≡ map (wet_in (table_of r)) xs → IsKindList (length xs) rows wets
IsKindList-from r xs rows wets l e f = record {
  a_row_each = ap length e ∙ length-map xs (row_of (table_of r));
  a_wetness_each = ap length f ∙ length-map xs (wet_in (table_of r));
  rows_begin = ap (take 10) e ∙ take-map (row_of (table_of r)) 10 xs ∙ ap (map (row_of (table_of r))) l.begins;
  wets_begin = ap (take 10) f ∙ take-map (wet_in (table_of r)) 10 xs ∙ ap (map (wet_in (table_of r))) l.begins;
  proper = ap (list_all is_proper) f ∙ all_map is_proper (wet_in (table_of r)) (proper_in (table_of r)) xs;
  lit_properly = ap (list_all is_lit_properly) e ∙ all_map is_lit_properly (row_of (table_of r)) (lit_row r) xs;
}
