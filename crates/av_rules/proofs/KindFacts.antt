-- What every Kinds keeps, for the crates above.
use Rattle.std.proofs.Common.{◌≡◌, ℕ, zero, suc, ◌-◌, ◌<◌, ◌≤◌, List, [], ◌∷◌, length, take, get_or, Bool, true, refl, ap, ◌∙◌, sym, arith, nat_lt, nat_le}
use Rattle.std.specs.List.{list_all}
use Rattle.std.proofs.lemmas.List.{length-take, get_or-take}
use Rattle.std.proofs.lemmas.Bool.{and_parts, ltb-true, leb-true}
use Rattle.av_types.specs.declared.water.Wet.{Wet}
use Rattle.av_types.specs.declared.water.Wet.TheVariants.{Dry, Source, Flow, Falling}
use Rattle.av_types.specs.Water.{IsProper}
use Rattle.av_rules.specs.declared.row.Row.{Row}
use Rattle.av_rules.specs.declared.kinds.Kinds.{Kinds}
use Rattle.av_rules.specs.Rows.{water_row, shut_row}
use Rattle.av_rules.specs.KindLists.{first_rows, first_wets, is_proper, is_lit_properly}
use Rattle.av_rules.specs.Kinds.{row_at, wet_at, rows_in, wets_in, AreKinds}

passes : {A : Type 0} (p : A → Bool) (xs : List A) (n : ℕ) (d : A) → list_all p xs ≡ true → p d ≡ true → p (get_or xs n d) ≡ true
passes p [] n d all one = one
passes p (x ∷ xs) zero d all one = (and_parts (p x) (list_all p xs) all).0
passes p (x ∷ xs) (suc n) d all one = passes p xs n d (and_parts (p x) (list_all p xs) all).1 one

IsProper-from : (w : Wet) → is_proper w ≡ true → IsProper w
IsProper-from Dry h = tt
IsProper-from Source h = tt
IsProper-from (Flow a) h = let (low, high) = and_parts (nat_lt 0 a) (nat_lt a 8) h in (ltb-true 0 a low, ltb-true a 8 high)
IsProper-from Falling h = tt

water_rows : (n : ℕ) → 1 ≤ n → n < 10 → get_or first_rows n shut_row ≡ water_row
water_rows zero low high = absurd (omega arith)
water_rows (suc zero) low high = refl
water_rows (suc (suc zero)) low high = refl
water_rows (suc (suc (suc zero))) low high = refl
water_rows (suc (suc (suc (suc zero)))) low high = refl
water_rows (suc (suc (suc (suc (suc zero))))) low high = refl
water_rows (suc (suc (suc (suc (suc (suc zero)))))) low high = refl
water_rows (suc (suc (suc (suc (suc (suc (suc zero))))))) low high = refl
water_rows (suc (suc (suc (suc (suc (suc (suc (suc zero)))))))) low high = refl
water_rows (suc (suc (suc (suc (suc (suc (suc (suc (suc zero))))))))) low high = refl
water_rows (suc (suc (suc (suc (suc (suc (suc (suc (suc (suc n)))))))))) low high = absurd (omega arith)

flows : (n : ℕ) → 2 ≤ n → n < 9 → get_or first_wets n Dry ≡ Flow (9 - n)
flows zero low high = absurd (omega arith)
flows (suc zero) low high = absurd (omega arith)
flows (suc (suc zero)) low high = refl
flows (suc (suc (suc zero))) low high = refl
flows (suc (suc (suc (suc zero)))) low high = refl
flows (suc (suc (suc (suc (suc zero))))) low high = refl
flows (suc (suc (suc (suc (suc (suc zero)))))) low high = refl
flows (suc (suc (suc (suc (suc (suc (suc zero))))))) low high = refl
flows (suc (suc (suc (suc (suc (suc (suc (suc zero)))))))) low high = refl
flows (suc (suc (suc (suc (suc (suc (suc (suc (suc n))))))))) low high = absurd (omega arith)

pub are_kinds : (k : Kinds) → AreKinds k
are_kinds k =
    let l = k.listed in
    let ten : length (take 10 (rows_in k)) ≡ 10 = ap length l.rows_begin in
    let row : (n : ℕ) → n < 10 → row_at k n ≡ get_or first_rows n shut_row =
    λ n h. sym (get_or-take 10 (rows_in k) n shut_row h) ∙ ap (λ (xs : List Row). get_or xs n shut_row) l.rows_begin in
    let wet : (n : ℕ) → n < 10 → wet_at k n ≡ get_or first_wets n Dry =
    λ n h. sym (get_or-take 10 (wets_in k) n Dry h) ∙ ap (λ (xs : List Wet). get_or xs n Dry) l.wets_begin in
    let lit : (n : ℕ) → is_lit_properly (row_at k n) ≡ true = λ n. passes is_lit_properly (rows_in k) n shut_row l.lit_properly refl in
    record {
      counted = l.a_row_each;
      at_least_ten = omega (arith, length-take 10 (rows_in k));
      bounded = omega (arith, k.table.numbered.bounded);
      air = row 0 (omega arith);
      dry_air = wet 0 (omega arith);
      water = λ n low high. row n high ∙ water_rows n low high;
      source = wet 1 (omega arith);
      flow = λ n low high. wet n (omega arith) ∙ flows n low high;
      falling = wet 9 (omega arith);
      proper = λ n. IsProper-from (wet_at k n) (passes is_proper (wets_in k) n Dry l.proper refl);
      opacity = λ n. leb-true _ 15 (and_parts (nat_le (row_at k n).opacity 15) (nat_le (row_at k n).emission 15) (lit n)).0;
      emission = λ n. leb-true _ 15 (and_parts (nat_le (row_at k n).opacity 15) (nat_le (row_at k n).emission 15) (lit n)).1;
    }
