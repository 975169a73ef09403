-- Entries of the longs, and what a write leaves.
use Rattle.std.proofs.Common.{◌≡◌, ◌≢◌, ℕ, ◌+◌, ◌*◌, ◌/◌, ◌%◌, ◌^◌, ◌<◌, ◌≤◌, ℤ, pos, to_z, of_z, w64, List, length, set, refl, sym, ap, ◌∙◌, arith, inl, inr, get_or-set_other, get_or-set_same}
use Rattle.std.proofs.lemmas.Int.{of_z-to_z}
use Rattle.std.proofs.lemmas.Bool.{cases_eq, cases_order}
use Rattle.std.proofs.lemmas.Nat.{mod_below, div-add-mod'}
use Rattle.std.proofs.lemmas.List.{length-set}
use Rattle.std.proofs.Math.Nat.{mul-le-mul_left}
use Rattle.av_pack.specs.Packing.{packed_at, long_at, SetsEntry}
use Rattle.av_pack.specs.Fields.{with_field}
use Rattle.av_pack.proofs.Fields.{with_field-high, with_field-same, with_field-below, with_field-above}
use Rattle.av_pack.proofs.Slots.{some_in_long}

pub packed_at_is : (b : ℕ) (longs : List ℤ) (i : ℕ) → packed_at b longs i ≡ long_at longs (i / (64 / b)) / 2 ^ (b * (i % (64 / b))) % 2 ^ b
unfolding packed_at
packed_at_is b longs i = refl

-- two entries of one long do not overlap
apart : (b k i : ℕ) → k < i → b * k + b ≤ b * i
apart b k i lt = let h : b * (k + 1) ≤ b * i = mul-le-mul_left b (omega arith) in omega (arith, h)

same_long_other_entry : (m k i : ℕ) → k / m ≡ i / m → k ≢ i → k % m ≢ i % m
same_long_other_entry m k i e ne = λ h. ne (sym (div-add-mod' k m) ∙ ap (λ q. q * m + k % m) e ∙ ap (λ r. i / m * m + r) h ∙ div-add-mod' i m)

other_field : (b n r k v : ℕ) → v < 2 ^ b → k ≢ r → with_field n (b * r) b v / 2 ^ (b * k) % 2 ^ b ≡ n / 2 ^ (b * k) % 2 ^ b
other_field b n r k v small ne = elim (cases_order k r) [
  | inl e ↦ absurd (ne e)
  | inr o ↦ elim o [
    | inl lt ↦ with_field-below n (b * r) b v (b * k) (apart b k r lt)
    | inr gt ↦ with_field-above n (b * r) b v (b * k) small (apart b r k gt)
  ]
]

pub read_entry : (b : ℕ) (longs : List ℤ) (i j s n r : ℕ) → j ≡ i / (64 / b) → s ≡ b * (i % (64 / b)) → n ≡ long_at longs j → r ≡ n / 2 ^ s % 2 ^ b → r ≡ packed_at b longs i
read_entry b longs i j s n r ej es en er =
    er
    ∙ ap (λ x. x / 2 ^ s % 2 ^ b) (en ∙ ap (long_at longs) ej)
    ∙ ap (λ t. long_at longs (i / (64 / b)) / 2 ^ t % 2 ^ b) es
    ∙ sym (packed_at_is b longs i)

-- one long written
pub record Writes (b i v j : ℕ) (old new : List ℤ) : Type 0 where
  pub count : length new ≡ length old
  pub long : long_at new j ≡ with_field (long_at old j) (b * (i % (64 / b))) b v
  pub others : (k : ℕ) → k ≢ j → long_at new k ≡ long_at old k

pub writes_long : (b i v j s n : ℕ) (old : List ℤ) (z : ℤ) → j < length old → s ≡ b * (i % (64 / b)) → n ≡ long_at old j → of_z w64 z ≡ with_field n s b v → Writes b i v j old (set old j z)
writes_long b i v j s n old z within es en ez = record {
  count = length-set old j z;
  long = ap (of_z w64) (get_or-set_same old j z (pos 0) within) ∙ ez ∙ ap (λ x. with_field x s b v) en ∙ ap (λ t. with_field (long_at old j) t b v) es;
  others = λ k ne. ap (of_z w64) (get_or-set_other old j k z (pos 0) ne);
}

sets_other : (b i v j : ℕ) (old new : List ℤ) → v < 2 ^ b → j ≡ i / (64 / b) → Writes b i v j old new → (k : ℕ) → k ≢ i
    → long_at new (k / (64 / b)) / 2 ^ (b * (k % (64 / b))) % 2 ^ b ≡ long_at old (k / (64 / b)) / 2 ^ (b * (k % (64 / b))) % 2 ^ b
sets_other b i v j old new small ej w k ne = elim (cases_eq (k / (64 / b)) j) [
  | inl same ↦ (
      let other : k % (64 / b) ≢ i % (64 / b) = same_long_other_entry (64 / b) k i (same ∙ ej) ne in
      ap (λ q. long_at new q / 2 ^ (b * (k % (64 / b))) % 2 ^ b) same
      ∙ ap (λ x. x / 2 ^ (b * (k % (64 / b))) % 2 ^ b) w.long
      ∙ other_field b (long_at old j) (i % (64 / b)) (k % (64 / b)) v small other
      ∙ ap (λ q. long_at old q / 2 ^ (b * (k % (64 / b))) % 2 ^ b) (sym same))
  | inr differs ↦ ap (λ x. x / 2 ^ (b * (k % (64 / b))) % 2 ^ b) (w.others (k / (64 / b)) differs)
]

sets_unused : (b i v j : ℕ) (old new : List ℤ) → v < 2 ^ b → 0 < 64 / b → Writes b i v j old new → (k : ℕ) → long_at new k / 2 ^ (b * (64 / b)) ≡ long_at old k / 2 ^ (b * (64 / b))
sets_unused b i v j old new small some w k = elim (cases_eq k j) [
  | inl same ↦ (
      ap (λ q. long_at new q / 2 ^ (b * (64 / b))) same
      ∙ ap (λ x. x / 2 ^ (b * (64 / b))) w.long
      ∙ with_field-high (long_at old j) (b * (i % (64 / b))) b v (b * (64 / b)) small (apart b (i % (64 / b)) (64 / b) (mod_below i (64 / b) some))
      ∙ ap (λ q. long_at old q / 2 ^ (b * (64 / b))) (sym same))
  | inr differs ↦ ap (λ x. x / 2 ^ (b * (64 / b))) (w.others k differs)
]

pub sets_entry : (b i v j : ℕ) (old new : List ℤ) → 4 ≤ b → b ≤ 16 → v < 2 ^ b → j ≡ i / (64 / b) → Writes b i v j old new → SetsEntry b old new i v
sets_entry b i v j old new low high small ej w = record {
  count = w.count;
  entry =
      packed_at_is b new i
      ∙ ap (λ q. long_at new q / 2 ^ (b * (i % (64 / b))) % 2 ^ b) (sym ej)
      ∙ ap (λ x. x / 2 ^ (b * (i % (64 / b))) % 2 ^ b) w.long
      ∙ with_field-same (long_at old j) (b * (i % (64 / b))) b v small;
  others = λ k ne. packed_at_is b new k ∙ sets_other b i v j old new small ej w k ne ∙ sym (packed_at_is b old k);
  unused_bits = sets_unused b i v j old new small (some_in_long b low high) w;
}

pub written_long : (n x : ℕ) (z : ℤ) → n < 2 ^ 64 → z ≡ to_z w64 n → n ≡ x → of_z w64 (to_z w64 (of_z w64 z)) ≡ x
written_long n x z fits ez ex =
    ap (λ t. of_z w64 (to_z w64 (of_z w64 t))) ez
    ∙ ap (λ t. of_z w64 (to_z w64 t)) (of_z-to_z w64 n fits)
    ∙ of_z-to_z w64 n fits
    ∙ ex
