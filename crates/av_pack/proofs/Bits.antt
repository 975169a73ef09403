-- The search for the least number of bits.
use Rattle.std.proofs.Common.{◌≡◌, ℕ, zero, suc, ◌+◌, ◌-◌, ◌*◌, ◌%◌, ◌^◌, ◌<◌, ◌≤◌, refl, sym, ap, ◌∙◌, arith, inl, inr, subst}
use Rattle.std.proofs.lemmas.Bool.{cases_lt}
use Rattle.std.proofs.lemmas.Bool.Decides.{nat_tests}
use Rattle.av_pack.specs.Packing.{bits_for, least_bits}
use Rattle.av_pack.proofs.Fields.{shl_one}

pub record Searching (bits len : ℕ) : Type 0 where
  pub low : 4 ≤ bits
  pub high : bits ≤ 16
  pub rest : least_bits (16 - bits) bits len ≡ bits_for len

pub searching_from_4 : (len : ℕ) → Searching 4 len
unfolding bits_for
searching_from_4 len = record { low = omega arith; high = omega arith; rest = refl }

least_bits-suc : (k b len : ℕ) → 2 ^ b < len → least_bits (suc k) b len ≡ least_bits k (suc b) len
least_bits-suc k b len more = grind (arith, nat_tests)

below_16 : (b len : ℕ) → len ≤ 65536 → b ≤ 16 → 2 ^ b < len → b < 16
below_16 b len few high more = elim (cases_lt b 16) [ inl lt ↦ lt | inr ge ↦ (let e : b ≡ 16 = omega arith in absurd (let h : 2 ^ 16 < len = subst (λ k. 2 ^ k < len) e more in omega arith)) ]

pub searching_more : (b len : ℕ) → len ≤ 65536 → Searching b len → 1 * 2 ^ b % 2 ^ 64 < len → Searching (b + 1) len
searching_more b len few s more =
    let above : 2 ^ b < len = subst (λ k. k < len) (shl_one b s.high) more in
    let lt : b < 16 = below_16 b len few s.high above in
    let e : 16 - b ≡ suc (16 - (b + 1)) = omega arith in
    let step : b + 1 ≡ suc b = omega arith in
    record {
      low = omega (arith, s.low);
      high = omega arith;
      rest = ap (λ k. least_bits (16 - (b + 1)) k len) step ∙ sym (least_bits-suc (16 - (b + 1)) b len above) ∙ sym (ap (λ k. least_bits k b len) e) ∙ s.rest;
    }

least_bits-stops : (k b len : ℕ) → len ≤ 2 ^ b → least_bits k b len ≡ b
least_bits-stops zero b len few = refl
least_bits-stops (suc k) b len few = grind (arith, nat_tests)

pub searching_done : (b len : ℕ) → Searching b len → len ≤ 1 * 2 ^ b % 2 ^ 64 → (b ≡ bits_for len) × (len ≤ 2 ^ b)
searching_done b len s few =
    let below : len ≤ 2 ^ b = subst (λ k. len ≤ k) (shl_one b s.high) few in
    (sym (least_bits-stops (16 - b) b len below) ∙ s.rest, below)
