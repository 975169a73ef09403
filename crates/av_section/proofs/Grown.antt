-- A palette with one more number.
use Rattle.std.proofs.Common.{◌≡◌, ◌≢◌, ℕ, ◌<◌, ◌≤◌, ◌+◌, ◌^◌, nat_lt, Bool, true, false, if◌then◌else◌, List, [], ◌∷◌, ℤ, ◌++◌, length, All, AllPairs, Contains, refl, sym, ap, subst, ◌∙◌, inl, inr, arith, length-append, true≢false}
use Rattle.std.proofs.lemmas.List.{get_or_append_left}
use Rattle.std.proofs.lemmas.List.Elements.{Contains-append_left, Contains-push, All-push}
use Rattle.std.proofs.lemmas.Bool.{cases_lt, lt-ltb, le-ltb}
use Rattle.av_pack.specs.Packing.{bits_for, longs_for, packed_at}
use Rattle.av_pack.proofs.Laws.{bits_for-low, bits_for-high, bits_for-enough}
use Rattle.av_section.specs.Packed.{IsPackedSection, IsRepacked, number_in}
use Rattle.av_section.proofs.Distinct.{few_below, Distinct-push}
use Rattle.av_section.proofs.PackedLemmas.{none_is_not_many}

-- a palette's length is below that of all numbers, where one is missing
pub room_for : (palette : List ℕ) (n : ℕ) → AllPairs (λ x y. x ≢ y) palette → (Contains palette n → ⊥) → All (λ x. x < 65536) palette → n < 65536 → length palette < 65536
room_for palette n distinct new fits small =
    let all : All (λ x. x < 65536) (palette ++ n ∷ []) = All-push (λ x. x < 65536) palette n fits small in
    let few = few_below 65536 (palette ++ n ∷ []) (Distinct-push palette n distinct new) all in
    omega (arith, length-append palette (n ∷ []), few)

-- a new number at the end of the palette, and the same indices with the bits that are needed then
pub packed_pushed : (palette : List ℕ) (old new : List ℤ) (bits wider n : ℕ) → n < 65536 → IsPackedSection palette old bits → (Contains palette n → ⊥) → length palette < 65536
    → wider ≡ bits_for (length palette + 1) → IsRepacked bits old wider new → IsPackedSection (palette ++ n ∷ []) new wider
packed_pushed palette old new bits wider n fits p fresh room needed same =
    let long : length (palette ++ n ∷ []) ≡ length palette + 1 = length-append palette (n ∷ []) in
    let few : length (palette ++ n ∷ []) ≤ 65536 = omega (arith, long) in
    let is : wider ≡ bits_for (length (palette ++ n ∷ [])) = needed ∙ ap bits_for (sym long) in
    record {
      distinct = Distinct-push palette n p.distinct fresh;
      small = All-push (λ x. x < 65536) palette n p.small fits;
      few = few;
      bits_are = is;
      low = subst (λ w. 4 ≤ w) (sym needed) (bits_for-low (length palette + 1));
      high = subst (λ w. w ≤ 16) (sym needed) (bits_for-high (length palette + 1));
      enough = subst (λ w. length (palette ++ n ∷ []) ≤ 2 ^ w) (sym is) (bits_for-enough (length (palette ++ n ∷ [])) few);
      count = λ some. same.count;
      one = λ none. absurd (none_is_not_many new wider (subst (λ w. 4 ≤ w) (sym needed) (bits_for-low (length palette + 1))) (subst (λ w. w ≤ 16) (sym needed) (bits_for-high (length palette + 1))) same.count none);
      below = λ i h. (let b = p.below i h in let e = same.entries i h in omega (arith, long, b, e));
    }

-- the number at each place stays
pub number_pushed : (palette more : List ℕ) (old new : List ℤ) (bits wider : ℕ) → IsPackedSection palette old bits → IsRepacked bits old wider new
    → (i : ℕ) → (if nat_lt i 4096 then number_in (palette ++ more) new wider i else 0) ≡ (if nat_lt i 4096 then number_in palette old bits i else 0)
number_pushed palette more old new bits wider p same i = elim (cases_lt i 4096) [
  | inl low ↦ rw (lt-ltb i 4096 low, same.entries i low) (get_or_append_left palette more 0 (packed_at bits old i) (p.below i low))
  | inr high ↦ rw (le-ltb i 4096 high) refl
]

pub unchanged : (bits : ℕ) (longs : List ℤ) → length longs ≡ longs_for bits → IsRepacked bits longs bits longs
unchanged bits longs count = record { count = count; entries = λ i h. refl }

-- a palette to which a number was appended, or was not
pub record IsGrown (done : Bool) (palette new : List ℕ) (longs : List ℤ) (bits n : ℕ) : Type 0 where
  pub packed : IsPackedSection new longs bits
  pub numbers : (i : ℕ) → (if nat_lt i 4096 then number_in new longs bits i else 0) ≡ (if nat_lt i 4096 then number_in palette longs bits i else 0)
  pub prepared : (m : ℕ) → Contains palette m → Contains new m
  pub there : done ≡ true → Contains new n

grown_or_not : (done : Bool) (palette : List ℕ) (longs : List ℤ) (bits n : ℕ) → n < 65536 → IsPackedSection palette longs bits → (Contains palette n → ⊥) → length palette < 65536
    → length longs ≡ longs_for bits → bits_for (length palette + 1) ≡ bits → IsGrown done palette (if done then palette ++ n ∷ [] else palette) longs bits n
grown_or_not false palette longs bits n fits p fresh room many needed = record { packed = p; numbers = λ i. refl; prepared = λ m h. h; there = λ e. absurd (true≢false (sym e)) }
grown_or_not true palette longs bits n fits p fresh room many needed = record {
  packed = packed_pushed palette longs longs bits bits n fits p fresh room (sym needed) (unchanged bits longs many);
  numbers = number_pushed palette (n ∷ []) longs longs bits bits p (unchanged bits longs many);
  prepared = λ m h. Contains-append_left palette (n ∷ []) m h;
  there = λ e. Contains-push palette n;
}

pub grown : (done : Bool) (palette new : List ℕ) (longs : List ℤ) (bits n : ℕ) → n < 65536 → IsPackedSection palette longs bits → (Contains palette n → ⊥) → length palette < 65536
    → length longs ≡ longs_for bits → bits_for (length palette + 1) ≡ bits → new ≡ (if done then palette ++ n ∷ [] else palette) → IsGrown done palette new longs bits n
grown done palette new longs bits n fits p fresh room many needed e = subst (λ xs. IsGrown done palette xs longs bits n) (sym e) (grown_or_not done palette longs bits n fits p fresh room many needed)
