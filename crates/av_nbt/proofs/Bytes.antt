-- Bytes as numbers, the highest byte first.
use Rattle.std.proofs.Common.{◌≡◌, ℕ, ◌+◌, ◌<◌, ◌^◌, ◌%◌, List, [], ◌∷◌, ◌++◌, length, get_or, refl, ap, arith, inl, inr}
use Rattle.std.proofs.lemmas.Nat.{be_bytes_2, be_bytes_4, be_bytes_8, from_be_bytes-to_be_bytes_2, from_be_bytes-to_be_bytes_4, from_be_bytes-to_be_bytes_8}
use Rattle.std.proofs.lemmas.List.{get_or_append_left, get_or-append-add, get_or_past}
use Rattle.std.proofs.lemmas.Bool.{cases_lt}
use Rattle.std.specs.Int.{Width, w8, w16, w32, w64, byte_len, to_be_bytes, from_be_bytes}
use mir.Val.{bits}

-- each is a byte
abbrev pub AreBytes : List ℕ → Type 0
AreBytes bs = (i : ℕ) → get_or bs i 0 < 256

-- numbers of a width and their bytes
pub record Codes (w : Width) : Type 0 where
  pub reads_back : (n : ℕ) → n < 2 ^ bits w → from_be_bytes w (to_be_bytes w n) ≡ n
  pub writes_back : (bs : List ℕ) → length bs ≡ byte_len w → AreBytes bs → to_be_bytes w (from_be_bytes w bs) ≡ bs
  pub fits : (bs : List ℕ) → AreBytes bs → from_be_bytes w bs < 2 ^ bits w
  pub size : (n : ℕ) → length (to_be_bytes w n) ≡ byte_len w

one_byte : (bs : List ℕ) → length bs ≡ 1 → AreBytes bs → to_be_bytes w8 (from_be_bytes w8 bs) ≡ bs
one_byte [] e h = cc
one_byte (b ∷ []) e h = let small : b < 256 = h 0 in let same : b % 256 ≡ b = omega arith in ap (λ x. x ∷ []) same
one_byte (b ∷ c ∷ bs) e h = absurd (omega arith)

pub codes_8 : Codes w8
codes_8 = record { reads_back = λ n h. omega arith; writes_back = one_byte; fits = λ bs h. h 0; size = λ n. refl }

pub codes_16 : Codes w16
codes_16 = record { reads_back = from_be_bytes-to_be_bytes_2; writes_back = λ bs e h. be_bytes_2 bs (from_be_bytes w16 bs) e h refl; fits = λ bs h. omega (arith, h 0, h 1); size = λ n. refl }

pub codes_32 : Codes w32
codes_32 = record { reads_back = from_be_bytes-to_be_bytes_4; writes_back = λ bs e h. be_bytes_4 bs (from_be_bytes w32 bs) e h refl; fits = λ bs h. omega (arith, h 0, h 1, h 2, h 3); size = λ n. refl }

pub codes_64 : Codes w64
codes_64 = record { reads_back = from_be_bytes-to_be_bytes_8; writes_back = λ bs e h. be_bytes_8 bs (from_be_bytes w64 bs) e h refl; fits = λ bs h. omega (arith, h 0, h 1, h 2, h 3, h 4, h 5, h 6, h 7); size = λ n. refl }

-- parts of bytes are bytes
pub bytes_left : (xs ys : List ℕ) → AreBytes (xs ++ ys) → AreBytes xs
bytes_left xs ys h i =
    elim (cases_lt i (length xs)) [
      | inl inside ↦ (let same = get_or_append_left xs ys 0 i inside in let small : get_or (xs ++ ys) i 0 < 256 = h i in omega arith)
      | inr past ↦ (let none = get_or_past xs i 0 past in omega arith)
    ]

pub bytes_right : (xs ys : List ℕ) → AreBytes (xs ++ ys) → AreBytes ys
bytes_right xs ys h i = let same = get_or-append-add xs ys i 0 in let small : get_or (xs ++ ys) (length xs + i) 0 < 256 = h (length xs + i) in omega arith
