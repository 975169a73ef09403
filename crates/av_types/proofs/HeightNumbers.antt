-- Heights are known from their two numbers.
use Rattle.std.proofs.Common.{◌≡◌, ℕ, ◌≤◌, ℤ, pos, negsuc, ◌+ℤ◌, ◌≤ℤ◌, ap, subst}
use Rattle.std.proofs.Props.{props}
use Rattle.av_types.specs.declared.position.Height.{Height}

record Parts (m : ℤ) (n : ℕ) : Type 0 where
  lowest : negsuc 63 ≤ℤ m
  nonempty : 1 ≤ n
  bounded : n ≤ 64
  highest : (m +ℤ pos n) ≤ℤ pos 64

parts_prop : (m : ℤ) (n : ℕ) → IsProp (Parts m n)
parts_prop m n = hlevel props

made : (m : ℤ) (n : ℕ) → Parts m n → Height
made m n p = record { min_section = m; sections = n; lowest = p.lowest; nonempty = p.nonempty; bounded = p.bounded; highest = p.highest }

made_same : (m x : ℤ) (n y : ℕ) → m ≡ x → n ≡ y → (p : Parts m n) (q : Parts x y) → made m n p ≡ made x y q
made_same m x n y e f p =
    subst (λ b. (q : Parts x b) → made m n p ≡ made x b q) f
    (subst (λ a. (q : Parts a n) → made m n p ≡ made a n q) e (λ q. ap (made m n) (parts_prop m n p q)))

pub height_is : (h k : Height) → h.min_section ≡ k.min_section → h.sections ≡ k.sections → h ≡ k
unfolding made
height_is h k a b = made_same h.min_section k.min_section h.sections k.sections a b
    (record { lowest = h.lowest; nonempty = h.nonempty; bounded = h.bounded; highest = h.highest }) (record { lowest = k.lowest; nonempty = k.nonempty; bounded = k.bounded; highest = k.highest })
