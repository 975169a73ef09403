-- The sections of a reach are those at its corners.
use Rattle.std.proofs.Common.{get_or, ◌≡◌, ℕ, ◌/◌, ◌<◌, ℤ, pos, negsuc, ◌+ℤ◌, ◌-ℤ◌, ◌≤ℤ◌, All, [], ◌∷◌, zero, suc, sym, ap, subst, arith, ◌⊎◌, inl, inr}
use Rattle.std.proofs.lemmas.Int.{ints}
use Rattle.std.proofs.lemmas.Bool.{cases_eq}
use Rattle.av_types.specs.Division.{divided}
use Rattle.av_types.specs.Positions.{section_of}
use Rattle.av_types.specs.declared.position.Pos.{Pos}
use Rattle.av_types.specs.declared.position.SectionPos.{SectionPos}
use Rattle.av_cells.specs.Positions.{InReach, ForTurned, ForAround}
use Rattle.av_types.specs.declared.water.Direction.{Direction}
use Rattle.av_types.specs.declared.water.Direction.TheVariants.{North, South, West, East}
use Rattle.av_cells.specs.Positions.{step, below, above, around}
use Rattle.av_world.specs.Turned.{corners, turned}

-- between two numbers less than sixteen apart
one_end : (a b c : ℤ) → a ≤ℤ b → b ≤ℤ c → c ≤ℤ (a +ℤ pos 15) → (divided b 16 ≡ divided a 16) ⊎ (divided b 16 ≡ divided c 16)
one_end (pos a) (pos b) (pos c) h g l = by (cases_eq (b / 16) (a / 16)) where
  by : (b / 16 ≡ a / 16) ⊎ (b / 16 ≡ a / 16 → ⊥) → (pos (b / 16) ≡ pos (a / 16)) ⊎ (pos (b / 16) ≡ pos (c / 16))
  by (inl e) = inl (ap pos e)
  by (inr n) = inr (ap pos (omega (arith, ints)))
one_end (pos a) (pos b) (negsuc c) h g l = absurd (omega (arith, ints))
one_end (pos a) (negsuc b) c h g l = absurd (omega (arith, ints))
one_end (negsuc a) (pos b) (pos c) h g l = inr (ap pos (omega (arith, ints)))
one_end (negsuc a) (pos b) (negsuc c) h g l = absurd (omega (arith, ints))
one_end (negsuc a) (negsuc b) (pos c) h g l = inl (ap negsuc (omega (arith, ints)))
one_end (negsuc a) (negsuc b) (negsuc c) h g l = by (cases_eq (b / 16) (a / 16)) where
  by : (b / 16 ≡ a / 16) ⊎ (b / 16 ≡ a / 16 → ⊥) → (negsuc (b / 16) ≡ negsuc (a / 16)) ⊎ (negsuc (b / 16) ≡ negsuc (c / 16))
  by (inl e) = inl (ap negsuc e)
  by (inr n) = inr (ap negsuc (omega (arith, ints)))

at_corner : (Q : SectionPos → Type 0) (p : Pos) (s : SectionPos) → All (λ k. Q (section_of k)) (corners p)
    → (s.x ≡ divided (p.x -ℤ pos 5) 16) ⊎ (s.x ≡ divided (p.x +ℤ pos 5) 16)
    → (s.y ≡ divided (p.y -ℤ pos 2) 16) ⊎ (s.y ≡ divided (p.y +ℤ pos 1) 16)
    → (s.z ≡ divided (p.z -ℤ pos 5) 16) ⊎ (s.z ≡ divided (p.z +ℤ pos 5) 16) → Q s
at_corner Q p s all (inl x) (inl y) (inl z) = subst Q (λ i. record { x = sym x i; y = sym y i; z = sym z i }) (all 0 p (omega arith))
at_corner Q p s all (inr x) (inl y) (inl z) = subst Q (λ i. record { x = sym x i; y = sym y i; z = sym z i }) (all 1 p (omega arith))
at_corner Q p s all (inl x) (inl y) (inr z) = subst Q (λ i. record { x = sym x i; y = sym y i; z = sym z i }) (all 2 p (omega arith))
at_corner Q p s all (inr x) (inl y) (inr z) = subst Q (λ i. record { x = sym x i; y = sym y i; z = sym z i }) (all 3 p (omega arith))
at_corner Q p s all (inl x) (inr y) (inl z) = subst Q (λ i. record { x = sym x i; y = sym y i; z = sym z i }) (all 4 p (omega arith))
at_corner Q p s all (inr x) (inr y) (inl z) = subst Q (λ i. record { x = sym x i; y = sym y i; z = sym z i }) (all 5 p (omega arith))
at_corner Q p s all (inl x) (inr y) (inr z) = subst Q (λ i. record { x = sym x i; y = sym y i; z = sym z i }) (all 6 p (omega arith))
at_corner Q p s all (inr x) (inr y) (inr z) = subst Q (λ i. record { x = sym x i; y = sym y i; z = sym z i }) (all 7 p (omega arith))

-- what holds of the sections of the corners holds of the section of each block of the reach
pub in_reach : (Q : SectionPos → Type 0) (p q : Pos) → All (λ k. Q (section_of k)) (corners p) → InReach p q → Q (section_of q)
in_reach Q p q all r =
    at_corner Q p (section_of q) all
    (one_end (p.x -ℤ pos 5) q.x (p.x +ℤ pos 5) r.west r.east (omega (arith, ints)))
    (one_end (p.y -ℤ pos 2) q.y (p.y +ℤ pos 1) r.low r.high (omega (arith, ints)))
    (one_end (p.z -ℤ pos 5) q.z (p.z +ℤ pos 5) r.north r.south (omega (arith, ints)))

less_five : (a : ℤ) → ((a -ℤ pos 5) ≤ℤ (a -ℤ pos 5)) × ((a -ℤ pos 5) ≤ℤ (a +ℤ pos 5))
less_five a = (omega (arith, ints), omega (arith, ints))

more_five : (a : ℤ) → ((a -ℤ pos 5) ≤ℤ (a +ℤ pos 5)) × ((a +ℤ pos 5) ≤ℤ (a +ℤ pos 5))
more_five a = (omega (arith, ints), omega (arith, ints))

less_two : (a : ℤ) → ((a -ℤ pos 2) ≤ℤ (a -ℤ pos 2)) × ((a -ℤ pos 2) ≤ℤ (a +ℤ pos 1))
less_two a = (omega (arith, ints), omega (arith, ints))

more_one : (a : ℤ) → ((a -ℤ pos 2) ≤ℤ (a +ℤ pos 1)) × ((a +ℤ pos 1) ≤ℤ (a +ℤ pos 1))
more_one a = (omega (arith, ints), omega (arith, ints))

reached : (p q : Pos) → ((p.x -ℤ pos 5) ≤ℤ q.x) × (q.x ≤ℤ (p.x +ℤ pos 5)) → ((p.y -ℤ pos 2) ≤ℤ q.y) × (q.y ≤ℤ (p.y +ℤ pos 1)) → ((p.z -ℤ pos 5) ≤ℤ q.z) × (q.z ≤ℤ (p.z +ℤ pos 5)) → InReach p q
reached p q x y z = record { west = x.0; east = x.1; low = y.0; high = y.1; north = z.0; south = z.1 }

-- the corners lie in the reach
pub corners_all : (P : Pos → Type 0) (p : Pos) → ((q : Pos) → InReach p q → P q) → All P (corners p)
corners_all P p h zero d l = h (get_or (corners p) 0 p) (reached p (get_or (corners p) 0 p) (less_five p.x) (less_two p.y) (less_five p.z))
corners_all P p h (suc zero) d l = h (get_or (corners p) 1 p) (reached p (get_or (corners p) 1 p) (more_five p.x) (less_two p.y) (less_five p.z))
corners_all P p h (suc (suc zero)) d l = h (get_or (corners p) 2 p) (reached p (get_or (corners p) 2 p) (less_five p.x) (less_two p.y) (more_five p.z))
corners_all P p h (suc (suc (suc zero))) d l = h (get_or (corners p) 3 p) (reached p (get_or (corners p) 3 p) (more_five p.x) (less_two p.y) (more_five p.z))
corners_all P p h (suc (suc (suc (suc zero)))) d l = h (get_or (corners p) 4 p) (reached p (get_or (corners p) 4 p) (less_five p.x) (more_one p.y) (less_five p.z))
corners_all P p h (suc (suc (suc (suc (suc zero))))) d l = h (get_or (corners p) 5 p) (reached p (get_or (corners p) 5 p) (more_five p.x) (more_one p.y) (less_five p.z))
corners_all P p h (suc (suc (suc (suc (suc (suc zero)))))) d l = h (get_or (corners p) 6 p) (reached p (get_or (corners p) 6 p) (less_five p.x) (more_one p.y) (more_five p.z))
corners_all P p h (suc (suc (suc (suc (suc (suc (suc zero))))))) d l = h (get_or (corners p) 7 p) (reached p (get_or (corners p) 7 p) (more_five p.x) (more_one p.y) (more_five p.z))
corners_all P p h (suc (suc (suc (suc (suc (suc (suc (suc n)))))))) d l = absurd (omega arith)

pub turned_all : (P : Pos → Type 0) (p : Pos) → ForTurned P p → All P (turned p)
turned_all P p h zero d l = h.itself
turned_all P p h (suc zero) d l = h.beneath
turned_all P p h (suc (suc zero)) d l = h.beside North
turned_all P p h (suc (suc (suc zero))) d l = h.beside South
turned_all P p h (suc (suc (suc (suc zero)))) d l = h.beside West
turned_all P p h (suc (suc (suc (suc (suc zero))))) d l = h.beside East
turned_all P p h (suc (suc (suc (suc (suc (suc n)))))) d l = absurd (omega arith)

pub around_all : (P : Pos → Type 0) (p : Pos) → ForAround P p → All P (around p)
around_all P p h zero d l = h.itself
around_all P p h (suc zero) d l = h.beneath
around_all P p h (suc (suc zero)) d l = h.overhead
around_all P p h (suc (suc (suc zero))) d l = h.beside North
around_all P p h (suc (suc (suc (suc zero)))) d l = h.beside South
around_all P p h (suc (suc (suc (suc (suc zero))))) d l = h.beside West
around_all P p h (suc (suc (suc (suc (suc (suc zero)))))) d l = h.beside East
around_all P p h (suc (suc (suc (suc (suc (suc (suc n))))))) d l = absurd (omega arith)

pub for_turned : (P : Pos → Type 0) (p : Pos) → All P (turned p) → ForTurned P p
for_turned P p all = record { itself = all 0 p (omega arith); beneath = all 1 p (omega arith); beside = by } where
  by : (d : Direction) → P (step p d)
  by North = all 2 p (omega arith)
  by South = all 3 p (omega arith)
  by West = all 4 p (omega arith)
  by East = all 5 p (omega arith)

pub for_around : (P : Pos → Type 0) (p : Pos) → All P (around p) → ForAround P p
for_around P p all = record { itself = all 0 p (omega arith); beneath = all 1 p (omega arith); overhead = all 2 p (omega arith); beside = by } where
  by : (d : Direction) → P (step p d)
  by North = all 3 p (omega arith)
  by South = all 4 p (omega arith)
  by West = all 5 p (omega arith)
  by East = all 6 p (omega arith)

-- the ten numbers of air and water
pub ten : (P : ℕ → Type 0) → All P (0 ∷ 1 ∷ 2 ∷ 3 ∷ 4 ∷ 5 ∷ 6 ∷ 7 ∷ 8 ∷ 9 ∷ []) → (n : ℕ) → n < 10 → P n
ten P all zero h = all 0 0 (omega arith)
ten P all (suc zero) h = all 1 0 (omega arith)
ten P all (suc (suc zero)) h = all 2 0 (omega arith)
ten P all (suc (suc (suc zero))) h = all 3 0 (omega arith)
ten P all (suc (suc (suc (suc zero)))) h = all 4 0 (omega arith)
ten P all (suc (suc (suc (suc (suc zero))))) h = all 5 0 (omega arith)
ten P all (suc (suc (suc (suc (suc (suc zero)))))) h = all 6 0 (omega arith)
ten P all (suc (suc (suc (suc (suc (suc (suc zero))))))) h = all 7 0 (omega arith)
ten P all (suc (suc (suc (suc (suc (suc (suc (suc zero)))))))) h = all 8 0 (omega arith)
ten P all (suc (suc (suc (suc (suc (suc (suc (suc (suc zero))))))))) h = all 9 0 (omega arith)
ten P all (suc (suc (suc (suc (suc (suc (suc (suc (suc (suc n)))))))))) h = absurd (omega arith)

pub ten_all : (P : ℕ → Type 0) → ((n : ℕ) → n < 10 → P n) → All P (0 ∷ 1 ∷ 2 ∷ 3 ∷ 4 ∷ 5 ∷ 6 ∷ 7 ∷ 8 ∷ 9 ∷ [])
ten_all P h zero d l = h 0 (omega arith)
ten_all P h (suc zero) d l = h 1 (omega arith)
ten_all P h (suc (suc zero)) d l = h 2 (omega arith)
ten_all P h (suc (suc (suc zero))) d l = h 3 (omega arith)
ten_all P h (suc (suc (suc (suc zero)))) d l = h 4 (omega arith)
ten_all P h (suc (suc (suc (suc (suc zero))))) d l = h 5 (omega arith)
ten_all P h (suc (suc (suc (suc (suc (suc zero)))))) d l = h 6 (omega arith)
ten_all P h (suc (suc (suc (suc (suc (suc (suc zero))))))) d l = h 7 (omega arith)
ten_all P h (suc (suc (suc (suc (suc (suc (suc (suc zero)))))))) d l = h 8 (omega arith)
ten_all P h (suc (suc (suc (suc (suc (suc (suc (suc (suc zero))))))))) d l = h 9 (omega arith)
ten_all P h (suc (suc (suc (suc (suc (suc (suc (suc (suc (suc n)))))))))) d l = absurd (omega arith)

pub one_all : (P : ℕ → Type 0) (n : ℕ) → P n → All P (n ∷ [])
one_all P n h zero d l = h
one_all P n h (suc k) d l = absurd (omega arith)

pub reach_self : (p : Pos) → InReach p p
reach_self p = record { west = omega (arith, ints); east = omega (arith, ints); low = omega (arith, ints); high = omega (arith, ints); north = omega (arith, ints); south = omega (arith, ints) }

pub map_turned : (P Q : Pos → Type 0) → ((q : Pos) → P q → Q q) → (p : Pos) → ForTurned P p → ForTurned Q p
map_turned P Q f p h = record { itself = f p h.itself; beneath = f (below p) h.beneath; beside = λ d. f (step p d) (h.beside d) }

pub map_around : (P Q : Pos → Type 0) → ((q : Pos) → P q → Q q) → (p : Pos) → ForAround P p → ForAround Q p
map_around P Q f p h = record { itself = f p h.itself; beneath = f (below p) h.beneath; overhead = f (above p) h.overhead; beside = λ d. f (step p d) (h.beside d) }
