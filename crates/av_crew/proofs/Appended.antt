-- Entries that turns made can be appended.
use Rattle.std.proofs.Common.{◌≡◌, ℕ, zero, suc, ◌<◌, Bool, true, false, cond, List, [], ◌∷◌, length, get_or, All, refl, ap, arith}
use Rattle.std.proofs.lemmas.Bool.{true≢false}
use Rattle.std.proofs.lemmas.List.Elements.{All-from_recursion}
use Rattle.std.specs.List.{AllByRecursion, AllPairs}
use Rattle.av_types.specs.declared.position.Pos.{Pos}
use Rattle.av_types.specs.declared.tick.Made.{Made}
use Rattle.av_types.proofs.SamePositions.{same_pos_back}
use Rattle.av_cells.specs.Positions.{same_pos}
use Rattle.av_cells.specs.World.{World}
use Rattle.av_world.specs.Appended.{entries_made}
use Rattle.av_play.specs.Play.{entries_of}
use Rattle.av_play.specs.Waiting.{is_among, AreNew}

pub entries_are : (ms : List Made) → entries_made ms ≡ entries_of ms
entries_are [] = refl
entries_are (m ∷ ms) = ap (λ es. m.entry ∷ es) (entries_are ms)

each_fresh : (w : World) (ms : List Made) → AreNew w (entries_of ms) → AllByRecursion (λ m. w.pending m.entry.pos ≡ false) ms
each_fresh w [] h = tt
each_fresh w (m ∷ ms) h = (h.0, each_fresh w ms h.2)

pub all_fresh : (w : World) (ms : List Made) → AreNew w (entries_of ms) → All (λ m. w.pending m.entry.pos ≡ false) ms
all_fresh w ms h = All-from_recursion (λ m. w.pending m.entry.pos ≡ false) ms (each_fresh w ms h)

not_among : (p : Pos) (ms : List Made) (j : ℕ) (d : Made) → is_among p (entries_of ms) ≡ false → j < length ms → same_pos p (get_or ms j d).entry.pos ≡ false
not_among p [] j d h u = absurd (omega (arith, u))
not_among p (m ∷ ms) j d h u = by (same_pos p m.entry.pos) refl h j u (λ i g v. not_among p ms i d g v) where
  by : (b : Bool) → same_pos p m.entry.pos ≡ b → cond b true (is_among p (entries_of ms)) ≡ false → (j : ℕ) → j < suc (length ms) → ((i : ℕ) → is_among p (entries_of ms) ≡ false → i < length ms → same_pos p (get_or ms i d).entry.pos ≡ false) → same_pos p (get_or (m ∷ ms) j d).entry.pos ≡ false
  by true e g j u rest = absurd (true≢false g)
  by false e g zero u rest = e
  by false e g (suc j) u rest = rest j g (omega (arith, u))

pub all_apart : (w : World) (ms : List Made) → AreNew w (entries_of ms) → AllPairs (λ a b. same_pos b.entry.pos a.entry.pos ≡ false) ms
all_apart w [] h i j d lt u = absurd (omega (arith, lt, u))
all_apart w (m ∷ ms) h zero zero d lt u = absurd (omega (arith, lt))
all_apart w (m ∷ ms) h zero (suc j) d lt u = same_pos_back m.entry.pos (get_or ms j d).entry.pos (not_among m.entry.pos ms j d h.1 (omega (arith, u)))
all_apart w (m ∷ ms) h (suc i) zero d lt u = absurd (omega (arith, lt))
all_apart w (m ∷ ms) h (suc i) (suc j) d lt u = all_apart w ms h.2 i j d (omega (arith, lt)) (omega (arith, u))
