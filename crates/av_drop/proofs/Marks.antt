-- Boards on which one more square is noted.
use Rattle.std.proofs.Common.{◌≡◌, ℕ, ◌<◌, Bool, true, false, not, ◌&&◌, nat_eq, refl, sym, ap, subst, ◌∙◌}
use Rattle.std.proofs.lemmas.Bool.{true≢false, eqb-true}
use Rattle.av_drop.specs.declared.board.Board.{Board}
use Rattle.av_drop.specs.Board.{is_on}

-- what is noted of each known square is so, also of the square that is known now
pub marked_one : (f : ℕ → Bool) (known knows marks now : Board) (at : ℕ) → ((i : ℕ) → nat_eq i at ≡ false → is_on knows i ≡ is_on known i) → ((i : ℕ) → nat_eq i at ≡ false → is_on now i ≡ is_on marks i)
    → ((i : ℕ) → is_on known i ≡ true → is_on marks i ≡ f i) → is_on now at ≡ f at → (i : ℕ) → is_on knows i ≡ true → is_on now i ≡ f i
marked_one f known knows marks now at same other before here i on = by (nat_eq i at) refl where
  by : (b : Bool) → nat_eq i at ≡ b → is_on now i ≡ f i
  by true e = subst (λ j. is_on now j ≡ f j) (sym (eqb-true i at e)) here
  by false e = other i e ∙ before i (sym (same i e) ∙ on)

-- nothing is noted of a square that is not known
pub kept_off : (known knows marks now : Board) (at : ℕ) → is_on knows at ≡ true → ((i : ℕ) → nat_eq i at ≡ false → is_on knows i ≡ is_on known i) → ((i : ℕ) → nat_eq i at ≡ false → is_on now i ≡ is_on marks i)
    → ((i : ℕ) → is_on known i ≡ false → is_on marks i ≡ false) → (i : ℕ) → is_on knows i ≡ false → is_on now i ≡ false
kept_off known knows marks now at here same other before i off = by (nat_eq i at) refl where
  by : (b : Bool) → nat_eq i at ≡ b → is_on now i ≡ false
  by true e = absurd (true≢false (sym here ∙ ap (is_on knows) (sym (eqb-true i at e)) ∙ off))
  by false e = other i e ∙ before i (sym (same i e) ∙ off)

and_true : (a b : Bool) → a ≡ true → b ≡ false → (a && not b) ≡ true
and_true true false h g = refl
and_true true true h g = absurd (true≢false g)
and_true false b h g = absurd (true≢false (sym h))

and_false : (a b r : Bool) → r ≡ (a && not b) → r ≡ true → b ≡ false
and_false true false r e h = refl
and_false true true r e h = absurd (true≢false (sym h ∙ e))
and_false false b r e h = absurd (true≢false (sym h ∙ e))

not_known : (a b r : Bool) → r ≡ (a && not b) → r ≡ false → a ≡ true → b ≡ true
not_known true true r e h g = refl
not_known true false r e h g = absurd (true≢false (sym e ∙ h))
not_known false b r e h g = absurd (true≢false (sym g))

-- the squares that are left to be read of some: none of them is known, and each other is
pub record AreLeft (squares known left : Board) : Type 0 where
  pub fresh : (i : ℕ) → i < 128 → is_on left i ≡ true → is_on known i ≡ false
  pub rest : (i : ℕ) → i < 128 → is_on squares i ≡ true → is_on left i ≡ false → is_on known i ≡ true

pub left_first : (squares known left : Board) → ((i : ℕ) → i < 128 → is_on left i ≡ (is_on squares i && not (is_on known i))) → AreLeft squares known left
left_first squares known left e =
    record {
      fresh = λ i l on. and_false (is_on squares i) (is_on known i) (is_on left i) (e i l) on;
      rest = λ i l on off. not_known (is_on squares i) (is_on known i) (is_on left i) (e i l) off on;
    }

-- one was read
pub left_less : (squares known knows left less : Board) (at : ℕ) → is_on knows at ≡ true → ((i : ℕ) → nat_eq i at ≡ false → is_on knows i ≡ is_on known i) → is_on less at ≡ false
    → ((i : ℕ) → i < 128 → nat_eq i at ≡ false → is_on less i ≡ is_on left i) → AreLeft squares known left → AreLeft squares knows less
left_less squares known knows left less at here same gone others h =
    record { fresh = λ i l on. fresh i l on (nat_eq i at) refl; rest = λ i l on off. rest i l on off (nat_eq i at) refl }
  where
    fresh : (i : ℕ) → i < 128 → is_on less i ≡ true → (b : Bool) → nat_eq i at ≡ b → is_on knows i ≡ false
    fresh i l on true e = absurd (true≢false (sym on ∙ sym (ap (is_on less) (sym (eqb-true i at e))) ∙ gone))
    fresh i l on false e = same i e ∙ h.fresh i l (sym (others i l e) ∙ on)

    rest : (i : ℕ) → i < 128 → is_on squares i ≡ true → is_on less i ≡ false → (b : Bool) → nat_eq i at ≡ b → is_on knows i ≡ true
    rest i l on off true e = sym (ap (is_on knows) (sym (eqb-true i at e))) ∙ here
    rest i l on off false e = same i e ∙ h.rest i l on (sym (others i l e) ∙ off)

-- one square of a board with no marks
pub first_marked : (empty now : Board) (at j : ℕ) (b : Bool) → at ≡ j → ((i : ℕ) → is_on empty i ≡ false) → is_on now at ≡ b → ((i : ℕ) → nat_eq i at ≡ false → is_on now i ≡ is_on empty i) → (i : ℕ) → is_on now i ≡ (nat_eq i j && b)
first_marked empty now at j b e none here others i = subst (λ n. is_on now i ≡ (nat_eq i n && b)) e (by (nat_eq i at) refl) where
  by : (t : Bool) → nat_eq i at ≡ t → is_on now i ≡ (t && b)
  by true f = subst (λ n. is_on now n ≡ b) (sym (eqb-true i at f)) here
  by false f = others i f ∙ none i
