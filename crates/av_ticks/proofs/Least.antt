-- The least time of some entries.
use Rattle.std.proofs.Common.{◌≡◌, ℕ, ℤ, pos, int_le, ◌<◌, ◌^◌, ◌||◌, false, List, [], ◌∷◌, ◌++◌, refl, ap, ◌∙◌, arith, sym}
use Rattle.std.specs.Int.{int_min}
use Rattle.std.specs.List.{fold, list_any}
use Rattle.std.proofs.lemmas.Int.{ints}
use Rattle.std.proofs.Math.Bool.{or-false, or_assoc}
use Rattle.av_types.specs.declared.tick.Entry.{Entry}
use Rattle.av_ticks.specs.Entries.{is_due, least_due}

pub least_push : (es : List Entry) (e : Entry) (a : ℤ) → fold (λ t e. int_min t e.due) a (es ++ e ∷ []) ≡ int_min (fold (λ t e. int_min t e.due) a es) e.due
least_push [] e a = refl
least_push (x ∷ es) e a = least_push es e (int_min a x.due)

le_min : (a d t : ℤ) → int_le (int_min a d) t ≡ int_le a t || int_le d t
le_min a d t = grind (arith, ints)

least_reaches : (t a : ℤ) (es : List Entry) → int_le (fold (λ t e. int_min t e.due) a es) t ≡ int_le a t || list_any (λ e. int_le e.due t) es
least_reaches t a [] = sym (or-false (int_le a t))
least_reaches t a (e ∷ es) =
    least_reaches t (int_min a e.due) es
    ∙ (ap (λ b. b || list_any (λ e. int_le e.due t) es) (le_min a e.due t) ∙ or_assoc (int_le a t) (int_le e.due t) (list_any (λ e. int_le e.due t) es))

last_is_late : (now : ℕ) → now < 2 ^ 32 → int_le (pos 9223372036854775807) (pos now) ≡ false
last_is_late now h = grind (arith, ints)

-- an entry is due exactly where the least time has come
pub least_is_due : (now : ℕ) (s z : ℤ) (es : List Entry) → now < 2 ^ 32 → s ≡ least_due es → z ≡ pos now → int_le s z ≡ list_any (is_due now) es
least_is_due now s z es small least is =
    ap (λ t. int_le s t) is ∙ (ap (λ t. int_le t (pos now)) least
    ∙ (least_reaches (pos now) (pos 9223372036854775807) es ∙ ap (λ b. b || list_any (is_due now) es) (last_is_late now small)))
