-- Entries put aside one after the other.
use Rattle.std.proofs.Common.{◌≡◌, ℕ, suc, ◌+◌, List, [], ◌∷◌, ◌++◌, length, refl, ap, ◌∙◌, arith}
use Rattle.av_types.specs.declared.tick.Entry.{Entry}
use Rattle.av_types.specs.declared.tick.Made.{Made}
use Rattle.av_play.specs.Play.{labelled, entries_of}

pub labelled_push : (maker a : ℕ) (es : List Entry) (e : Entry) → labelled maker a (es ++ e ∷ []) ≡ labelled maker a es ++ record { maker = maker; number = a + length es; entry = e } ∷ []
labelled_push maker a [] e = let g : a ≡ a + 0 = omega arith in ap (λ (n : ℕ). record { maker = maker; number = n; entry = e } ∷ []) g
labelled_push maker a (x ∷ xs) e =
    let g : suc a + length xs ≡ a + suc (length xs) = omega arith in
    ap (λ l. record { maker = maker; number = a; entry = x } ∷ l) (labelled_push maker (suc a) xs e ∙ ap (λ (n : ℕ). labelled maker (suc a) xs ++ record { maker = maker; number = n; entry = e } ∷ []) g)

pub entries_of_labelled : (maker n : ℕ) (es : List Entry) → entries_of (labelled maker n es) ≡ es
entries_of_labelled maker n [] = refl
entries_of_labelled maker n (e ∷ es) = ap (λ l. e ∷ l) (entries_of_labelled maker (suc n) es)

pub entries_of_append : (xs ys : List Made) → entries_of (xs ++ ys) ≡ entries_of xs ++ entries_of ys
entries_of_append [] ys = refl
entries_of_append (x ∷ xs) ys = ap (λ l. x.entry ∷ l) (entries_of_append xs ys)
