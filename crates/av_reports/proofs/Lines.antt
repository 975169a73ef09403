-- Lines that are written one after the other.
use Rattle.std.proofs.Common.{◌≡◌, ◌∙◌, ap, sym, rules, ℕ, List, [], ◌∷◌, ◌++◌, Option, Some, None, append_assoc}
use Rattle.std.proofs.lemmas.List.{append-nil}
use Rattle.std.specs.Io.KnownBytes.{Appends}
use Rattle.av_reports.specs.Output.{line, lines_of}

pub appends_none : (a : Option (List ℕ)) → Appends a a []
appends_none None = tt
appends_none (Some xs) = sym (append-nil xs)

pub appends_more : (a b c : Option (List ℕ)) (x y : List ℕ) → Appends a b x → Appends b c y → Appends a c (x ++ y)
appends_more None b c x y p q = tt
appends_more (Some xs) None c x y p q = absurd p
appends_more (Some xs) (Some ys) None x y p q = absurd q
appends_more (Some xs) (Some ys) (Some zs) x y p q = q ∙ (ap (λ (l : List ℕ). l ++ y) p ∙ append_assoc xs x y)

lines_append : (X : Type 0) (text : X → List ℕ) (xs ys : List X) → lines_of text (xs ++ ys) ≡ lines_of text xs ++ lines_of text ys
lines_append X text [] ys = search rules
lines_append X text (x ∷ xs) ys =
    ap (λ (l : List ℕ). line (text x) ++ l) (lines_append X text xs ys)
    ∙ sym (append_assoc (line (text x)) (lines_of text xs) (lines_of text ys))

-- one line more
pub lines_next : (X : Type 0) (text : X → List ℕ) (xs : List X) (x : X) → lines_of text (xs ++ x ∷ []) ≡ lines_of text xs ++ line (text x)
lines_next X text xs x =
    lines_append X text xs (x ∷ []) ∙ ap (λ (l : List ℕ). lines_of text xs ++ l) (append-nil (line (text x)))
