-- Lines that are written one after the other.
use Rattle.std.proofs.Common.{◌≡◌, ◌∙◌, ◌<◌, ◌+◌, ap, sym, rules, ℕ, List, [], ◌∷◌, ◌++◌, Option, Some, None, length, take, get_or, add-one, append_assoc}
use Rattle.std.proofs.lemmas.List.{append-nil}
use Rattle.std.proofs.Math.Seq.{take-suc}
use Rattle.std.specs.Io.KnownBytes.{Appends}
use Rattle.av_changes.specs.declared.change.Change.{Change}
use Rattle.av_changes.specs.Changes.{change_line, change_lines}

pub appends_none : (a : Option (List ℕ)) → Appends a a []
appends_none None = tt
appends_none (Some xs) = sym (append-nil xs)

pub appends_more : (a b c : Option (List ℕ)) (x y : List ℕ) → Appends a b x → Appends b c y → Appends a c (x ++ y)
appends_more None b c x y p q = tt
appends_more (Some xs) None c x y p q = absurd p
appends_more (Some xs) (Some ys) None x y p q = absurd q
appends_more (Some xs) (Some ys) (Some zs) x y p q = q ∙ (ap (λ (l : List ℕ). l ++ y) p ∙ append_assoc xs x y)

lines_append : (verb : List ℕ) (xs ys : List Change) → change_lines verb (xs ++ ys) ≡ change_lines verb xs ++ change_lines verb ys
lines_append verb [] ys = search rules
lines_append verb (x ∷ xs) ys =
    ap (λ (l : List ℕ). change_line verb x ++ l) (lines_append verb xs ys)
    ∙ sym (append_assoc (change_line verb x) (change_lines verb xs) (change_lines verb ys))

-- one change's line more
pub changes_more : (verb : List ℕ) (changes : List Change) (i : ℕ) (c : Change) → i < length changes → c ≡ get_or changes i c
    → change_lines verb (take (i + 1) changes) ≡ change_lines verb (take i changes) ++ change_line verb c
changes_more verb changes i c lt is =
    ap (λ (n : ℕ). change_lines verb (take n changes)) (add-one i)
    ∙ (ap (change_lines verb) (take-suc changes i c lt)
    ∙ (lines_append verb (take i changes) (get_or changes i c ∷ [])
    ∙ ap (λ (l : List ℕ). change_lines verb (take i changes) ++ l)
    (append-nil (change_line verb (get_or changes i c)) ∙ ap (change_line verb) (sym is))))
