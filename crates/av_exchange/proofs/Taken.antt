-- New files that are there when their turn comes.
use Rattle.std.proofs.Common.{◌≡◌, ◌∙◌, ◌<◌, ◌+◌, ap, sym, subst, refl, ℕ, List, [], ◌∷◌, ◌++◌, length, map, take, get_or, Option, Some, None, is_some, true, Bool}
use Rattle.av_exchange.specs.Names.{part_of}
use Rattle.av_exchange.specs.Steps.{History, Holdings, IfTold, Step, after, after_all, held, with_steps}
use Rattle.av_exchange.specs.Exchange.{AreTaken, renamed}
use Rattle.av_exchange.specs.Outcomes.{name_of}
use Rattle.av_exchange.specs.declared.moves.Move.{Move}
use Rattle.av_exchange.proofs.Crash.{after_both}
use Rattle.av_exchange.proofs.History.{no_steps}
use Rattle.av_exchange.proofs.Stepwise.{one_more}

-- what was told of a folder behind steps
pub told_behind : (old mid : Option History) (steps : List Step) (P : Holdings → Type 0) → mid ≡ with_steps old steps → IfTold mid P
    → IfTold old (λ h. P (after_all h steps))
told_behind None mid steps P is told = tt
told_behind (Some t) mid steps P is told =
    subst P (after_both t.first t.steps steps) (subst (λ (o : Option History). IfTold o P) is told)

last_taken : (names : List (List ℕ)) (name : List ℕ) (h : Holdings) → AreTaken names h → is_some (after_all h (map renamed names) (part_of name)) ≡ true
    → AreTaken (names ++ name ∷ []) h
last_taken [] name h all there = (there, tt)
last_taken (n ∷ names) name h all there = (all.0, last_taken names name (after h (renamed n)) all.1 there)

none_taken : (t : Option History) → IfTold t (AreTaken [])
none_taken None = tt
none_taken (Some t) = tt

-- no file yet
pub first_taken : (t : Option History) (moves : List Move) → (t ≡ with_steps t (map renamed (map name_of (take 0 moves)))) × IfTold t (AreTaken (map name_of (take 0 moves)))
first_taken t moves = (no_steps t, none_taken t)

-- one more, which was there
pub one_taken : (old mid : Option History) (moves : List Move) (i : ℕ) (m : Move) → i < length moves → m ≡ get_or moves i m
    → mid ≡ with_steps old (map renamed (map name_of (take i moves))) → IfTold old (AreTaken (map name_of (take i moves)))
    → IfTold mid (λ h. is_some (h (part_of (name_of m))) ≡ true) → IfTold old (AreTaken (map name_of (take (i + 1) moves)))
one_taken None mid moves i m lt is steps all told = tt
one_taken (Some t) mid moves i m lt is steps all told =
    let names = map name_of (take i moves) in
    let found = told_behind (Some t) mid (map renamed names) (λ h. is_some (h (part_of (name_of m))) ≡ true) steps told in
    subst (λ (ns : List (List ℕ)). AreTaken ns (held t)) (sym (one_more name_of moves i m lt is))
    (last_taken names (name_of m) (held t) all found)

pub told_true : (t : Option History) (P : Holdings → Bool) (b : Bool) → b ≡ true → IfTold t (λ h. b ≡ P h) → IfTold t (λ h. P h ≡ true)
told_true None P b is told = tt
told_true (Some t) P b is told = sym told ∙ is
