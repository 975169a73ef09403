use Rattle.std.proofs.Common.{ℕ, List, Option, Some, None, Bor, IsSomeAnd, lit<}
use Rattle.std.specs.Prelude.{MatchOption}
use Rattle.std.proofs.lemmas.Str.Pattern.{split_after}
use Rattle.av_reports.proofs.names.at_dot.Goals as goal

Parts : Type 0
Parts = Bor (List ℕ) × Bor (List ℕ)

some_and : (r : Option Parts) (P : Parts → Type 0) → MatchOption r ⊥ P → IsSomeAnd r P
unfolding Parts
some_and None P h = h
some_and (Some p) P h = h

pub returns : goal.returns
unfolding Parts
returns c = λ front rest no_dot is. some_and c.split_once.result _
    (split_after 46 c.args.text.now front rest c.split_once.result c.split_once.ensures.cases (lit< tt) is no_dot)
