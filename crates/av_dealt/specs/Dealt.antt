-- Things at the indices of a list.
use Rattle.std.specs.Prelude.{◌<◌, ℕ, List, Vec, Option, None, Result, slice_index_or, IfOk, IfSome}
use Rattle.std.specs.List.{All}
use Rattle.std.specs.declared.alloc.Global.{Global}
use Rattle.std.specs.declared.alloc.AllocError.{AllocError}
use Rattle.av_dealt.specs.declared.dealing.Dealt.{Dealt}

-- each slot is empty, or has a thing that is its own
abbrev pub AreAtIndices : {X : Type 0} → (ℕ → X → Type 0) → List (Option X) → Type 0
AreAtIndices P things = (i : ℕ) → IfSome (slice_index_or things i None) (P i)

-- a thing that a thread made, of one of so many indices
pub record IsDealt {X : Type 0} (n : ℕ) (P : ℕ → X → Type 0) (p : Dealt X) : Type 0 where
  pub within : p.index < n
  pub is : P p.index p.thing

-- what a thread answers: such things, or that memory was refused
abbrev pub IsTaken : {X : Type 0} → ℕ → (ℕ → X → Type 0) → Result (Vec (Dealt X) Global) AllocError → Type 0
IsTaken n P r = IfOk r (λ v. All (IsDealt n P) v.items)
