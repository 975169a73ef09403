-- Working definitions. No public clause cites them.
-- What a function that reads a part of a table answers.
use Rattle.std.specs.Prelude.{◌≡◌, ◌≢◌, Option, Some, None, Result, MatchResult}
use Rattle.av_types.specs.declared.fault.Fault.{Fault}
use Rattle.av_types.specs.declared.fault.Fault.TheVariants.{OutOfMemory, BadTable}
use Rattle.av_types.specs.declared.position.Height.{Height}
use Rattle.av_rules.specs.Document.{Span}

-- a refusal: the part is ill-formed, or memory ran out
pub record Refuses {B : Type 0} (o : Option B) (e : Fault) : Type 0 where
  pub at_cause : e ≡ BadTable → o ≡ None
  pub only : e ≢ BadTable → e ≡ OutOfMemory

-- the value is what the part spells
abbrev pub Reads : {A B : Type 0} → (A → B) → Option B → Result A Fault → Type 0
Reads view o r = MatchResult r (λ a. o ≡ Some (view a)) (Refuses o)

abbrev pub span_view : Height → Span
span_view h = record { min_section = h.min_section; sections = h.sections }
