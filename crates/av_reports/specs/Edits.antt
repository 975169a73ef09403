-- What is known of a line of edits that is refused.
use Rattle.std.specs.Prelude.{◌≡◌, ℕ, List, Option, Some, None, string_bytes}
use Rattle.av_types.specs.declared.fault.Fault.{Fault}
use Rattle.av_types.specs.declared.fault.Fault.TheVariants.{BadEdit, EditTick, EditOutside}
use Rattle.av_reports.specs.declared.edit_trouble.EditCause.{EditCause}
use Rattle.av_reports.specs.declared.edit_trouble.EditCause.TheVariants.{Form, Tick, Outside}
use Rattle.av_reports.specs.declared.edit_trouble.EditTrouble.{EditTrouble}

-- a fault that is no line's
pub record IsOfNoLine (fault : Fault) : Type 0 where
  pub form : (line : ℕ) → fault ≡ BadEdit line → ⊥
  pub tick : (line : ℕ) → fault ≡ EditTick line → ⊥
  pub outside : (line : ℕ) → fault ≡ EditOutside line → ⊥

-- the line of a fault of edits, and why it is refused by a run of so many ticks
pub data IsEditCause (ticks : ℕ) (fault : Fault) (cause : Option (ℕ × EditCause)) : Type 0 where
  form : (line : ℕ) → fault ≡ BadEdit line → cause ≡ Some (line, Form) → IsEditCause ticks fault cause
  tick : (line : ℕ) → fault ≡ EditTick line → cause ≡ Some (line, Tick ticks) → IsEditCause ticks fault cause
  outside : (line : ℕ) → fault ≡ EditOutside line → cause ≡ Some (line, Outside) → IsEditCause ticks fault cause
  none : IsOfNoLine fault → cause ≡ None → IsEditCause ticks fault cause

-- the trouble with this line of a text of this name
pub record IsTroubleOf (text : List ℕ) (number : ℕ) (why : EditCause) (t : EditTrouble) : Type 0 where
  pub path : string_bytes t.path ≡ text
  pub line : t.line ≡ number
  pub cause : t.cause ≡ why
