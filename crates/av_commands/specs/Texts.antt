-- Texts that may be left out.
use Rattle.std.specs.Prelude.{◌≡◌, ◌⊎◌, ℕ, List, Option, Some, None}
use Rattle.av_types.specs.declared.fault.Fault.{Fault}
use Rattle.av_types.specs.declared.fault.Fault.TheVariants.{OutOfMemory}
use Rattle.av_sink.specs.Account.{IsDevice}

-- why a text was not read: one that is named can't be
abbrev pub IsUnreadText : Option (List ℕ) → Fault → Type 0
IsUnreadText None e = e ≡ OutOfMemory
IsUnreadText (Some name) e = (e ≡ OutOfMemory) ⊎ IsDevice name e
