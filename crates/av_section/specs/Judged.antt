-- What a judge of one part of a section answers where it refuses.
-- Working definitions. No public clause cites them.
use Rattle.std.specs.Prelude.{◌≡◌, Option, None}
use Rattle.av_types.specs.declared.fault.Fault.{Fault}
use Rattle.av_types.specs.declared.fault.Fault.TheVariants.{OutOfMemory, BadPalette}

-- memory, or a bad palette where there is no value
abbrev pub IsNoPalette : {A : Type 0} → Option A → Fault → Type 0
IsNoPalette value OutOfMemory = Unit {0}
IsNoPalette value BadPalette = value ≡ None
IsNoPalette value _ = ⊥
