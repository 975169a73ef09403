-- A refusal of a part refuses the whole.
use Rattle.std.proofs.Common.{◌≡◌, Option, None}
use Rattle.av_types.specs.declared.fault.Fault.{Fault}
use Rattle.av_types.specs.declared.fault.Fault.TheVariants.{OutOfMemory, BadPalette}
use Rattle.av_section.specs.Judged.{IsNoPalette}

pub IsNoPalette-whole : {A B : Type 0} (part : Option A) (whole : Option B) (e : Fault) → (part ≡ None → whole ≡ None) → IsNoPalette part e → IsNoPalette whole e
IsNoPalette-whole part whole OutOfMemory f h = h
IsNoPalette-whole part whole BadPalette f h = f h
IsNoPalette-whole part whole _ f h = h
