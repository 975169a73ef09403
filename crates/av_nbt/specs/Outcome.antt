-- When a decoder may refuse bytes.
use Rattle.std.specs.Prelude.{List, ℕ}
use Rattle.av_types.specs.declared.fault.Fault.{Fault}
use Rattle.av_types.specs.declared.fault.Fault.TheVariants.{OutOfMemory, BadNbt}
use Rattle.av_tags.specs.Nbt.{Document}
use Rattle.av_nbt.specs.Spelling.{SpellsDocument}

-- no document is spelled by the bytes
abbrev pub SpellsNone : List ℕ → Type 0
SpellsNone bytes = (d : Document) → ¬ SpellsDocument d bytes

-- memory, or bytes that spell no document, and no other fault
abbrev pub IsDecodeRefusal : Fault → List ℕ → Type 0
IsDecodeRefusal OutOfMemory bytes = Unit {0}
IsDecodeRefusal BadNbt bytes = SpellsNone bytes
IsDecodeRefusal _ bytes = ⊥
