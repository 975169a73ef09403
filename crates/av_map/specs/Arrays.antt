-- Working definitions. No public clause cites them.
-- The bytes of arrays in memory.
use Rattle.std.specs.Prelude.{ℕ, List, map, Option, Some, None, Vec}
use Rattle.std.specs.declared.alloc.Global.{Global}

abbrev pub bytes_in : Option (Vec ℕ Global) → Option (List ℕ)
bytes_in None = None
bytes_in (Some v) = Some v.items

abbrev pub arrays_of : List (Option (Vec ℕ Global)) → List (Option (List ℕ))
arrays_of arrays = map bytes_in arrays
