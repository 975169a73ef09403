-- Working definitions. No public clause cites them.
-- Rows of patches in memory.
use Rattle.std.specs.Prelude.{List, map, Vec}
use Rattle.std.specs.declared.alloc.Global.{Global}
use Rattle.av_map.specs.declared.patch.Patch.{Patch}

abbrev pub patches_of : List (Vec Patch Global) → List (List Patch)
patches_of rows = map (λ row. row.items) rows
