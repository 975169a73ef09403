-- Working definitions: what a set of positions holds. No public clause cites them.
use Rattle.std.specs.Prelude.{◌≡◌, Bool, List, Option}
use Rattle.std.specs.Option.{ForSome}
use Rattle.av_types.specs.Positions.{place_of}
use Rattle.av_types.specs.declared.position.Pos.{Pos}
use Rattle.av_types.specs.declared.tick.Entry.{Entry}
use Rattle.av_ticks.specs.Entries.{is_pending}
use Rattle.av_ticks.specs.Marked.{key_of, marked_in}
use Rattle.av_ticks.specs.declared.positions.Positions.{Positions}

-- a position is there
unfoldable pub holds : Positions → Pos → Bool
holds s p = marked_in s.sections (key_of p) (place_of p)

-- an index, where there is one, holds the positions of some entries and no others
abbrev pub IsIndexOf : Option Positions → List Entry → Type 0
IsIndexOf index es = ForSome index (λ s. (p : Pos) → holds s p ≡ is_pending p es)
