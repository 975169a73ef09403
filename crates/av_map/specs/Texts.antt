-- The texts of refusals.
use Rattle.std.specs.Prelude.{ℕ, List, codes}
use Rattle.av_types.specs.Faults.{fault_text}
use Rattle.av_map.specs.declared.refusal.Refusal.{Refusal}
use Rattle.av_map.specs.declared.refusal.Refusal.TheVariants.{Fault, Empty, TooWide}

abbrev pub refusal_text : Refusal → List ℕ
refusal_text (Fault e) = fault_text e
refusal_text Empty = codes "no region file to draw"
refusal_text TooWide = codes "the regions fill more than 16384 pixels a side"
