-- Each section of a parcel lies below them.
use Rattle.std.proofs.Common.{◌≡◌, Bool, true, false, List, All, length, get_or, pos, ap, arith, refl}
use Rattle.std.proofs.lemmas.Int.{ints}
use Rattle.std.proofs.lemmas.List.Elements.{All-replicate}
use Rattle.av_types.specs.declared.position.SectionPos.{SectionPos}
use Rattle.av_types.proofs.SamePositions.{same_section_is}
use Rattle.av_cells.specs.Positions.{same_section}
use Rattle.av_world.specs.Parcels.{IsSectionInLimits}
use Rattle.av_world.specs.Parts.{index}
use Rattle.av_world.proofs.Parts.{index_past}
use Rattle.av_world.proofs.notes.nowhere.Goals as goal

abbrev above : SectionPos
above = record { x = pos 0; y = pos 64; z = pos 0 }

not_above : (s : SectionPos) → IsSectionInLimits s → (b : Bool) → same_section s above ≡ b → b ≡ false
not_above s limits true e = let y : s.y ≡ pos 64 = ap (λ (t : SectionPos). t.y) (same_section_is s above e) in let high = limits.high in absurd (omega (arith, ints))
not_above s limits false e = refl

absent : (ts : List SectionPos) → All IsSectionInLimits ts → index ts above ≡ length ts
absent ts limits = index_past ts above above (λ j l. not_above (get_or ts j above) (limits j above l) (same_section (get_or ts j above) above) refl)

pub returns : goal.returns
returns c = λ ts limits. All-replicate (λ s. index ts s ≡ length ts) 32 above (absent ts limits)
