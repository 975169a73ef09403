use Rattle.std.proofs.Common.{◌≡◌, ◌<◌, pos, get_or, true, sym, ap, ◌∙◌, rules, length}
use Rattle.std.proofs.lemmas.List.{get_or_default}
use Rattle.av_types.specs.declared.position.SectionPos.{SectionPos}
use Rattle.av_types.proofs.SamePositions.{same_section_is}
use Rattle.av_cells.specs.Positions.{same_section}
use Rattle.av_world.proofs.Parts.{index_at_index}
use Rattle.av_world.proofs.parcels.Parcel.slot_of.Goals as goal

abbrev zero_section : SectionPos
zero_section = record { x = pos 0; y = pos 0; z = pos 0 }

pub returns-then-eq : goal.returns-then-eq
returns-then-eq c =
    let w = c.args.self.now in let ts = w.positions.items in let i = get_or c.deref.result.now.near c.near_index.result 0 in
    let below : i < length ts = search rules in
    let found : same_section c.index.result.now c.args.at ≡ true = search rules in
    let same : same_section (get_or ts i zero_section) c.args.at ≡ true = ap (λ p. same_section p c.args.at) (get_or_default ts i zero_section c.index.result.now below ∙ sym c.index.ensures) ∙ found in
    sym (index_at_index ts c.args.at zero_section i w.lawful.distinct below (same_section_is (get_or ts i zero_section) c.args.at same))
