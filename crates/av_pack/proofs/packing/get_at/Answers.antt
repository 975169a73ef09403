use Rattle.std.proofs.Common.{◌∙◌, ◌<◌, ◌^◌, rules, of_z, w64, pos, get_or}
use Rattle.std.proofs.lemmas.Int.{of_z-to_z}
use Rattle.av_pack.proofs.Entries.{read_entry}
use Rattle.av_pack.proofs.packing.get_at.Goals as goal

pub returns-clause-value : goal.returns-clause-value
returns-clause-value c =
    let fits : of_z w64 (get_or c.args.longs.now c.slot_of-slot.result.long (pos 0)) < 2 ^ 64 = search rules in
    read_entry _ _ _ _ _ _ _ c.slot_of-slot.ensures.long c.slot_of-slot.ensures.shift (c.cast_unsigned.ensures ∙ of_z-to_z w64 _ fits) c.field.ensures.value
