use Rattle.std.proofs.Common.{◌≡◌, ◌∙◌, ◌<◌, ◌^◌, rules, of_z, to_z, w64, pos, get_or, length}
use Rattle.std.proofs.lemmas.Int.{of_z-to_z}
use Rattle.av_pack.specs.Fields.{with_field}
use Rattle.av_pack.proofs.Entries.{sets_entry, writes_long, written_long}
use Rattle.av_pack.proofs.packing.set_at.Goals as goal

pub returns : goal.returns
returns c =
    let fits : of_z w64 (get_or c.args.longs.now c.slot_of-slot.result.long (pos 0)) < 2 ^ 64 = search rules in
    let within : c.slot_of-slot.result.long < length c.args.longs.now = search rules in
    let written : of_z w64 (to_z w64 (of_z w64 c.cast_signed.result)) ≡ with_field c.cast_unsigned-long.result c.slot_of-slot.result.shift c.args.bits c.args.value = written_long _ _ _ c.with_field.type_inv c.cast_signed.ensures c.with_field.ensures in
    sets_entry _ _ _ _ _ _ c.requires.low c.requires.high c.requires.fits c.slot_of-slot.ensures.long
    (writes_long _ _ _ _ _ _ _ _ within c.slot_of-slot.ensures.shift (c.cast_unsigned-long.ensures ∙ of_z-to_z w64 _ fits) written)
