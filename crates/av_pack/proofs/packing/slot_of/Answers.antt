use Rattle.std.proofs.Common.{◌≤◌, ◌+◌, sym, subst}
use Rattle.av_pack.proofs.Slots.{slot_shift, slot_within}
use Rattle.av_pack.proofs.packing.slot_of.Goals as goal

pub returns-clause-shift : goal.returns-clause-shift
returns-clause-shift c = slot_shift c.args.bits c.args.place.index _ _ _ c.from-index.ensures c.per_long-per_long.ensures.count c.per_long-per_long.ensures.divides c.args.place.in_range

pub returns-clause-within : goal.returns-clause-within
returns-clause-within c =
    subst (λ n. n + c.args.bits ≤ 64)
    (sym (slot_shift c.args.bits c.args.place.index _ _ _ c.from-index.ensures c.per_long-per_long.ensures.count c.per_long-per_long.ensures.divides c.args.place.in_range))
    (slot_within c.args.bits c.args.place.index c.requires.low c.requires.high)
