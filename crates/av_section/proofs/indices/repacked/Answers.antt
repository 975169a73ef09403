-- The indices are unpacked and packed again.
use Rattle.std.proofs.Common.{◌∙◌, ap, subst, length, ◌<◌}
use Rattle.av_pack.proofs.Laws.{length-unpacked, get_or-unpacked}
use Rattle.av_section.proofs.indices.repacked.Goals as goal

pub pack-requires-clause-count : goal.pack-requires-clause-count
pack-requires-clause-count c = rw (c.as_slice.ensures.value, c.in_ok-indices.ensures) (length-unpacked c.args.bits c.args.longs.now)

pub pack-requires-clause-fit : goal.pack-requires-clause-fit
pack-requires-clause-fit c k d low =
    let long = ap length (c.as_slice.ensures.value ∙ c.in_ok-indices.ensures) ∙ length-unpacked c.args.bits c.args.longs.now in
    let within = subst (λ n. k < n) long low in
    rw (c.as_slice.ensures.value, c.in_ok-indices.ensures, get_or-unpacked c.args.bits c.args.longs.now k d within) (c.requires.fit k within)

pub returns : goal.returns
returns c = let q = c.in-Ok.ensures.meaning in
    record { ok = record { count = q.count; entries = λ i low. q.entries i low ∙ rw (c.as_slice.ensures.value, c.in_ok-indices.ensures) (get_or-unpacked c.args.bits c.args.longs.now i 0 low) } }
