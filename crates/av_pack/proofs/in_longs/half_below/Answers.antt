use Rattle.std.proofs.Common.{rules}
use Rattle.std.proofs.lemmas.Bool.{eqb-true}
use Rattle.av_pack.proofs.Halves.{sum_fits, half_told}
use Rattle.av_pack.proofs.in_longs.half_below.Goals as goal

pub overflow_add-result : goal.overflow_add-result
overflow_add-result c =
    let fits = sum_fits c.args.bits c.saturating_sub-added.result c.args.count c.args.long c.ones-ones.result c.requires.high c.ones-ones.ensures.room c.saturating_sub-added.ensures in
    search (rules, fits)

pub returns : goal.returns
returns c told =
    half_told c.args.bits c.saturating_sub-added.result c.args.count c.args.long c.ones-ones.result c.requires.low c.requires.high c.ones-ones.ensures.value c.ones-ones.ensures.room c.saturating_sub-added.ensures (eqb-true _ 0 told)
