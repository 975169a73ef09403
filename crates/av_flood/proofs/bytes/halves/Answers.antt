use Rattle.std.proofs.Common.{arith, ◌%◌, ◌/◌, ◌<◌, ◌≢◌, ◌∙◌, ap, length, below_more}
use Rattle.std.proofs.lemmas.List.{get_or-set_same, get_or-set_other, length-set}
use Rattle.av_flood.proofs.bytes.halves.Goals as goal

pub loop-pair-preserved : goal.loop-pair-preserved
loop-pair-preserved c =
    let xs = c.loop-pair.halves in
    let at = c.loop-pair.pair in
    let v = c.two_halves.result in
    let inv = c.loop-pair.invariant in
    let less : at < length xs = omega (arith, inv.count) in
    record {
      count = simp length-set inv.count;
      low = below_more _ _ (λ k l. ap (λ n. n % 16) (get_or-set_other xs at k v 0 (let ne : k ≢ at = omega arith in ne)) ∙ inv.low k l) (ap (λ n. n % 16) (get_or-set_same xs at v 0 less) ∙ c.two_halves.ensures.low);
      high = below_more _ _ (λ k l. ap (λ n. n / 16) (get_or-set_other xs at k v 0 (let ne : k ≢ at = omega arith in ne)) ∙ inv.high k l) (ap (λ n. n / 16) (get_or-set_same xs at v 0 less) ∙ c.two_halves.ensures.high);
    }
