-- One more number, which is new or not.
use Rattle.std.proofs.Common.{◌≡◌, ◌<◌, ◌∙◌, length, get_or, arith, refl, rules}
use Rattle.std.proofs.lemmas.List.{get_or_default}
use Rattle.av_section.proofs.Once.{once_more}
use Rattle.av_section.proofs.Ranking.{ranked_more, all_ranked}
use Rattle.av_section.proofs.indices.distinct_by_pairs.Goals as goal

pub loop-index-preserved : goal.loop-index-preserved
loop-index-preserved c =
    let numbers = c.args.numbers.items in
    let ranks = c.loop-index.ranks.items in
    let i = c.loop-index.index in
    let inv = c.loop-index.invariant in
    let n = c.index.result.now in
    let low : i < length numbers = omega (arith, c.loop-index-test.true) in
    let within : i < length ranks = omega (arith, low, inv.ranked.long) in
    let at : n ≡ get_or ranks i 0 = c.index.ensures ∙ get_or_default ranks i n 0 within in
    let own : n ≡ get_or numbers i 0 = at ∙ inv.ranked.left i (omega arith) in
    let small : c.index.result.now < 65536 = search rules in
    let next = c.in_ok-ranks.ensures in
    record {
      once = once_more numbers c.loop-index.once.items c.rank_in.new.once.items i n low own small next.items inv.once;
      ranked = ranked_more numbers c.loop-index.once.items ranks c.rank_in.new.once.items _ i n c.in_ok-ranks.field-0 low at next.items next.bound next.value refl inv.ranked;
    }

pub returns-clause-ranks : goal.returns-clause-ranks
returns-clause-ranks c = all_ranked c.args.numbers.items c.loop-index.once.items c.loop-index.ranks.items c.loop-index.index (omega (arith, c.loop-index-test.false)) c.loop-index.invariant.ranked
