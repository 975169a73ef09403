-- One more number has its rank.
use Rattle.std.proofs.Common.{◌≡◌, ◌<◌, ◌∙◌, length, get_or, arith, refl, sym, subst}
use Rattle.std.specs.Prelude.{Contains}
use Rattle.std.proofs.lemmas.List.{get_or_default}
use Rattle.av_section.proofs.Ranking.{StandsAt, replaced_more, all_ranked}
use Rattle.av_section.proofs.indices.ranks_among.Goals as goal

pub rank_among-requires-clause-there : goal.rank_among-requires-clause-there
rank_among-requires-clause-there c =
    let i = c.loop-index.index in
    let inv = c.loop-index.invariant in
    let n = c.index.result.now in
    let low : i < length c.args.numbers.items = omega (arith, c.loop-index-test.true) in
    let within : i < length c.loop-index.ranks.items = omega (arith, low, inv.long) in
    let own : n ≡ get_or c.args.numbers.items i 0 = c.index.ensures ∙ get_or_default c.loop-index.ranks.items i n 0 within ∙ inv.left i (omega arith) in
    subst (Contains c.args.rising.now) (sym own) (c.requires.there i 0 low)

pub loop-index-preserved : goal.loop-index-preserved
loop-index-preserved c =
    let i = c.loop-index.index in
    let inv = c.loop-index.invariant in
    let n = c.index.result.now in
    let low : i < length c.args.numbers.items = omega (arith, c.loop-index-test.true) in
    let within : i < length c.loop-index.ranks.items = omega (arith, low, inv.long) in
    let own : n ≡ get_or c.args.numbers.items i 0 = c.index.ensures ∙ get_or_default c.loop-index.ranks.items i n 0 within ∙ inv.left i (omega arith) in
    replaced_more (StandsAt c.args.rising.now) c.args.numbers.items c.loop-index.ranks.items _ i c.rank_among.result low inv refl (c.rank_among.ensures.bound, c.rank_among.ensures.value ∙ own)

pub returns : goal.returns
returns c = all_ranked c.args.numbers.items c.args.rising.now c.loop-index.ranks.items c.loop-index.index (omega (arith, c.loop-index-test.false)) c.loop-index.invariant
