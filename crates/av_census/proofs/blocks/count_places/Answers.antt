use Rattle.std.proofs.Common.{◌≡◌, ◌<◌, length, subst, sym, arith}
use Rattle.av_section.specs.Section.{number_at}
use Rattle.av_census.specs.Counting.{CountsMore, first_places}
use Rattle.av_census.proofs.Sections.{counts-none, counts-next}
use Rattle.av_census.proofs.blocks.count_places.Goals as goal

pub loop-index-init : goal.loop-index-init
loop-index-init c = counts-none c.args.counts.now.items c.args.section.now

pub loop-index-preserved : goal.loop-index-preserved
loop-index-preserved c =
    let inv = c.loop-index.invariant in
    let n = c.loop-index.index in
    let s = c.args.section.now in
    let place : n < 4096 = omega arith in
    let low : number_at s n < length c.loop-index.counts.items = subst (λ m. number_at s n < m) (sym inv.long) (c.requires.below n place) in
    counts-next c.args.counts.now.items c.loop-index.counts.items c.count_place.new.counts.items s n inv low c.count_place.ensures

pub returns : goal.returns
returns c =
    let end : c.loop-index.index ≡ 4096 = omega (arith, c.loop-index-test.false, c.loop-index.auto.index-end) in
    subst (λ n. CountsMore c.args.counts.now.items c.loop-index.counts.items (λ table. first_places table c.args.section.now n) n) end c.loop-index.invariant
