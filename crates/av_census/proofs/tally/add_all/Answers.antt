use Rattle.std.proofs.Common.{◌<◌, ◌≤◌, length, take, ap, ◌∙◌, arith, refl}
use Rattle.std.proofs.lemmas.List.{take_all}
use Rattle.av_state.specs.States.{state_of}
use Rattle.av_state.specs.Table.{states}
use Rattle.av_census.specs.Counting.{weighed}
use Rattle.av_census.proofs.Adding.{tallies_next, has_room}
use Rattle.av_census.proofs.States.{tallies_same, tallies_as}
use Rattle.av_census.proofs.tally.add_all.Goals as goal

pub loop-number-init : goal.loop-number-init
loop-number-init c = tallies_same c.args.tally.now _ (λ s. refl)

pub add_some-requires : goal.add_some-requires
add_some-requires c =
    let n = c.loop-number.number in
    let k = c.state.result.now in
    let low : n < length c.args.counts.now = omega arith in
    record { room = has_room c.args.tally.now c.loop-number.tally k (states c.args.table.now) c.args.counts.now n low c.state.ensures.there c.loop-number.invariant (c.requires.room k) }

pub loop-number-preserved : goal.loop-number-preserved
loop-number-preserved c =
    let n = c.loop-number.number in
    let k = c.state.result.now in
    let low : n < length c.args.counts.now = omega arith in
    tallies_next c.args.tally.now c.loop-number.tally c.add_some.new.tally (state_of k) (states c.args.table.now) c.args.counts.now n low c.state.ensures.there c.loop-number.invariant c.in_ok-add_some.ensures

pub returns : goal.returns
returns c =
    let n = c.loop-number.number in
    let table = states c.args.table.now in
    let counts = c.args.counts.now in
    let past : length counts ≤ n = omega (arith, c.loop-number-test.false) in
    let long : length table ≤ n = omega (arith, c.requires.long, past) in
    tallies_as c.args.tally.now c.loop-number.tally (λ s. weighed s (take n table) (take n counts)) (λ s. weighed s table counts) c.loop-number.invariant
    (λ s. ap (λ ts. weighed s ts (take n counts)) (take_all n table long) ∙ ap (λ ns. weighed s table ns) (take_all n counts past))
