-- None is there twice, or they are put in order.
use Rattle.std.proofs.Common.{◌≡◌, ◌≢◌, ◌<◌, sym, subst, All, length, arith, rules}
use Rattle.std.specs.List.Sorted.{IsStrictlyIncreasing}
use Rattle.std.specs.Prelude.{Contains}
use Rattle.av_section.proofs.Rising.{once_itself, once_rising, own_are_ranks}
use Rattle.av_section.proofs.indices.distinct_by_order.Goals as goal

pub returns-then-len-clause-numbers : goal.returns-then-len-clause-numbers
returns-then-len-clause-numbers c =
    let numbers = c.args.numbers.items in
    let rising = c.in_ok-rising.rising.items in
    let small : All (λ x. x < 65536) numbers = search rules in
    let many : length rising ≡ length numbers = omega (arith, c.len.ensures, c.len-2.ensures, c.if-len.true) in
    once_itself numbers rising (rw c.as_slice.ensures.value at c.in_ok-rising.ensures) small many

pub returns-then-len-clause-ranks : goal.returns-then-len-clause-ranks
returns-then-len-clause-ranks c =
    let many : length c.in_ok-rising.rising.items ≡ length c.args.numbers.items = omega (arith, c.len.ensures, c.len-2.ensures, c.if-len.true) in
    own_are_ranks c.args.numbers.items c.own_ranks.result.items (rw many at c.own_ranks.ensures)

pub ranks_among-ranks-requires-clause-rising : goal.ranks_among-ranks-requires-clause-rising
ranks_among-ranks-requires-clause-rising c = subst IsStrictlyIncreasing (sym c.as_slice-2.ensures.value) c.in_ok-rising.ensures.rises

pub ranks_among-ranks-requires-clause-there : goal.ranks_among-ranks-requires-clause-there
ranks_among-ranks-requires-clause-there c =
    let there = rw c.as_slice.ensures.value at c.in_ok-rising.ensures.there in
    subst (λ l. All (Contains l) c.args.numbers.items) (sym c.as_slice-2.ensures.value) there

pub returns-clause-numbers : goal.returns-clause-numbers
returns-clause-numbers c =
    let numbers = c.args.numbers.items in
    let rising = c.in_ok-rising.rising.items in
    let fewer : length rising ≢ length numbers = λ e. absurd (omega (arith, c.len.ensures, c.len-2.ensures, c.if-len.false, e)) in
    let small : All (λ x. x < 65536) numbers = search rules in
    once_rising numbers rising (rw c.as_slice.ensures.value at c.in_ok-rising.ensures) small fewer
