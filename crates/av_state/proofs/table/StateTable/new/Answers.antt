-- The loop has numbered all the first states.
use Rattle.std.proofs.Common.{◌≡◌, ◌∙◌, ap, sym, subst, arith, ◌+◌, take, map}
use Rattle.av_state.specs.StateList.{IsStateList, first_states}
use Rattle.av_state.specs.States.{state_of}
use Rattle.av_state.proofs.Numbering.{IsStateList-first}
use Rattle.av_state.proofs.table.StateTable.new.Goals as goal

pub invariant_of-result : goal.invariant_of-result
invariant_of-result c =
    let last : c.loop-level.level ≡ 9 = omega arith in
    let all : map state_of c.loop-level.states.items ≡ first_states = c.loop-level.invariant.first ∙ ap (λ n. take (n + 1) first_states) last in
    record { numbered = subst IsStateList (sym all) IsStateList-first; indexed = c.loop-level.invariant.index }

pub returns-clause-ok : goal.returns-clause-ok
returns-clause-ok c =
    let last : c.loop-level.level ≡ 9 = omega arith in
    c.loop-level.invariant.first ∙ ap (λ n. take (n + 1) first_states) last
