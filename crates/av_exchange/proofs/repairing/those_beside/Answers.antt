use Rattle.std.proofs.Common.{◌∙◌, sym, subst}
use Rattle.std.proofs.lemmas.Bool.{true≢false}
use Rattle.av_exchange.specs.Names.{IsBeside}
use Rattle.av_exchange.proofs.Stepwise.{all_more}
use Rattle.av_exchange.proofs.Swept.{all_first, one_kept, one_passed}
use Rattle.av_exchange.proofs.repairing.those_beside.Goals as goal

pub loop-name-init : goal.loop-name-init
loop-name-init c = all_first c.args.names.items _ _ c.new-beside.ensures.items c.into_iter-name-iterator.ensures.into_iter_gives.0

pub loop-name-preserved-in-Continue-branch-2 : goal.loop-name-preserved-in-Continue-branch-2
loop-name-preserved-in-Continue-branch-2 c = (
  all_more IsBeside c.loop-name.beside.items c.in-Some.name _ c.in_ok-push.ensures.items c.loop-name.invariant.0
      (subst IsBeside c.as_str.ensures.value (c.in_ok-is_beside.ensures.is c.if-branch.true)),
  one_kept c.args.names.items c.loop-name.beside.items _ c.loop-name.name-iterator.rest.items _ c.in-Some.name c.in-Some.ensures.steps.0 c.in_ok-push.ensures.items
      c.loop-name.invariant.1,
)

pub loop-name-preserved : goal.loop-name-preserved
loop-name-preserved c = (
  c.loop-name.invariant.0,
  one_passed c.args.names.items c.loop-name.beside.items c.loop-name.name-iterator.rest.items _ c.in-Some.name c.in-Some.ensures.steps.0
      (λ b. true≢false (sym (c.in_ok-is_beside.ensures.other (subst IsBeside (sym c.as_str.ensures.value) b)) ∙ c.if-branch.false))
      c.loop-name.invariant.1,
)
