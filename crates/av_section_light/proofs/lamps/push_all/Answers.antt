use Rattle.std.proofs.Common.{arith, below_more, sym, subst, ap, ◌∙◌}
use Rattle.std.specs.Prelude.{Contains}
use Rattle.std.proofs.lemmas.List.Elements.{Contains-append_left, Contains-push}
use Rattle.av_types.specs.Positions.{block_at}
use Rattle.av_section_light.proofs.lamps.push_all.Goals as goal

pub loop-index-preserved : goal.loop-index-preserved
loop-index-preserved c =
    let inv = c.loop-index.invariant in
    let items = c.in_ok-push.ensures.items in
    record {
      kept = λ p w. subst (λ xs. Contains xs p) (sym items) (Contains-append_left _ _ p (inv.kept p w));
      all = below_more _ _ (λ i less. subst (λ xs. Contains xs (block_at c.args.at i)) (sym items) (Contains-append_left _ _ _ (inv.all i less)))
          (subst (λ p. Contains c.push.new.self.items p) (c.block_at.ensures ∙ ap (block_at c.args.at) c.new.ensures) (subst (λ xs. Contains xs c.block_at.result) (sym items) (Contains-push c.loop-index.lamps.items c.block_at.result)));
    }

pub returns-clause-all : goal.returns-clause-all
returns-clause-all c = λ i less. c.loop-index.invariant.all i (let m = c.loop-index-test.false in omega arith)
