use Rattle.std.proofs.Common.{[], List, arith, refl, subst, sym}
use Rattle.av_changes.specs.declared.change.Change.{Change}
use Rattle.av_changes.specs.Changes.{AreChangesByName, of_none}
use Rattle.av_outcomes.proofs.changing.changes_of.Goals as goal

none : AreChangesByName [] []
none = record {
  olds = [];
  in_order_of_files = [];
  changes_of = of_none;
  same = record { moves = []; below = tt; is = refl };
  by_name = λ k d low high. absurd (omega arith);
}

pub returns-in-Uncovered : goal.returns-in-Uncovered
returns-in-Uncovered g c = rw c.in-Uncovered.is (subst (λ (cs : List Change). AreChangesByName [] cs) (sym c.new.ensures.items) none)
