use Rattle.std.proofs.Common.{◌++◌, [], ◌∷◌, sym, subst, List, option_map}
use Rattle.std.proofs.lemmas.List.{append-nil}
use Rattle.av_changes.specs.declared.change.Change.{Change}
use Rattle.av_changes.specs.Changes.{AreChangesOf, of_next}
use Rattle.av_changes.proofs.change.add_change.Goals as goal

pub returns-in_ok-push-in-Some : goal.returns-in_ok-push-in-Some
returns-in_ok-push-in-Some c files olds changes =
    let change = rw c.in-Some.is at c.in_ok-change.ensures in
    subst (λ (cs : List Change). AreChangesOf (files ++ c.args.file.now ∷ []) (olds ++ option_map (λ b. b.now) c.args.old ∷ []) cs) (sym c.in_ok-push-in-Some.ensures.items)
    (of_next files olds c.args.changes.now.items c.args.file.now _ _ changes change)

pub returns-in-None : goal.returns-in-None
returns-in-None c files olds changes =
    let change = rw c.in-None.is at c.in_ok-change.ensures in
    subst (λ (cs : List Change). AreChangesOf (files ++ c.args.file.now ∷ []) (olds ++ option_map (λ b. b.now) c.args.old ∷ []) cs) (append-nil c.args.changes.now.items)
    (of_next files olds c.args.changes.now.items c.args.file.now _ _ changes change)
