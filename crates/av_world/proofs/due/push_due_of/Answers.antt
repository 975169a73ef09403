-- Where nothing is due nothing is picked. Else all that are due are in the part that is gone through.
use Rattle.std.proofs.Common.{◌≡◌, ◌++◌, OnOk, subst, ◌∙◌, sym}
use Rattle.av_world.proofs.Least.{nothing_pushed}
use Rattle.av_world.proofs.due.push_due_of.Goals as goal

pub returns-then-not-has_due : goal.returns-then-not-has_due
returns-then-not-has_due c = nothing_pushed c.args.now c.args.due.now.items _ (sym c.has_due.ensures ∙ c.if-not-has_due.true)

pub returns : goal.returns
returns c = subst (λ l. OnOk c.push_due.result (c.push_due.new.due.items ≡ c.args.due.now.items ++ l)) c.due_part.ensures.due c.push_due.ensures
