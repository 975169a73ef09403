-- An entry that was not added changes no list.
use Rattle.std.proofs.Common.{sym, ap, ◌∙◌}
use Rattle.av_cells.specs.World.{listed_if}
use Rattle.av_cells.proofs.Wakes.{Appends-none}
use Rattle.av_cells.proofs.awake.wake.Goals as goal

pub returns-else-is_new-clause-listed : goal.returns-else-is_new-clause-listed
returns-else-is_new-clause-listed g c =
    let old = g.C.Cells.lists c.args.cells.now in
    let same = c.if-is_new.ensures.lists ∙ ap (λ b. listed_if b old c.entry_of-entry.result) (sym c.if-is_new.ensures.added) in
    rw same (Appends-none c.args.made.now.items old)
