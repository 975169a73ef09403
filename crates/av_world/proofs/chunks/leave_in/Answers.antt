-- Where nothing is due all stays. Else all that are due are in the part that is gone through.
use Rattle.std.proofs.Common.{◌≡◌, true, false, length, sym, subst, ◌∙◌, All}
use Rattle.std.specs.List.{list_any}
use Rattle.av_ticks.specs.Entries.{is_due}
use Rattle.av_ticks.specs.Ticks.{entries}
use Rattle.std.proofs.lemmas.List.Elements.{All-take}
use Rattle.av_types.specs.Positions.{is_block_of}
use Rattle.av_types.specs.declared.tick.Entry.{Entry}
use Rattle.av_world.proofs.Clearing.{nothing_leaves, part_leaves, all_stay}
use Rattle.av_world.proofs.chunks.leave_in.Goals as goal

pub returns-then-not-has_due-clause-sections : goal.returns-then-not-has_due-clause-sections
returns-then-not-has_due-clause-sections c =
    let es = entries c.args.chunk.now.ticks in
    let none : list_any (is_due c.args.now) es ≡ false = sym c.has_due.ensures ∙ c.if-not-has_due.true in
    nothing_leaves c.args.height c.args.now c.args.chunk.now.sections.items es none

pub returns-then-not-has_due-clause-entries : goal.returns-then-not-has_due-clause-entries
returns-then-not-has_due-clause-entries c =
    let es = entries c.args.chunk.now.ticks in
    let none : list_any (is_due c.args.now) es ≡ false = sym c.has_due.ensures ∙ c.if-not-has_due.true in
    sym (all_stay c.args.now es none)

pub clear_due-requires-clause-inside : goal.clear_due-requires-clause-inside
clear_due-requires-clause-inside c =
    let inside : Entry → Type 0 = λ e. is_block_of c.args.height e.pos.y ≡ true in
    subst (All inside) (sym c.due_part.ensures.begins) (All-take inside (length c.due_part.result.now) (entries c.args.chunk.now.ticks) c.requires.inside)

pub returns-clause-sections : goal.returns-clause-sections
returns-clause-sections c = part_leaves c.args.height c.args.now c.args.chunk.now.sections.items c.clear_due.new.sections.items c.due_part.result.now (entries c.args.chunk.now.ticks) c.due_part.ensures.due c.clear_due.ensures
