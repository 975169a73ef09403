use Rattle.std.proofs.Common.{◌≡◌, ◌≤◌, ◌+◌, IsTrue, true, List, [], pos, get_or, drop, sym, ap, subst, ◌∙◌, arith}
use Rattle.std.proofs.lemmas.List.{drop_all}
use Rattle.av_types.specs.Positions.{chunk_of}
use Rattle.av_types.specs.declared.tick.Entry.{Entry}
use Rattle.av_types.specs.declared.tick.Made.{Made}
use Rattle.av_cells.specs.World as cells
use Rattle.av_cells.specs.World.{listed_all, with_entry_if}
use Rattle.av_world.specs.Appended.{entries_made}
use Rattle.av_world.specs.Appending.{entered_all, CanAppend, count_in}
use Rattle.av_world.specs.Views.{blocks, lists, room}
use Rattle.av_world.proofs.Appends.{next_made, own_counts}
use Rattle.av_world.proofs.worlds.World.add_all.Goals as goal

abbrev zero_made : Made
zero_made = record { maker = 0; number = 0; entry = record { pos = record { x = pos 0; y = pos 0; z = pos 0 }; due = pos 0; priority = pos 0 } }

pub add_near-requires-clause-loaded : goal.add_near-requires-clause-loaded
add_near-requires-clause-loaded c =
    let ms = c.args.made.now in let i = c.loop-one.one-index in let old = c.loop-one.self in
    let can = subst (CanAppend (blocks old)) (next_made ms i zero_made c.loop-one-test.true) c.loop-one.invariant.new in
    can.0

pub add_near-requires-clause-room : goal.add_near-requires-clause-room
add_near-requires-clause-room c =
    let ms = c.args.made.now in let i = c.loop-one.one-index in let old = c.loop-one.self in let e = (get_or ms i zero_made).entry in
    let here = next_made ms i zero_made c.loop-one-test.true in
    let can = subst (CanAppend (blocks old)) here c.loop-one.invariant.new in
    let has = subst (λ (es : List Entry). count_in (chunk_of e.pos) es ≤ room old (chunk_of e.pos)) here (c.loop-one.invariant.room e.pos can.0) in
    let one = own_counts (chunk_of e.pos) (count_in (chunk_of e.pos) (entries_made (drop (i + 1) ms))) in
    omega (arith, has, one)

pub add_near-requires-clause-new : goal.add_near-requires-clause-new
add_near-requires-clause-new c =
    let ms = c.args.made.now in let i = c.loop-one.one-index in let old = c.loop-one.self in
    let can = subst (CanAppend (blocks old)) (next_made ms i zero_made c.loop-one-test.true) c.loop-one.invariant.new in
    can.1

pub loop-one-preserved : goal.loop-one-preserved
loop-one-preserved c =
    let ms = c.args.made.now in let i = c.loop-one.one-index in let old = c.loop-one.self in let new = c.add_near.new.self in let e = (get_or ms i zero_made).entry in
    let rest = entries_made (drop (i + 1) ms) in
    let here = next_made ms i zero_made c.loop-one-test.true in
    let can = subst (CanAppend (blocks old)) here c.loop-one.invariant.new in
    let changed : blocks new ≡ with_entry_if true (blocks old) e = c.add_near.ensures.changed in
    record {
      new = subst (λ (w : cells.World). CanAppend w rest) (sym changed) can.2;
      room = λ p t.
          let was = subst (λ (w : cells.World). IsTrue (w.loaded p)) changed t in
          let has = subst (λ (es : List Entry). count_in (chunk_of p) es ≤ room old (chunk_of p)) here (c.loop-one.invariant.room p was) in
          let less = c.add_near.ensures.room (chunk_of p) in
          omega (arith, has, less);
      blocks_are = ap (λ (w : cells.World). entered_all w rest) changed ∙ (sym (ap (entered_all (blocks old)) here) ∙ c.loop-one.invariant.blocks_are);
      lists_are = ap (λ l. listed_all l rest) c.add_near.ensures.lists ∙ (sym (ap (listed_all (lists old)) here) ∙ c.loop-one.invariant.lists_are);
      site_is = c.add_near.ensures.site ∙ c.loop-one.invariant.site_is;
    }

pub returns-clause-blocks : goal.returns-clause-blocks
returns-clause-blocks c =
    let ms = c.args.made.now in let i = c.loop-one.one-index in
    let none : drop i ms ≡ [] = drop_all i ms (omega (arith, c.loop-one-test.false)) in
    sym (ap (λ (xs : List Made). entered_all (blocks c.loop-one.self) (entries_made xs)) none) ∙ c.loop-one.invariant.blocks_are

pub returns-clause-lists : goal.returns-clause-lists
returns-clause-lists c =
    let ms = c.args.made.now in let i = c.loop-one.one-index in
    let none : drop i ms ≡ [] = drop_all i ms (omega (arith, c.loop-one-test.false)) in
    sym (ap (λ (xs : List Made). listed_all (lists c.loop-one.self) (entries_made xs)) none) ∙ c.loop-one.invariant.lists_are
