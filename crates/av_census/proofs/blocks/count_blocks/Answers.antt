use Rattle.std.proofs.Common.{None, Option, List, ℕ, length, sym, ap, ◌∙◌, subst, arith}
use Rattle.std.specs.Prelude.{slice_index_or}
use Rattle.std.proofs.lemmas.List.{length-replicate}
use Rattle.av_section.specs.declared.section.Section.{Section}
use Rattle.av_census.specs.Counting.{SlotBelow}
use Rattle.av_census.proofs.Sections.{slots-none, slots-next}
use Rattle.av_census.proofs.blocks.count_blocks.Goals as goal

pub count_slot-requires-clause-below : goal.count_slot-requires-clause-below
count_slot-requires-clause-below c =
    let n = c.loop-index.index in
    let counts = c.loop-index.counts.items in
    subst (λ (o : Option Section). SlotBelow (length counts) o) (sym c.slot_at.ensures)
    (subst (λ (m : ℕ). SlotBelow m (slice_index_or c.args.slots.now n None)) (sym c.loop-index.invariant.long) (c.requires.below n))

pub count_slot-requires-clause-room : goal.count_slot-requires-clause-room
count_slot-requires-clause-room c = λ k.
    let most = c.loop-index.invariant.bound k in
    let few = c.requires.few in
    omega (arith, most, few)

pub loop-index-preserved : goal.loop-index-preserved
loop-index-preserved c =
    slots-next c.args.slots.now c.args.numbers c.loop-index.index c.loop-index.counts.items c.count_slot.new.counts.items c.loop-index.invariant (rw c.slot_at.ensures at c.count_slot.ensures)

pub loop-index-init : goal.loop-index-init
loop-index-init c =
    let zeros = c.in_ok-counts.ensures.items_if_clones_equal (λ y e. e) in
    slots-none c.args.slots.now c.args.numbers c.in_ok-counts.counts.items zeros (ap (λ (xs : List ℕ). length xs) zeros ∙ length-replicate c.args.numbers 0)
