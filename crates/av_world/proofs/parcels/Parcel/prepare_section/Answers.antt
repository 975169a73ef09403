use Rattle.std.proofs.Common.{◌≡◌, ◌<◌, ℕ, Option, length, length-set, slice_set, sym, subst, false, rules, refl, arith, IsTrue, All}
use Rattle.std.proofs.lemmas.Result.{on_ok_weaker}
use Rattle.av_section.specs.declared.section.Section.{Section}
use Rattle.av_ticks.specs.Ticks.{entries}
use Rattle.av_cells.specs.Grid.{cells_of, Grid, is_here}
use Rattle.av_world.specs.Sections.{CanSetIn, filling_in}
use Rattle.av_world.specs.Changes.{HaveNumbers}
use Rattle.av_world.specs.Parts.{index, part_at}
use Rattle.av_world.proofs.Kept.{keeps_prepared, have_numbers, have_if}
use Rattle.av_world.proofs.OnePart.{part_was, part_is, part_kept, each_part, parcel_with}
use Rattle.av_world.proofs.parcels.Parcel.prepare_section.Goals as goal

pub invariant_of-self : goal.invariant_of-self
invariant_of-self c =
    let w = c.args.self.now in let at = w.positions.items in let slots = w.sections.items in let s = c.args.at in let i = c.slot_of-index.result in let old = c.index_mut.result.now in let new = c.prepare_slot.new.slot in
    let is : i ≡ index at s = c.slot_of-index.ensures in
    let below : i < length slots = search rules in
    let same = part_kept at slots s i old w.lawful.parallel is below c.index_mut.ensures.value new c.prepare_slot.ensures.same in
    record {
      lawful = parcel_with at slots (slice_set slots i new) (entries w.aside) w.lawful (length-set slots i new) (λ p h. subst (λ (g : Grid). (cells_of g).pending p ≡ false) (sym same) h);
      nowhere = w.nowhere;
      marked = w.marked;
    }

pub returns-clause-kept : goal.returns-clause-kept
returns-clause-kept c =
    let w = c.args.self.now in let at = w.positions.items in let slots = w.sections.items in let s = c.args.at in let i = c.slot_of-index.result in let old = c.index_mut.result.now in let new = c.prepare_slot.new.slot in
    let is : i ≡ index at s = c.slot_of-index.ensures in
    let below : i < length slots = search rules in
    record {
      positions = refl;
      grid_is = part_kept at slots s i old w.lawful.parallel is below c.index_mut.ensures.value new c.prepare_slot.ensures.same;
      aside_is = refl;
      room_grows = omega arith;
      prepared = λ t. each_part at slots s i old w.lawful.parallel is below c.index_mut.ensures.value new (λ o p. (n : ℕ) → CanSetIn o n → CanSetIn p n) (λ o n g. g)
          (λ n g. keeps_prepared old new c.prepare_slot.ensures.same n g) t;
    }

pub returns-clause-prepared : goal.returns-clause-prepared
returns-clause-prepared c =
    let w = c.args.self.now in let at = w.positions.items in let slots = w.sections.items in let s = c.args.at in let i = c.slot_of-index.result in let old = c.index_mut.result.now in let new = c.prepare_slot.new.slot in
    let is : i ≡ index at s = c.slot_of-index.ensures in
    let below : i < length slots = search rules in
    on_ok_weaker {P = HaveNumbers new c.args.numbers.now} c.prepare_slot.result (λ have here. have_numbers (part_at at (slice_set slots i new) s) c.args.numbers.now here
    (subst (λ (o : Option Section). HaveNumbers o c.args.numbers.now) (sym (part_is at slots s i old w.lawful.parallel is below c.index_mut.ensures.value new)) have)) c.prepare_slot.ensures.ok

pub returns-clause-succeeds : goal.returns-clause-succeeds
returns-clause-succeeds c =
    let w = c.args.self.now in let at = w.positions.items in let slots = w.sections.items in let s = c.args.at in let i = c.slot_of-index.result in let old = c.index_mut.result.now in
    let is : i ≡ index at s = c.slot_of-index.ensures in
    let below : i < length slots = search rules in
    λ ready. c.prepare_slot.ensures.succeeds
    (have_if old c.args.numbers.now (subst (λ (o : Option Section). IsTrue (is_here (filling_in o)) → All (CanSetIn o) c.args.numbers.now) (part_was at slots s i old w.lawful.parallel is below c.index_mut.ensures.value) ready))
