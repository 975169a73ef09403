use Rattle.std.proofs.Common.{◌≡◌, ◌<◌, ℕ, IsTrue, Option, length, length-set, slice_set, ap, sym, subst, false, rules}
use Rattle.av_types.specs.Positions.{section_of}
use Rattle.av_section.specs.declared.section.Section.{Section}
use Rattle.av_ticks.specs.Ticks.{entries}
use Rattle.av_cells.specs.World as cells
use Rattle.av_cells.specs.Grid.{is_here}
use Rattle.av_world.specs.Sections.{CanSetIn}
use Rattle.av_world.specs.Parts.{index, part_at, part_grid}
use Rattle.av_world.specs.Parcels.{with_aside, here_below}
use Rattle.av_world.proofs.Moved.{can_set_here}
use Rattle.av_world.proofs.Kept.{sets_prepared}
use Rattle.av_world.proofs.OnePart.{part_was, part_set, each_part, parcel_with}
use Rattle.av_world.proofs.parcels.Parcel.set_number.Goals as goal

pub index_mut-requires : goal.index_mut-requires
index_mut-requires c =
    let w = c.args.self.now in let at = w.positions.items in let slots = w.sections.items in let s = c.section.result in let i = c.slot_of-index.result in
    let is : i ≡ index at s = c.slot_of-index.ensures in
    let here : IsTrue (is_here (part_grid at slots s)) = rw c.section.ensures (can_set_here (part_at at slots (section_of c.args.pos)) c.args.number c.requires.prepared) in
    let below : i < length slots = rw is (here_below slots (index at s) here) in
    search rules

pub set_slot-requires : goal.set_slot-requires
set_slot-requires c =
    let w = c.args.self.now in let at = w.positions.items in let slots = w.sections.items in let s = c.section.result in let i = c.slot_of-index.result in let old = c.index_mut.result.now in
    let is : i ≡ index at s = c.slot_of-index.ensures in
    let here : IsTrue (is_here (part_grid at slots s)) = rw c.section.ensures (can_set_here (part_at at slots (section_of c.args.pos)) c.args.number c.requires.prepared) in
    let below : i < length slots = rw is (here_below slots (index at s) here) in
    subst (λ (o : Option Section). CanSetIn o c.args.number) (part_was at slots s i old w.lawful.parallel is below c.index_mut.ensures.value)
    (subst (λ t. CanSetIn (part_at at slots t) c.args.number) (sym c.section.ensures) c.requires.prepared)

pub invariant_of-self : goal.invariant_of-self
invariant_of-self c =
    let w = c.args.self.now in let at = w.positions.items in let slots = w.sections.items in let s = c.section.result in let i = c.slot_of-index.result in let old = c.index_mut.result.now in let new = c.set_slot.new.slot in
    let is : i ≡ index at s = c.slot_of-index.ensures in
    let here : IsTrue (is_here (part_grid at slots s)) = rw c.section.ensures (can_set_here (part_at at slots (section_of c.args.pos)) c.args.number c.requires.prepared) in
    let below : i < length slots = rw is (here_below slots (index at s) here) in
    let changed = part_set at slots s i old w.lawful.parallel is below c.index_mut.ensures.value new c.args.pos c.section.ensures c.place.result.index c.args.number c.place.ensures c.set_slot.ensures here in
    record {
      lawful = parcel_with at slots (slice_set slots i new) (entries w.aside) w.lawful (length-set slots i new) (λ p h. subst (λ (v : cells.World). v.pending p ≡ false) (sym changed) h);
      nowhere = w.nowhere;
      marked = w.marked;
    }

pub returns-clause-changed : goal.returns-clause-changed
returns-clause-changed c =
    let w = c.args.self.now in let at = w.positions.items in let slots = w.sections.items in let s = c.section.result in let i = c.slot_of-index.result in let old = c.index_mut.result.now in let new = c.set_slot.new.slot in
    let is : i ≡ index at s = c.slot_of-index.ensures in
    let here : IsTrue (is_here (part_grid at slots s)) = rw c.section.ensures (can_set_here (part_at at slots (section_of c.args.pos)) c.args.number c.requires.prepared) in
    let below : i < length slots = rw is (here_below slots (index at s) here) in
    ap (with_aside (entries w.aside)) (part_set at slots s i old w.lawful.parallel is below c.index_mut.ensures.value new c.args.pos c.section.ensures c.place.result.index c.args.number c.place.ensures c.set_slot.ensures here)

pub returns-clause-prepared : goal.returns-clause-prepared
returns-clause-prepared c =
    let w = c.args.self.now in let at = w.positions.items in let slots = w.sections.items in let s = c.section.result in let i = c.slot_of-index.result in let old = c.index_mut.result.now in let new = c.set_slot.new.slot in
    let is : i ≡ index at s = c.slot_of-index.ensures in
    let here : IsTrue (is_here (part_grid at slots s)) = rw c.section.ensures (can_set_here (part_at at slots (section_of c.args.pos)) c.args.number c.requires.prepared) in
    let below : i < length slots = rw is (here_below slots (index at s) here) in
    λ t. each_part at slots s i old w.lawful.parallel is below c.index_mut.ensures.value new (λ o p. (n : ℕ) → CanSetIn o n → CanSetIn p n) (λ o n g. g)
    (λ n g. sets_prepared old new c.place.result.index c.args.number c.set_slot.ensures n g) t
