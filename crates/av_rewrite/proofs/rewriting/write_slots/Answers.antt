use Rattle.std.proofs.Common.{◌≡◌, ◌++◌, ◌∷◌, ◌∙◌, List, length, option_map, append_assoc, sym}
use Rattle.std.specs.Vec.Iter.{into_iter_items}
use Rattle.av_chunk.specs.Light.{section_count}
use Rattle.av_codec.specs.Writing.{states_of_kinds}
use Rattle.av_rewrite.specs.declared.rewriting.Slot.{Slot}
use Rattle.av_rewrite.specs.Rewriting.{IsRewritten}
use Rattle.av_rewrite.proofs.Slots.{made_all, made_here, read_here, slot_here}
use Rattle.av_rewrite.proofs.rewriting.write_slots.Goals as goal

pub write_slot-requires : goal.write_slot-requires
write_slot-requires c =
    let inv = c.loop-slot.invariant in
    let left : List Slot = into_iter_items c.next.new.self in
    read_here (states_of_kinds c.args.kinds.now) (section_count c.args.light.now) c.args.slots.items c.loop-slot.yielded c.in-Some.slot left
    (rw c.in-Some.ensures.steps.0 at inv.split) inv.read

pub loop-slot-preserved : goal.loop-slot-preserved
loop-slot-preserved c =
    let inv = c.loop-slot.invariant in
    let slot : Slot = c.in-Some.slot in
    let left : List Slot = into_iter_items c.next.new.self in
    let split : c.loop-slot.yielded ++ slot ∷ left ≡ c.args.slots.items = rw c.in-Some.ensures.steps.0 at inv.split in
    record {
      split = rw append_assoc split;
      read = inv.read;
      so_far = λ h region count s.
          made_here (option_map (λ v. v.items)) (IsRewritten h) region c.loop-slot.yielded slot c.loop-slot.payloads.items c.push.new.self.items c.in_ok-write_slot.field-0
          c.in_ok-push.ensures.items (inv.so_far h region count s)
          (c.in_ok-write_slot.ensures h region (length c.loop-slot.yielded)
          (slot_here h region (states_of_kinds c.args.kinds.now) count c.args.slots.items c.loop-slot.yielded slot left split s));
    }

pub returns : goal.returns
returns c = λ h region count s.
    let inv = c.loop-slot.invariant in
    made_all (option_map (λ v. v.items)) (IsRewritten h) h region (states_of_kinds c.args.kinds.now) count c.args.slots.items c.loop-slot.yielded (into_iter_items c.loop-slot.slot-iterator)
    c.loop-slot.payloads.items inv.split (sym c.loop-slot.slot-iterator.rest.ok.0 ∙ c.in-None.ensures.steps.0) s (inv.so_far h region count s)
