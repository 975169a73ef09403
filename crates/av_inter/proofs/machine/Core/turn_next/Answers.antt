use Rattle.std.proofs.Common.{◌≡◌, ℕ, ◌+◌, ◌∙◌, refl, sym, ap, subst, slice_get, slice_set, List, Option, Some, length, ◌<◌, add-one}
use Rattle.av_types.specs.declared.tick.Made.{Made}
use Rattle.av_rules.specs.Kinds.{kind_count}
use Rattle.av_cells.specs.Kinds.{kinds_of}
use Rattle.av_world.specs.Views.{grid, blocks, lists, height_of, positions_of}
use Rattle.av_play.specs.declared.event.Stage.TheVariants.{Held}
use Rattle.av_play.specs.Parts.{part_at}
use Rattle.av_cluster.specs.Clusters.{parts_of, sections_of}
use Rattle.av_inter.specs.Out.{Out, out_in, outs}
use Rattle.av_inter.specs.Whole.{whole}
use Rattle.av_inter.specs.Lawful.{IsCore}
use Rattle.av_inter.specs.Views.{state_of}
use Rattle.av_inter.proofs.Holding.{held_by, slot_out, outs_set, set_same, among_part, can_turn, after_turn, turn_state, inside_parcels}
use Rattle.av_inter.proofs.Starting.{blank_cells}
use Rattle.av_inter.proofs.Steps.{core_stage}
use Rattle.av_inter.proofs.machine.Core.turn_next.Goals as goal

pub turn_in-requires : goal.turn_in-requires
turn_in-requires c =
    let s = c.args.self.now in
    let n = c.args.part in
    let at : slice_get s.stages.items n ≡ Some (Held c.args.worker c.in-Some.done) =
    ap (λ l. slice_get l n) (sym c.as_slice.ensures.value) ∙ held_by c.args.worker (slice_get c.as_slice.result.now n) c.in-Some.done (sym c.in-Some.ensures.done) in
    let inside : n < length s.parcels.items = inside_parcels s.parcels.items s.stages.items n (Held c.args.worker c.in-Some.done) s.lawful.counted at in
    let slot : slice_get (outs s.parcels.items) n ≡ Some (out_in c.index_mut-slot.result.now) =
    slot_out s.parcels.items n c.index_mut-slot.result.now inside ∙ ap (λ y. Some (out_in y)) (sym c.index_mut-slot.ensures.value) in
    let next : slice_get (part_at (parts_of s.clusters.items) n) c.in-Some.done ≡ Some c.in-Some-entry_after.next =
    ap (λ l. slice_get (part_at (parts_of l) n) c.in-Some.done) (sym c.as_slice-2.ensures.value) ∙ sym c.in-Some-entry_after.ensures.entry in
    let there = among_part (part_at (parts_of s.clusters.items) n) c.in-Some.done c.in-Some-entry_after.next next in
    can_turn (kind_count s.kinds.now) (height_of s.world) (positions_of s.world) (lists s.world) (blocks s.world) (sections_of s.clusters.items) (parts_of s.clusters.items) s.stages.items (outs s.parcels.items) s.made.items s.lawful
    n (Held c.args.worker c.in-Some.done) at refl (out_in c.index_mut-slot.result.now) c.in-Some-entry_after.next slot there

pub invariant_of-self-in-Err : goal.invariant_of-self-in-Err
invariant_of-self-in-Err c =
    let s = c.args.self.now in
    let n = c.args.part in
    let at : slice_get s.stages.items n ≡ Some (Held c.args.worker c.in-Some.done) =
    ap (λ l. slice_get l n) (sym c.as_slice.ensures.value) ∙ held_by c.args.worker (slice_get c.as_slice.result.now n) c.in-Some.done (sym c.in-Some.ensures.done) in
    let inside : n < length s.parcels.items = inside_parcels s.parcels.items s.stages.items n (Held c.args.worker c.in-Some.done) s.lawful.counted at in
    let slot : slice_get (outs s.parcels.items) n ≡ Some (out_in c.index_mut-slot.result.now) =
    slot_out s.parcels.items n c.index_mut-slot.result.now inside ∙ ap (λ y. Some (out_in y)) (sym c.index_mut-slot.ensures.value) in
    let kept : outs (slice_set s.parcels.items n c.turn_in.new.slot) ≡ outs s.parcels.items =
    outs_set s.parcels.items n c.turn_in.new.slot ∙ ap (slice_set (outs s.parcels.items) n) c.in-Err.ensures.same_slot ∙ set_same (outs s.parcels.items) n (out_in c.index_mut-slot.result.now) slot in
    record {
      lawful = subst (λ (os : List (Option Out)). IsCore (kind_count s.kinds.now) (height_of s.world) (positions_of s.world) (lists s.world) (blocks s.world) (sections_of s.clusters.items) (parts_of s.clusters.items) s.stages.items os c.turn_in.new.made.items) (sym kept)
          (subst (λ (m : List Made). IsCore (kind_count s.kinds.now) (height_of s.world) (positions_of s.world) (lists s.world) (blocks s.world) (sections_of s.clusters.items) (parts_of s.clusters.items) s.stages.items (outs s.parcels.items) m) (sym c.in-Err.ensures.same_made) s.lawful);
      unbroken = s.unbroken;
    }

pub invariant_of-self-in-Ok : goal.invariant_of-self-in-Ok
invariant_of-self-in-Ok c =
    let s = c.args.self.now in
    let n = c.args.part in
    let at : slice_get s.stages.items n ≡ Some (Held c.args.worker c.in-Some.done) =
    ap (λ l. slice_get l n) (sym c.as_slice.ensures.value) ∙ held_by c.args.worker (slice_get c.as_slice.result.now n) c.in-Some.done (sym c.in-Some.ensures.done) in
    let inside : n < length s.parcels.items = inside_parcels s.parcels.items s.stages.items n (Held c.args.worker c.in-Some.done) s.lawful.counted at in
    let slot : slice_get (outs s.parcels.items) n ≡ Some (out_in c.index_mut-slot.result.now) =
    slot_out s.parcels.items n c.index_mut-slot.result.now inside ∙ ap (λ y. Some (out_in y)) (sym c.index_mut-slot.ensures.value) in
    let next : slice_get (part_at (parts_of s.clusters.items) n) c.in-Some.done ≡ Some c.in-Some-entry_after.next =
    ap (λ l. slice_get (part_at (parts_of l) n) c.in-Some.done) (sym c.as_slice-2.ensures.value) ∙ sym c.in-Some-entry_after.ensures.entry in
    let there = among_part (part_at (parts_of s.clusters.items) n) c.in-Some.done c.in-Some-entry_after.next next in
    let turned = after_turn (kind_count s.kinds.now) (height_of s.world) (positions_of s.world) (lists s.world) (blocks s.world) (sections_of s.clusters.items) (parts_of s.clusters.items) s.stages.items (outs s.parcels.items) s.made.items s.lawful n (Held c.args.worker c.in-Some.done) at refl
    (λ q. blank_cells (grid s.world) q) (λ q. s.world.lawful.tied q) (kinds_of s.kinds.now) s.now c.in-Some-entry_after.next c.turn_in.new.made.items (out_in c.index_mut-slot.result.now) (out_in c.turn_in.new.slot) slot there c.in-Ok.ensures.turned in
    record {
      lawful = subst (λ (os : List (Option Out)). IsCore (kind_count s.kinds.now) (height_of s.world) (positions_of s.world) (lists s.world) (blocks s.world) (sections_of s.clusters.items) (parts_of s.clusters.items) (slice_set s.stages.items n (Held c.args.worker (c.in-Some.done + 1))) os c.turn_in.new.made.items) (sym (outs_set s.parcels.items n c.turn_in.new.slot))
          (core_stage (kind_count s.kinds.now) (height_of s.world) (positions_of s.world) (lists s.world) (blocks s.world) (sections_of s.clusters.items) (parts_of s.clusters.items) s.stages.items (slice_set (outs s.parcels.items) n (out_in c.turn_in.new.slot)) c.turn_in.new.made.items turned.lawful n (Held c.args.worker c.in-Some.done) (Held c.args.worker (c.in-Some.done + 1)) at refl);
      unbroken = s.unbroken;
    }

pub returns-in-Err-clause-refused : goal.returns-in-Err-clause-refused
returns-in-Err-clause-refused c =
    let s = c.args.self.now in
    let n = c.args.part in
    record {
      done = c.in-Some.done;
      next = c.in-Some-entry_after.next;
      held = ap (λ l. slice_get l n) (sym c.as_slice.ensures.value) ∙ held_by c.args.worker (slice_get c.as_slice.result.now n) c.in-Some.done (sym c.in-Some.ensures.done);
      left = ap (λ l. slice_get (part_at (parts_of l) n) c.in-Some.done) (sym c.as_slice-2.ensures.value) ∙ sym c.in-Some-entry_after.ensures.entry;
    }

pub returns-in-Err-clause-unchanged : goal.returns-in-Err-clause-unchanged
returns-in-Err-clause-unchanged c =
    let s = c.args.self.now in
    let n = c.args.part in
    let at : slice_get s.stages.items n ≡ Some (Held c.args.worker c.in-Some.done) =
    ap (λ l. slice_get l n) (sym c.as_slice.ensures.value) ∙ held_by c.args.worker (slice_get c.as_slice.result.now n) c.in-Some.done (sym c.in-Some.ensures.done) in
    let inside : n < length s.parcels.items = inside_parcels s.parcels.items s.stages.items n (Held c.args.worker c.in-Some.done) s.lawful.counted at in
    let slot : slice_get (outs s.parcels.items) n ≡ Some (out_in c.index_mut-slot.result.now) =
    slot_out s.parcels.items n c.index_mut-slot.result.now inside ∙ ap (λ y. Some (out_in y)) (sym c.index_mut-slot.ensures.value) in
    let kept : outs (slice_set s.parcels.items n c.turn_in.new.slot) ≡ outs s.parcels.items =
    outs_set s.parcels.items n c.turn_in.new.slot ∙ ap (slice_set (outs s.parcels.items) n) c.in-Err.ensures.same_slot ∙ set_same (outs s.parcels.items) n (out_in c.index_mut-slot.result.now) slot in
    λ i. record { world = whole (kept i) (blocks s.world) (c.in-Err.ensures.same_made i); lists = lists s.world; made = c.in-Err.ensures.same_made i; stages = s.stages.items }

pub returns-in-Ok-clause-ok : goal.returns-in-Ok-clause-ok
returns-in-Ok-clause-ok c =
    let s = c.args.self.now in
    let n = c.args.part in
    let at : slice_get s.stages.items n ≡ Some (Held c.args.worker c.in-Some.done) =
    ap (λ l. slice_get l n) (sym c.as_slice.ensures.value) ∙ held_by c.args.worker (slice_get c.as_slice.result.now n) c.in-Some.done (sym c.in-Some.ensures.done) in
    let inside : n < length s.parcels.items = inside_parcels s.parcels.items s.stages.items n (Held c.args.worker c.in-Some.done) s.lawful.counted at in
    let slot : slice_get (outs s.parcels.items) n ≡ Some (out_in c.index_mut-slot.result.now) =
    slot_out s.parcels.items n c.index_mut-slot.result.now inside ∙ ap (λ y. Some (out_in y)) (sym c.index_mut-slot.ensures.value) in
    let next : slice_get (part_at (parts_of s.clusters.items) n) c.in-Some.done ≡ Some c.in-Some-entry_after.next =
    ap (λ l. slice_get (part_at (parts_of l) n) c.in-Some.done) (sym c.as_slice-2.ensures.value) ∙ sym c.in-Some-entry_after.ensures.entry in
    let there = among_part (part_at (parts_of s.clusters.items) n) c.in-Some.done c.in-Some-entry_after.next next in
    let turned = after_turn (kind_count s.kinds.now) (height_of s.world) (positions_of s.world) (lists s.world) (blocks s.world) (sections_of s.clusters.items) (parts_of s.clusters.items) s.stages.items (outs s.parcels.items) s.made.items s.lawful n (Held c.args.worker c.in-Some.done) at refl
    (λ q. blank_cells (grid s.world) q) (λ q. s.world.lawful.tied q) (kinds_of s.kinds.now) s.now c.in-Some-entry_after.next c.turn_in.new.made.items (out_in c.index_mut-slot.result.now) (out_in c.turn_in.new.slot) slot there c.in-Ok.ensures.turned in
    turn_state (kinds_of s.kinds.now) s.now (parts_of s.clusters.items) (state_of s) c.args.worker n c.in-Some.done c.in-Some-entry_after.next at next
    (whole (outs (slice_set s.parcels.items n c.turn_in.new.slot)) (blocks s.world) c.turn_in.new.made.items) c.turn_in.new.made.items (slice_set s.stages.items n (Held c.args.worker (c.in-Some.done + 1)))
    (ap (λ (os : List (Option Out)). whole os (blocks s.world) c.turn_in.new.made.items) (outs_set s.parcels.items n c.turn_in.new.slot) ∙ turned.turned_world) turned.turned_made
    (ap (λ (d : ℕ). slice_set s.stages.items n (Held c.args.worker d)) (add-one c.in-Some.done))
