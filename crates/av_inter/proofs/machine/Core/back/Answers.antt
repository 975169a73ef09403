use Rattle.std.proofs.Common.{◌≡◌, ◌∙◌, refl, sym, ap, subst, slice_get, slice_set, List, Option, None, Some, length, ◌<◌}
use Rattle.av_rules.specs.Kinds.{kind_count}
use Rattle.av_world.specs.Views.{grid, blocks, lists, height_of, positions_of}
use Rattle.av_play.specs.Parts.{part_at}
use Rattle.av_play.specs.declared.event.Stage.TheVariants.{Held, Ended}
use Rattle.av_cluster.specs.Clusters.{parts_of, sections_of}
use Rattle.av_inter.specs.Out.{Out, out_in, outs}
use Rattle.av_inter.specs.Whole.{whole}
use Rattle.av_inter.specs.Lawful.{IsCore}
use Rattle.av_inter.proofs.Holding.{held_by, slot_out, outs_set, inside_parcels}
use Rattle.av_inter.proofs.Cutting.{same_places}
use Rattle.av_inter.proofs.Homing.{core_moved, slot_of_world, after_back}
use Rattle.av_inter.proofs.Starting.{blank_cells}
use Rattle.av_inter.proofs.machine.Core.back.Goals as goal

pub mend_one-requires : goal.mend_one-requires
mend_one-requires c =
    let s = c.args.self.now in
    let n = c.args.part in
    let at : slice_get s.stages.items n ≡ Some (Held c.args.worker c.in-Some.done) =
    ap (λ l. slice_get l n) (sym c.as_slice.ensures.value) ∙ held_by c.args.worker (slice_get c.as_slice.result.now n) c.in-Some.done (sym c.in-Some.ensures.done) in
    let inside : n < length s.parcels.items = inside_parcels s.parcels.items s.stages.items n (Held c.args.worker c.in-Some.done) s.lawful.counted at in
    let slot : slice_get (outs s.parcels.items) n ≡ Some (out_in c.take-slot.result) =
    slot_out s.parcels.items n c.index_mut.result.now inside ∙ ap (λ y. Some (out_in y)) (sym c.index_mut.ensures.value ∙ sym c.take-slot.ensures.value) in
    slot_of_world (kind_count s.kinds.now) s.world (blocks s.world) (sections_of s.clusters.items) (parts_of s.clusters.items) s.stages.items (outs s.parcels.items) s.made.items s.lawful n c.take-slot.result slot

pub invariant_of-self : goal.invariant_of-self
invariant_of-self c =
    let s = c.args.self.now in
    let n = c.args.part in
    let at : slice_get s.stages.items n ≡ Some (Held c.args.worker c.in-Some.done) =
    ap (λ l. slice_get l n) (sym c.as_slice.ensures.value) ∙ held_by c.args.worker (slice_get c.as_slice.result.now n) c.in-Some.done (sym c.in-Some.ensures.done) in
    let inside : n < length s.parcels.items = inside_parcels s.parcels.items s.stages.items n (Held c.args.worker c.in-Some.done) s.lawful.counted at in
    let slot : slice_get (outs s.parcels.items) n ≡ Some (out_in c.take-slot.result) =
    slot_out s.parcels.items n c.index_mut.result.now inside ∙ ap (λ y. Some (out_in y)) (sym c.index_mut.ensures.value ∙ sym c.take-slot.ensures.value) in
    let gone : outs (slice_set s.parcels.items n c.take-slot.new.self) ≡ slice_set (outs s.parcels.items) n None =
    outs_set s.parcels.items n c.take-slot.new.self ∙ ap (λ y. slice_set (outs s.parcels.items) n (out_in y)) c.take-slot.ensures.after in
    let home = after_back (kind_count s.kinds.now) (height_of s.world) (positions_of s.world) (lists s.world) (blocks s.world) (sections_of s.clusters.items) (parts_of s.clusters.items) s.stages.items (outs s.parcels.items) s.made.items s.lawful (λ q. blank_cells (grid s.world) q) (λ q. s.world.lawful.tied q)
    n (Held c.args.worker c.in-Some.done) at refl (out_in c.take-slot.result) slot (blocks c.mend_one.new.world) c.mend_one.ensures.blocks in
    record {
      lawful = subst (λ (os : List (Option Out)). IsCore (kind_count s.kinds.now) (height_of c.mend_one.new.world) (positions_of c.mend_one.new.world) (lists c.mend_one.new.world) (blocks c.mend_one.new.world) (sections_of s.clusters.items) (parts_of s.clusters.items) (slice_set s.stages.items n Ended) os s.made.items) (sym gone)
          (core_moved (kind_count s.kinds.now) s.world c.mend_one.new.world (blocks c.mend_one.new.world) (sections_of s.clusters.items) (parts_of s.clusters.items) (slice_set s.stages.items n Ended) (slice_set (outs s.parcels.items) n None) s.made.items c.mend_one.ensures.same home.lawful);
      unbroken = c.mend_one.ensures.same.broken ∙ s.unbroken;
    }

pub returns-clause-ok : goal.returns-clause-ok
returns-clause-ok c =
    let s = c.args.self.now in
    let n = c.args.part in
    let at : slice_get s.stages.items n ≡ Some (Held c.args.worker c.in-Some.done) =
    ap (λ l. slice_get l n) (sym c.as_slice.ensures.value) ∙ held_by c.args.worker (slice_get c.as_slice.result.now n) c.in-Some.done (sym c.in-Some.ensures.done) in
    let inside : n < length s.parcels.items = inside_parcels s.parcels.items s.stages.items n (Held c.args.worker c.in-Some.done) s.lawful.counted at in
    let slot : slice_get (outs s.parcels.items) n ≡ Some (out_in c.take-slot.result) =
    slot_out s.parcels.items n c.index_mut.result.now inside ∙ ap (λ y. Some (out_in y)) (sym c.index_mut.ensures.value ∙ sym c.take-slot.ensures.value) in
    let gone : outs (slice_set s.parcels.items n c.take-slot.new.self) ≡ slice_set (outs s.parcels.items) n None =
    outs_set s.parcels.items n c.take-slot.new.self ∙ ap (λ y. slice_set (outs s.parcels.items) n (out_in y)) c.take-slot.ensures.after in
    let home = after_back (kind_count s.kinds.now) (height_of s.world) (positions_of s.world) (lists s.world) (blocks s.world) (sections_of s.clusters.items) (parts_of s.clusters.items) s.stages.items (outs s.parcels.items) s.made.items s.lawful (λ q. blank_cells (grid s.world) q) (λ q. s.world.lawful.tied q)
    n (Held c.args.worker c.in-Some.done) at refl (out_in c.take-slot.result) slot (blocks c.mend_one.new.world) c.mend_one.ensures.blocks in
    λ i. record {
      world = (ap (λ (os : List (Option Out)). whole os (blocks c.mend_one.new.world) s.made.items) gone ∙ home.same_whole) i;
      lists = c.mend_one.ensures.same.lists_are i;
      made = s.made.items;
      stages = slice_set s.stages.items n Ended;
    }

pub returns-clause-same : goal.returns-clause-same
returns-clause-same c = record { parts = refl; kinds = refl; now = refl; same_site = same_places _ _ c.mend_one.ensures.same }

pub returns-clause-lawful : goal.returns-clause-lawful
returns-clause-lawful c =
    ap (λ l. slice_get l c.args.part) (sym c.as_slice.ensures.value) ∙ held_by c.args.worker (slice_get c.as_slice.result.now c.args.part) c.in-Some.done (sym c.in-Some.ensures.done)
    ∙ ap (λ m. Some (Held c.args.worker m)) (c.if-done-count_of.false ∙ c.count_of.ensures ∙ ap (λ cs. length (part_at (parts_of cs) c.args.part)) c.as_slice-2.ensures.value)
