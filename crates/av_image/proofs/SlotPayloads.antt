-- Slots and their payloads.
use Rattle.std.proofs.Common.{◌≡◌, ◌∙◌, ℕ, ◌<◌, List, length, get_or, Option, Some, refl, sym, ap, subst, arith}
use Rattle.std.specs.Prelude.{slice_get}
use Rattle.std.proofs.lemmas.Option.{slice_get_read}
use Rattle.av_types.specs.Positions.{chunk_at}
use Rattle.av_types.specs.declared.position.ChunkPos.{ChunkPos}
use Rattle.av_chunk.specs.declared.rest.ChunkRest.{ChunkRest}
use Rattle.av_world.specs.Views.{height_of, positions_of}
use Rattle.av_image.specs.declared.rest.Slot.{Slot}
use Rattle.av_image.specs.declared.rest.Slot.TheVariants.{Loaded}
use Rattle.av_image.specs.declared.writing.job.RegionJob.{RegionJob}
use Rattle.av_image.specs.Saving.{IsSlotOf}
use Rattle.av_image.specs.SavingSteps.{slot_payload, loaded_bytes}
use Rattle.av_image.specs.Making.{IsPayloadAt}

-- the slot at an index, and what is said of it
module _ (j : RegionJob) (i : ℕ) (s : Slot) (less : i < 1024) (at : s ≡ get_or j.region.now.slots.items i s) where
  pub slot_there : slice_get j.region.now.slots.items i ≡ Some s
  slot_there =
      let within : i < length j.region.now.slots.items = omega (arith, less, j.kept.slots) in
      slice_get_read j.region.now.slots.items (length j.region.now.slots.items) i s refl within at

  pub slot_of_job : (c : ChunkPos) → c ≡ chunk_at j.region.now.pos i → IsSlotOf (height_of j.world.now) (positions_of j.world.now) c s
  slot_of_job c is = subst (λ p. IsSlotOf (height_of j.world.now) (positions_of j.world.now) p s) (sym is) (j.kept.each i s slot_there)

  pub loaded_slot : (c : ChunkPos) (r : ChunkRest) → c ≡ chunk_at j.region.now.pos i → s ≡ Loaded r → IsSlotOf (height_of j.world.now) (positions_of j.world.now) c (Loaded r)
  loaded_slot c r is loaded = subst (IsSlotOf (height_of j.world.now) (positions_of j.world.now) c) loaded (slot_of_job c is)

  pub loaded_is : (c : ChunkPos) (r : ChunkRest) (b : List ℕ) → c ≡ chunk_at j.region.now.pos i → s ≡ Loaded r
      → b ≡ loaded_bytes j.world.now j.kinds.now j.lights.now j.elapsed c r → IsPayloadAt j i b
  loaded_is c r b is loaded same =
      let own : ChunkPos → Option Slot → Option (List ℕ) = slot_payload j.world.now j.kinds.now j.lights.now j.elapsed in
      record { within = less; is = ap Some same ∙ ap (λ p. own p (Some (Loaded r))) is ∙ ap (own (chunk_at j.region.now.pos i)) (ap Some (sym loaded) ∙ sym slot_there) }
