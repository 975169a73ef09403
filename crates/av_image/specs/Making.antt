-- Payloads that threads make, with their indices in their region. Working definitions: no public clause cites them.
use Rattle.std.specs.Prelude.{◌≡◌, ◌<◌, ℕ, List, Vec, Option, Some, slice_get}
use Rattle.std.specs.declared.alloc.Global.{Global}
use Rattle.av_types.specs.Positions.{chunk_at}
use Rattle.av_image.specs.declared.writing.job.RegionJob.{RegionJob}
use Rattle.av_image.specs.SavingSteps.{slot_payload, region_payloads}

-- what is written at an index of the region, and at each
abbrev pub job_payload : RegionJob → ℕ → Option (List ℕ)
job_payload j i = slot_payload j.world.now j.kinds.now j.lights.now j.elapsed (chunk_at j.region.now.pos i) (slice_get j.region.now.slots.items i)

abbrev pub job_payloads : RegionJob → List (Option (List ℕ))
job_payloads j = region_payloads j.world.now j.kinds.now j.lights.now j.elapsed j.region.now

-- that it is these bytes
pub record IsPayloadAt (j : RegionJob) (i : ℕ) (b : List ℕ) : Type 0 where
  pub within : i < 1024
  pub is : Some b ≡ job_payload j i

-- the same of what a thread made
abbrev pub IsMade : RegionJob → ℕ → Vec ℕ Global → Type 0
IsMade j i v = IsPayloadAt j i v.items
