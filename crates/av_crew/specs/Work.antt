-- What a worker makes of a job.
use Rattle.std.specs.Prelude.{◌≡◌, ◌<◌, ℕ, List, length, take, Some, None, IsTrue}
use Rattle.std.specs.List.{All}
use Rattle.av_types.specs.declared.fault.Fault.{Fault}
use Rattle.av_types.specs.declared.fault.Fault.TheVariants.{OutOfMemory}
use Rattle.av_types.specs.declared.tick.Made.{Made}
use Rattle.av_rules.specs.declared.kinds.Kinds.{Kinds}
use Rattle.av_rules.specs.Kinds.{kind_count}
use Rattle.av_cells.specs.declared.kind.Kind.{Kind}
use Rattle.av_cells.specs.Rule.{HasKinds}
use Rattle.av_cells.specs.World.{World, Lists, listed_all}
use Rattle.av_play.specs.declared.event.DueEntry.{DueEntry}
use Rattle.av_play.specs.Play.{world_after, made_after, entries_of}
use Rattle.av_world.specs.ParcelViews.{blocks, lists}
use Rattle.av_crew.specs.declared.jobs.Job.{Job}
use Rattle.av_crew.specs.declared.jobs.Done.{Done}

-- the first so many entries were turned one after the other, and what they made was put aside
pub record AreTurned (k : ℕ → Kind) (now count : ℕ) (entries : List DueEntry) (old new : World) (old_lists new_lists : Lists) (made : List Made) : Type 0 where
  pub world : new ≡ world_after k now (take count entries) old
  pub put_aside : made ≡ made_after k now (take count entries) old
  pub listed : new_lists ≡ listed_all old_lists (entries_of made)

-- some first entries were turned, and not all
pub record AreBegun (k : ℕ → Kind) (now : ℕ) (entries : List DueEntry) (old new : World) (old_lists new_lists : Lists) (made : List Made) : Type 0 where
  pub count : ℕ
  pub fewer : count < length entries
  pub turned : AreTurned k now count entries old new old_lists new_lists made

-- the job's blocks are of kinds that are known, and its entries are of loaded blocks
pub record CanWork (kinds : Kinds) (job : Job) : Type 0 where
  pub known : HasKinds (kind_count kinds) (blocks job.parcel)
  pub loaded : All (λ x. IsTrue ((blocks job.parcel).loaded x.entry.pos)) job.entries.items

-- all entries of the job were turned
abbrev pub IsWorkedOff : (ℕ → Kind) → ℕ → Job → Done → Type 0
IsWorkedOff k now job done = AreTurned k now (length job.entries.items) job.entries.items (blocks job.parcel) (blocks done.parcel) (lists job.parcel) (lists done.parcel) done.made.items

-- some first entries of the job were turned, and not all
abbrev pub IsBegun : (ℕ → Kind) → ℕ → Job → Done → Type 0
IsBegun k now job done = AreBegun k now job.entries.items (blocks job.parcel) (blocks done.parcel) (lists job.parcel) (lists done.parcel) done.made.items

-- done is what a worker answers for the job: all entries were turned, or some first ones and memory was refused
pub record IsDoneOf (k : ℕ → Kind) (now : ℕ) (job : Job) (done : Done) : Type 0 where
  pub number : done.number ≡ job.number
  pub whole : done.fault ≡ None → IsWorkedOff k now job done
  pub begun : (f : Fault) → done.fault ≡ Some f → (f ≡ OutOfMemory) × IsBegun k now job done
