-- The jobs of a tick, and what they leave.
use Rattle.std.specs.Prelude.{◌≡◌, ℕ, suc, ◌<◌, Bool, List, [], ◌∷◌, IsTrue}
use Rattle.av_types.specs.declared.position.SectionPos.{SectionPos}
use Rattle.av_types.specs.declared.tick.Made.{Made}
use Rattle.av_cells.specs.declared.kind.Kind.{Kind}
use Rattle.av_cells.specs.World.{World, Lists}
use Rattle.av_cells.specs.Grid.{Grid, cells_of, only}
use Rattle.av_play.specs.declared.event.DueEntry.{DueEntry}
use Rattle.av_play.specs.Parts.{part_at}
use Rattle.av_play.specs.Play.{world_after, made_after}
use Rattle.av_world.specs.OutOf.{mended}
use Rattle.av_world.specs.ParcelViews.{blocks}
use Rattle.av_crew.specs.declared.jobs.Job.{Job}

-- the job of the n-th part: its entries, and the picked sections as they were in g
pub record IsJob (g : Grid) (parts : List (List DueEntry)) (picks : ℕ → SectionPos → Bool) (n : ℕ) (job : Job) : Type 0 where
  pub number : job.number ≡ n
  pub entries : job.entries.items ≡ part_at parts n
  pub blocks_are : blocks job.parcel ≡ cells_of (only (picks n) g)

-- the jobs of the parts from the n-th on
abbrev pub AreJobs : Grid → List (List DueEntry) → (ℕ → SectionPos → Bool) → ℕ → List Job → Type 0
AreJobs g parts picks n [] = Unit {0}
AreJobs g parts picks n (j ∷ js) = IsJob g parts picks n j × AreJobs g parts picks (suc n) js

-- what a job's turns leave of its blocks, and what they make
abbrev pub world_of : (ℕ → Kind) → ℕ → Job → World
world_of k now j = world_after k now j.entries.items (blocks j.parcel)

abbrev pub made_of : (ℕ → Kind) → ℕ → Job → List Made
made_of k now j = made_after k now j.entries.items (blocks j.parcel)

-- parts of a world put over its own blocks, one after the other
abbrev pub mended_all : {X : Type 0} → (X → World) → Lists → List X → World → World
mended_all part l [] w = w
mended_all part l (x ∷ xs) w = mended_all part l xs (mended l (part x) w)

-- the sections of the first so many parts are out of a grid, and the others are there
pub record IsCarved (g : Grid) (picks : ℕ → SectionPos → Bool) (count : ℕ) (rest : Grid) : Type 0 where
  pub others : (s : SectionPos) → ((n : ℕ) → n < count → ¬ IsTrue (picks n s)) → rest s ≡ g s
