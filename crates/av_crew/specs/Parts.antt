-- Parts of a tick with their sections, as they are carved. Of public clauses those of `carve_all`, `mend_all` and `turn_parts` alone cite them.
use Rattle.std.specs.Prelude.{◌≡◌, ℕ, List, [], Bool, false, IsTrue, ◌↔◌, All}
use Rattle.std.specs.List.{AllPairs}
use Rattle.av_types.specs.Positions.{section_of}
use Rattle.av_types.specs.declared.position.Pos.{Pos}
use Rattle.av_types.specs.declared.position.SectionPos.{SectionPos}
use Rattle.av_types.specs.declared.tick.Entry.{Entry}
use Rattle.av_cells.specs.Positions.{same_section}
use Rattle.av_cells.specs.World as cells
use Rattle.av_cells.specs.Grid.{Grid, cells_of, among, only, without, is_here}
use Rattle.av_play.specs.Parts.{IsPlan, part_at}
use Rattle.av_play.specs.Laws.{IsOfPart}
use Rattle.av_world.specs.OutOf.{IsPartOf}
use Rattle.av_world.specs.Views.{grid, lists}
use Rattle.av_world.specs.ParcelViews.{kept_grid, aside, blocks as parcel_blocks, lists as parcel_lists}
use Rattle.av_world.specs.declared.worlds.World.{World}
use Rattle.av_world.specs.declared.parcels.Parcel.{Parcel}
use Rattle.av_cluster.specs.Clusters.{parts_of, sections_of, sections_at}
use Rattle.av_cluster.specs.declared.cluster_part.Cluster.{Cluster}
use Rattle.av_crew.specs.declared.jobs.Job.{Job}

-- whether a section is of the n-th part
abbrev pub picks_of : List Cluster → ℕ → SectionPos → Bool
picks_of cs n = among (sections_at (sections_of cs) n)

-- the plan of entries, each part with the sections of its territories, each once
pub record IsCut (g : Grid) (entries : List Entry) (clusters : List Cluster) : Type 0 where
  pub plan : IsPlan (cells_of g) entries (parts_of clusters)
  pub exact : (n : ℕ) (s : SectionPos) → IsTrue (picks_of clusters n s) ↔ IsOfPart (cells_of g) (part_at (parts_of clusters) n) s
  pub distinct : (n : ℕ) → AllPairs (λ s t. same_section t s ≡ false) (sections_at (sections_of clusters) n)

-- its sections are there, each once
pub record CanCarve (g : Grid) (cluster : Cluster) : Type 0 where
  pub here : All (λ s. IsTrue (is_here (g s))) cluster.sections.items
  pub distinct : AllPairs (λ s t. same_section t s ≡ false) cluster.sections.items

-- the blocks of the sections of no part are as they were
pub record AreOthersKept (picks : ℕ → SectionPos → Bool) (old new : cells.World) : Type 0 where
  pub same : (p : Pos) → ((n : ℕ) → ¬ IsTrue (picks n (section_of p))) → (new.loaded p ≡ old.loaded p) × (new.number p ≡ old.number p) × (new.pending p ≡ old.pending p)

-- a part of a world
abbrev pub IsPartIn : World → Parcel → Type 0
IsPartIn w p = IsPartOf w.height w.positions.items (lists w) (parcel_blocks p) (parcel_lists p)

abbrev pub HaveParts : World → List Job → Type 0
HaveParts w jobs = All (λ j. IsPartIn w j.parcel) jobs

-- the job of a part whose sections were carved
pub record CarvesOne (old new : World) (cluster : Cluster) (number : ℕ) (job : Job) : Type 0 where
  pub number_is : job.number ≡ number
  pub entries_are : job.entries.items ≡ cluster.entries.items
  pub out : kept_grid job.parcel ≡ only (among cluster.sections.items) (grid old)
  pub nothing_aside : aside job.parcel ≡ []
  pub part : IsPartIn new job.parcel
  pub left : grid new ≡ without (among cluster.sections.items) (grid old)
