-- The jobs of a plan's parts have different numbers.
use Rattle.std.proofs.Common.{◌≡◌, ℕ, suc, ◌<◌, nat_eq, Bool, false, List, [], ◌∷◌, map, arith}
use Rattle.std.specs.List.{AllByRecursion, IsDistinct}
use Rattle.std.proofs.lemmas.Bool.{ne_eqb}
use Rattle.av_types.specs.declared.position.SectionPos.{SectionPos}
use Rattle.av_cells.specs.Grid.{Grid}
use Rattle.av_play.specs.declared.event.DueEntry.{DueEntry}
use Rattle.av_ring.specs.Numbers.{HaveDistinctNumbers}
use Rattle.av_crew.specs.declared.jobs.Job.{Job}
use Rattle.av_crew.specs.Jobs.{AreJobs}

module _ (g : Grid) (parts : List (List DueEntry)) (picks : ℕ → SectionPos → Bool) where
  others : (n a : ℕ) (js : List Job) → n < a → AreJobs g parts picks a js → AllByRecursion (λ m. nat_eq n m ≡ false) (map (λ j. j.number) js)
  others n a [] u h = tt
  others n a (j ∷ js) u h = (ne_eqb n j.number (λ e. let i = h.0.number in absurd (omega (arith, e, i, u))), others n (suc a) js (omega (arith, u)) h.1)

  pub jobs_differ : (a : ℕ) (js : List Job) → AreJobs g parts picks a js → HaveDistinctNumbers (λ j. j.number) js
  unfolding IsDistinct
  jobs_differ a [] h = tt
  jobs_differ a (j ∷ js) h = (others j.number (suc a) js (let i = h.0.number in omega (arith, i)) h.1, jobs_differ (suc a) js h.1)
