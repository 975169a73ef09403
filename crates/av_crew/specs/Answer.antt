-- Jobs that were answered.
use Rattle.std.specs.Prelude.{ℕ, List}
use Rattle.std.specs.List.{AllZip}
use Rattle.std.specs.List.Sorted.{IsPermutation}
use Rattle.av_cells.specs.declared.kind.Kind.{Kind}
use Rattle.av_crew.specs.declared.jobs.Job.{Job}
use Rattle.av_crew.specs.declared.jobs.Done.{Done}
use Rattle.av_crew.specs.Work.{IsDoneOf}

-- the answers are those of the jobs, each once, in some order
pub record AnswersAll (k : ℕ → Kind) (now : ℕ) (jobs : List Job) (dones : List Done) : Type 0 where
  pub order : List Job
  pub permuted : IsPermutation jobs order
  pub answered : AllZip (IsDoneOf k now) order dones
