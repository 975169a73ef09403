-- A run that is stopped and resumed.
use Rattle.std.specs.Prelude.{◌≡◌, ℕ, ◌+◌, List}
use Rattle.av_land.specs.Resumed.{early, late}
use Rattle.av_edits.specs.Edits.{edits_of}
use Rattle.av_files.specs.Files.{File}
use Rattle.av_files.specs.Headline.{Headline}

-- A text of edits is split at tick n: one text has those of ticks 1 to n, and another those after, n ticks sooner.
pub record AreEditsSplit (text first then : List ℕ) (n : ℕ) : Type 0 where
  pub before : edits_of first ≡ early n (edits_of text)
  pub behind : edits_of then ≡ late n (edits_of text)

-- n ticks, m ticks on the files that were written then, and all ticks in one run, each with a number of workers
pub record AreThreeRuns (files mid last whole : List File) (table text first then : List ℕ) (n m i j k : ℕ) (c d e x y z : ℕ) : Type 0 where
  pub split : AreEditsSplit text first then n
  pub stopped : Headline files table first n i mid c x
  pub resumed : Headline mid table then m j last d y
  pub all : Headline files table text (m + n) k whole e z

-- the same files, as many turns in all, and as many chunks
pub record SameOutcome (last whole : List File) (c d e y z : ℕ) : Type 0 where
  pub files : last ≡ whole
  pub turns : e ≡ c + d
  pub chunks : y ≡ z

abbrev pub RunsResume : Type 0
RunsResume = (files mid last whole : List File) (table text first then : List ℕ) (n m i j k : ℕ) (c d e x y z : ℕ)
    → AreThreeRuns files mid last whole table text first then n m i j k c d e x y z → SameOutcome last whole c d e y z
