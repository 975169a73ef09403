-- What a run begins with, and how many states have no row. A working definition: no public clause cites it.
use Rattle.std.specs.Prelude.{ℕ, List}
use Rattle.av_files.specs.Files.{File}
use Rattle.av_answers.specs.Checked.{HasUncovered}
use Rattle.av_run.specs.Input.{IsInput}
use Rattle.av_run.specs.declared.checked.CountedInput.{CountedInput}

pub record IsCountedInput (files : List File) (table edits : List ℕ) (n : ℕ) (c : CountedInput) : Type 0 where
  pub read : IsInput files table edits n c.input
  pub uncovered : HasUncovered files table c.without_row
