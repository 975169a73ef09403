-- What a run answers is one.
use Rattle.std.specs.Prelude.{◌≡◌, ℕ, List}
use Rattle.av_types.specs.declared.fault.Fault.{Fault}
use Rattle.av_files.specs.Files.{File}
use Rattle.av_files.specs.Headline.{Headline, IsRunRefused}

-- the same files, turns and chunks
pub record SameAnswer (out other : List File) (c d x y : ℕ) : Type 0 where
  pub files : out ≡ other
  pub turns : c ≡ d
  pub chunks : x ≡ y

-- with k workers and with j
abbrev pub OneAnswer : Type 0
OneAnswer = (files : List File) (table edits : List ℕ) (n k j : ℕ) (out other : List File) (c d x y : ℕ)
    → Headline files table edits n k out c x → Headline files table edits n j other d y → SameAnswer out other c d x y

abbrev pub OneRefusal : Type 0
OneRefusal = (files : List File) (table edits : List ℕ) (n k : ℕ) (e f : Fault) → IsRunRefused files table edits n k e → IsRunRefused files table edits n k f → e ≡ f

abbrev pub AnswerOrRefusal : Type 0
AnswerOrRefusal = (files : List File) (table edits : List ℕ) (n k : ℕ) (out : List File) (c x : ℕ) (e : Fault) → Headline files table edits n k out c x → ¬ IsRunRefused files table edits n k e
