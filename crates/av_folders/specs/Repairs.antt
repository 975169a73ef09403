-- What is said of a run of a folder that was cut off.
use Rattle.std.specs.Prelude.{ℕ, List, [], ◌∷◌, ◌++◌, codes}
use Rattle.std.specs.Fmt.{decimal}

-- so many files that it left behind are taken away
abbrev pub removed_text : List ℕ → ℕ → List ℕ
removed_text folder n = folder ++ (codes ": " ++ (decimal n ++ (codes " files that a run left behind when it was cut off are taken away" ++ 10 ∷ [])))
