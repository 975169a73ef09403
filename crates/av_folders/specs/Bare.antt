-- What is said of a folder without region files.
use Rattle.std.specs.Prelude.{ℕ, List, ◌++◌, Option, Some, None, codes}

-- that it has none, and the path of the folder in it that may have been meant, where there is one
abbrev pub bare_text : List ℕ → Option (List ℕ) → List ℕ
bare_text folder None = folder ++ codes " has no region files"
bare_text folder (Some inner) = folder ++ (codes " has no region files, but " ++ (inner ++ codes " is there"))
