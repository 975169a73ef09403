-- The lines that are printed.
use Rattle.std.specs.Prelude.{◌≡◌, List, ℕ, Bool, true, false, cond, Option, ◌++◌, [], ◌∷◌, codes}
use Rattle.std.specs.Fmt.{decimal}
use Rattle.std.specs.Io.KnownBytes.{Appends}
use Rattle.av_types.specs.Faults.{fault_text}
use Rattle.av_types.specs.declared.fault.Fault.{Fault}
use Rattle.av_types.specs.declared.fault.Fault.TheVariants.{Compression}

abbrev pub line : List ℕ → List ℕ
line text = text ++ 10 ∷ []

-- a line for each of a list, in its order
abbrev pub lines_of : {X : Type 0} → (X → List ℕ) → List X → List ℕ
lines_of text [] = []
lines_of text (x ∷ xs) = line (text x) ++ lines_of text xs

-- the fault of a chunk of another compression than the program reads
abbrev pub is_compression : Fault → Bool
is_compression (Compression kind) = true
is_compression e = false

-- how such files are made readable: a line that two spaces begin
abbrev pub packed_advice : List ℕ
packed_advice = line (codes "  scripts/worlds.py plain IN OUT makes such files readable; anvilwater-world WORLD does the whole way")

-- how to go on after a fault, where its line does not say it
abbrev pub advice : Fault → List ℕ
advice e = cond (is_compression e) packed_advice []

-- what is said of a fault: its line first
abbrev pub fault_lines : Fault → List ℕ
fault_lines e = line (fault_text e) ++ advice e

-- how many chunks with a fault, and files cut short, a command leaves out
abbrev pub left_out_text : ℕ → List ℕ
left_out_text n = decimal n ++ codes " chunks or files have a fault and are left out: `anvilwater check --in DIR` lists them"

-- what was written of a text where a write was refused: its first bytes, perhaps none
pub record HasBegun (before after : Option (List ℕ)) (text : List ℕ) : Type 0 where
  pub first : List ℕ
  pub rest : List ℕ
  pub parts : text ≡ first ++ rest
  pub written : Appends before after first
