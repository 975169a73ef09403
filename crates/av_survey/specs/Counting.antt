-- How many chunks files have, by their headers.
use Rattle.std.specs.Prelude.{◌≡◌, ℕ, ◌+◌, ◌-◌, ◌^◌, List, [], ◌∷◌, ◌++◌, min}
use Rattle.av_region.specs.Region.{IsAbsent, IsShort}
use Rattle.av_region_files.specs.declared.files.RegionFile.{RegionFile}

-- at how many of the indices below one a file has a chunk, with whatever fault
pub data AreChunksBelow (file : List ℕ) : ℕ → ℕ → Type 0 where
  start : AreChunksBelow file 0 0
  absent : (index n : ℕ) → AreChunksBelow file index n → IsAbsent file index → AreChunksBelow file (index + 1) n
  present : (index n : ℕ) → AreChunksBelow file index n → (IsAbsent file index → ⊥) → AreChunksBelow file (index + 1) (n + 1)

-- how many chunks a file has: none, where it ends within its header
pub data HasChunks (file : List ℕ) (n : ℕ) : Type 0 where
  short : IsShort file → n ≡ 0 → HasChunks file n
  whole : (IsShort file → ⊥) → AreChunksBelow file 1024 n → HasChunks file n

-- how many some files have together
pub data HaveChunks : List RegionFile → ℕ → Type 0 where
  of_none : HaveChunks [] 0
  of_next : (files : List RegionFile) (file : RegionFile) (n k : ℕ) → HaveChunks files n → HasChunks file.bytes.items k → HaveChunks (files ++ file ∷ []) (n + k)

-- that, or the most that 64 bits hold
abbrev pub IsChunkTotal : List RegionFile → ℕ → Type 0
IsChunkTotal files total = (n : ℕ) × HaveChunks files n × (total ≡ min n (2 ^ 64 - 1))
