-- What would change in region files that are there, if others were written over them.
use Rattle.std.specs.Prelude.{◌≡◌, ℕ, ◌+◌, Bool, List, [], ◌∷◌, ◌++◌, ◌&&◌, Option, Some, None, codes, cond, length, nat_lt, unwrap_or, string_bytes, string_cmp, IsPermutation, IsSortedBy}
use Rattle.std.specs.Fmt.{decimal}
use Rattle.std.specs.Ordering.{is_lt}
use Rattle.av_region.specs.Region.{Holds, IsAbsent}
use Rattle.av_region_files.specs.Names.{region_name_of}
use Rattle.av_region_files.specs.declared.files.RegionFile.{RegionFile}
use Rattle.av_changes.specs.declared.change.Change.{Change}

-- two files have the same payload at an index, or no chunk there
pub data IsSameAt (old new : List ℕ) (index : ℕ) : Type 0 where
  neither : IsAbsent old index → IsAbsent new index → IsSameAt old new index
  both : (payload : List ℕ) → Holds old index payload → Holds new index payload → IsSameAt old new index

-- how many of the indices below one have other chunks: other payloads, or a chunk in one file alone, or one with a fault
pub data AreChangedBelow (old new : List ℕ) : ℕ → ℕ → Type 0 where
  start : AreChangedBelow old new 0 0
  same : (index n : ℕ) → AreChangedBelow old new index n → IsSameAt old new index → AreChangedBelow old new (index + 1) n
  other : (index n : ℕ) → AreChangedBelow old new index n → (IsSameAt old new index → ⊥) → AreChangedBelow old new (index + 1) (n + 1)

-- a file that ends within its header counts as one without chunks
abbrev pub ends_in_header : List ℕ → Bool
ends_in_header file = nat_lt 0 (length file) && nat_lt (length file) 8192

abbrev pub readable : List ℕ → List ℕ
readable file = cond (ends_in_header file) [] file

-- how many of a region's 1,024 indices have other chunks
abbrev pub IsChangeCount : List ℕ → List ℕ → ℕ → Type 0
IsChangeCount old new n = AreChangedBelow (readable old) (readable new) 1024 n

-- the change of a file, by the bytes of the one that is there, or none: none where these are its own
pub data IsChangeOf (file : RegionFile) (old : Option (List ℕ)) : Option Change → Type 0 where
  kept : old ≡ Some file.bytes.items → IsChangeOf file old None
  changed : (c : Change) → (old ≡ Some file.bytes.items → ⊥) → string_bytes c.name ≡ region_name_of file.pos
      → IsChangeCount (unwrap_or old []) file.bytes.items c.chunks → IsChangeOf file old (Some c)

abbrev pub listed : Option Change → List Change
listed None = []
listed (Some c) = c ∷ []

-- the changes of files, in their order, by the bytes of those that are there
pub data AreChangesOf : List RegionFile → List (Option (List ℕ)) → List Change → Type 0 where
  of_none : AreChangesOf [] [] []
  of_next : (files : List RegionFile) (olds : List (Option (List ℕ))) (changes : List Change) (file : RegionFile) (old : Option (List ℕ)) (change : Option Change)
      → AreChangesOf files olds changes → IsChangeOf file old change → AreChangesOf (files ++ file ∷ []) (olds ++ old ∷ []) (changes ++ listed change)

-- the same in the byte order of the files' names
pub record AreChangesByName (files : List RegionFile) (changes : List Change) : Type 0 where
  pub olds : List (Option (List ℕ))
  pub in_order_of_files : List Change
  pub changes_of : AreChangesOf files olds in_order_of_files
  pub same : IsPermutation in_order_of_files changes
  pub by_name : IsSortedBy (λ a b. is_lt (string_cmp a.name b.name)) changes

-- `r.X.Z.mca: N chunks VERB`, as `would change`, a line for each
abbrev pub change_line : List ℕ → Change → List ℕ
change_line verb c = string_bytes c.name ++ (codes ": " ++ (decimal c.chunks ++ (codes " chunks " ++ (verb ++ 10 ∷ []))))

abbrev pub change_lines : List ℕ → List Change → List ℕ
change_lines verb [] = []
change_lines verb (c ∷ cs) = change_line verb c ++ change_lines verb cs
