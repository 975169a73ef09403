-- Tags by name, and what stands where a tag was taken out.
use Rattle.std.specs.Prelude.{◌≡◌, ℕ, List, [], ◌∷◌, Option, Some, None, if◌then◌else◌, option_map, suc, pos}
use Rattle.std.specs.Str.{bytes_eq}
use Rattle.av_tags.specs.Nbt.{Nbt, byte, NamedTag}

-- the tag of a name
abbrev pub tag_of : List ℕ → List NamedTag → Option Nbt
tag_of n [] = None
tag_of n (m ∷ ms) = if bytes_eq n m.name then Some m.tag else tag_of n ms

-- a tag put where one of its name stood, or last where there was none
abbrev pub with_tag : List ℕ → Nbt → List NamedTag → List NamedTag
with_tag n t [] = record { name = n; tag = t } ∷ []
with_tag n t (m ∷ ms) = if bytes_eq n m.name then record { name = n; tag = t } ∷ ms else m ∷ with_tag n t ms

-- the tags after a named tag was put among them
abbrev pub IsWithTag : NamedTag → List NamedTag → List NamedTag → Type 0
IsWithTag m old new = new ≡ with_tag m.name m.tag old

-- the tags of other names
abbrev pub without : List ℕ → List NamedTag → List NamedTag
without n [] = []
without n (m ∷ ms) = if bytes_eq n m.name then without n ms else m ∷ without n ms

-- what stands where a tag was taken out, and means nothing
abbrev pub blank : Nbt
blank = byte (pos 0)

abbrev pub emptied : List ℕ → List NamedTag → List NamedTag
emptied n ms = with_tag n blank ms

-- where the first tag of a name stands
abbrev pub index_of_name : List ℕ → List NamedTag → Option ℕ
index_of_name n [] = None
index_of_name n (m ∷ ms) = if bytes_eq n m.name then Some 0 else option_map suc (index_of_name n ms)
