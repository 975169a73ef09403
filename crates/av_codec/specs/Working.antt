-- Working definitions, shaped like the code. No public clause cites them.
use Rattle.std.specs.Int.{w8}
use Rattle.std.specs.Int.RustNames.{FitsSigned}
use Rattle.std.specs.Prelude.{◌≡◌, get_or, length, ℕ, ◌+◌, ◌-◌, ℤ, pos, negsuc, List, [], ◌∷◌, Option, Some, None, Bool, true, false, not, codes, ◌&&◌, ◌||◌, if◌then◌else◌, Result, Ok, Err}
use Rattle.std.specs.List.{list_any}
use Rattle.std.specs.Ordering.{int_eq}
use Rattle.av_types.specs.Positions.{is_section_of}
use Rattle.av_types.specs.declared.position.ChunkPos.{ChunkPos}
use Rattle.av_types.specs.declared.position.Height.{Height}
use Rattle.av_types.specs.declared.fault.Fault.{Fault}
use Rattle.av_types.specs.declared.fault.Fault.TheVariants.{OldLayout, BadChunk, WrongPlace}
use Rattle.av_tags.specs.Nbt.{Nbt, NamedTag}
use Rattle.av_tags.specs.ByName.{tag_of}
use Rattle.av_types.specs.Options.{◌>>=◌}
use Rattle.av_tags.specs.Shape.{text_of, byte_of, compound_of, compounds_of, items_of_list, lacks, or_else}
use Rattle.av_document.specs.Chunk.{section_number, is_other, has_level, status_of, is_full, is_bad_chunk, is_elsewhere}
use Rattle.av_document.specs.Working.{with_number}

abbrev pub text_at : List ℕ → List NamedTag → Option (List ℕ)
text_at n ms = tag_of n ms >>= text_of

abbrev pub byte_at : List ℕ → List NamedTag → Option ℤ
byte_at n ms = tag_of n ms >>= byte_of

abbrev pub compound_in : Option Nbt → Option (List NamedTag)
compound_in o = o >>= compound_of

-- the tags of a Compound
abbrev pub tags_in : Nbt → List NamedTag
tags_in t = or_else [] (compound_of t)

abbrev pub items_at : List ℕ → List NamedTag → Option (List Nbt)
items_at n ms = tag_of n ms >>= items_of_list

-- the number of a section, where that and its `block_states` are of the right kind
abbrev pub good_number : Height → List NamedTag → Option ℤ → Option ℤ
good_number h ms None = None
good_number h ms (Some y) = if is_section_of h y && is_other compound_of (tag_of (codes "block_states") ms) then None else Some y

abbrev pub checked_number : Height → Option (List NamedTag) → Option ℤ
checked_number h None = None
checked_number h (Some ms) = good_number h ms (section_number ms)

-- whether a number is refused after those before it
abbrev pub is_refused : List ℤ → Option ℤ → Bool
is_refused before None = true
is_refused before (Some y) = list_any (int_eq y) before

abbrev pub are_bad_items : Height → List ℤ → List Nbt → Bool
are_bad_items h before [] = false
are_bad_items h before (t ∷ ts) = is_refused before (checked_number h (compound_of t)) || are_bad_items h (with_number before (checked_number h (compound_of t))) ts

-- where a number is noted
abbrev pub flag_of : ℤ → ℕ
flag_of (pos n) = 128 + n
flag_of (negsuc n) = 127 - n

-- one of them is no Compound
abbrev pub has_other : List Nbt → Bool
has_other [] = false
has_other (t ∷ ts) = lacks (compound_of t) || has_other ts

-- what is judged before a chunk is taken apart
abbrev pub admitted : Height → ChunkPos → List NamedTag → Result Bool Fault
admitted h c root =
    if has_level root then Err OldLayout
    else if lacks (status_of root) then Err BadChunk
    else if not (is_full root) then Ok false
    else if is_bad_chunk h root then Err BadChunk
    else if is_elsewhere c root then Err WrongPlace
    else Ok true

-- the flags say which numbers came before
pub record Noted (before : List ℤ) (flags : List Bool) : Type 0 where
  pub count : length flags ≡ 256
  pub each_flag : (y : ℤ) → FitsSigned w8 y → get_or flags (flag_of y) false ≡ list_any (int_eq y) before

-- a section without a good number among them
abbrev pub has_bad_number : Height → List Nbt → Bool
has_bad_number h [] = false
has_bad_number h (t ∷ ts) = lacks (checked_number h (compound_of t)) || has_bad_number h ts

-- the tags of a List, and of the Compounds in it
abbrev pub list_items : Option Nbt → List Nbt
list_items o = or_else [] (o >>= items_of_list)

abbrev pub list_rows : Option Nbt → List (List NamedTag)
list_rows o = or_else [] (o >>= compounds_of)
