-- Working definitions: the sections of a chunk, judged one after the other.
use Rattle.std.specs.Prelude.{ℤ, List, [], ◌∷◌, Option, Some, None, Bool, true, false, codes, ◌&&◌, ◌||◌}
use Rattle.std.specs.List.{list_any}
use Rattle.std.specs.Ordering.{int_eq}
use Rattle.av_types.specs.Positions.{is_section_of}
use Rattle.av_types.specs.declared.position.Height.{Height}
use Rattle.av_tags.specs.Nbt.{NamedTag}
use Rattle.av_tags.specs.ByName.{tag_of}
use Rattle.av_tags.specs.Shape.{compound_of}
use Rattle.av_document.specs.Chunk.{section_number, is_other}

-- after those with these numbers
abbrev pub is_bad_at : Height → List ℤ → List NamedTag → Option ℤ → Bool
is_bad_at h before ms None = true
is_bad_at h before ms (Some y) = list_any (int_eq y) before || (is_section_of h y && is_other compound_of (tag_of (codes "block_states") ms))

abbrev pub with_number : List ℤ → Option ℤ → List ℤ
with_number before None = before
with_number before (Some y) = y ∷ before

abbrev pub are_bad_sections : Height → List ℤ → List (List NamedTag) → Bool
are_bad_sections h before [] = false
are_bad_sections h before (ms ∷ rows) = is_bad_at h before ms (section_number ms) || are_bad_sections h (with_number before (section_number ms)) rows
