-- What a chunk keeps beside its cells, its entries and its light, from where it lies in memory.
use Rattle.std.specs.Prelude.{ℕ, ℤ, List, [], ◌∷◌, map, Option, Some, None, codes, slice_index_or, if◌then◌else◌}
use Rattle.std.specs.Ordering.{int_eq}
use Rattle.av_types.specs.Positions.{is_section_of, section_index}
use Rattle.av_types.specs.declared.position.Height.{Height}
use Rattle.av_tags.specs.Nbt.{Nbt, byte, NamedTag}
use Rattle.av_tags.specs.Shape.{compound_of, or_else}
use Rattle.av_tags.specs.View.{views, named_views}
use Rattle.av_tags.specs.declared.tag.Tag.{Tag}
use Rattle.av_tags.specs.declared.tag.Named.{Named}
use Rattle.av_document.specs.Chunk.{SectionRest, RestOfChunk, section_rest}
use Rattle.av_chunk.specs.declared.rest.SectionTags.{SectionTags}
use Rattle.av_chunk.specs.declared.rest.OutsideSection.{OutsideSection}

-- the tags of Compounds
abbrev pub opened : List Nbt → List (List NamedTag)
opened ts = map (λ t. or_else [] (compound_of t)) ts

abbrev pub tags_of : SectionTags → SectionRest
tags_of s = record { tags = named_views s.tags.items; states = named_views s.states.items }

-- the rest of a section that is missing
abbrev pub missing : ℤ → SectionRest
missing y = section_rest (record { name = codes "Y"; tag = byte y } ∷ [])

abbrev pub section_or_missing : ℤ → Option SectionTags → SectionRest
section_or_missing y None = missing y
section_or_missing y (Some s) = tags_of s

-- the first section out of the height with that number
abbrev pub found_outside : ℤ → List OutsideSection → Option (List NamedTag)
found_outside y [] = None
found_outside y (o ∷ os) = if int_eq y o.y then Some (named_views o.tags.items) else found_outside y os

-- a rest, from its name, its tags, its foreign entries, and the sections in the height and out of it
abbrev pub rest_with : Height → List ℕ → List Named → List Tag → List (Option SectionTags) → List OutsideSection → RestOfChunk
rest_with h name tags foreign sections outside = record {
  name = name;
  tags = named_views tags;
  foreign = opened (views foreign);
  outside = λ y. if is_section_of h y then None else found_outside y outside;
  section = λ y. section_or_missing y (slice_index_or sections (section_index h y) None);
}
