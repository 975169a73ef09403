-- The whole document, from its parts.
use Rattle.std.proofs.Common.{◌≡◌, ℕ, List, ◌++◌, map, ap, ◌∙◌}
use Rattle.std.specs.Prelude.{codes}
use Rattle.av_tags.specs.declared.tag.TagType.TheVariants as tag_type
use Rattle.av_tags.specs.Nbt.{Nbt, NamedTag, Document, list, items_of, members_of}
use Rattle.av_tags.specs.ByName.{with_tag}
use Rattle.av_tags.specs.View.{views, named_views}
use Rattle.av_rules.specs.declared.kinds.Kinds.{Kinds}
use Rattle.av_ticks.specs.Ticks.{entries}
use Rattle.av_document.specs.Layout.{compound_with, compounds, all_of, section_at, section_numbers, ticks_layout}
use Rattle.av_chunk.specs.Rest.{opened}
use Rattle.av_chunk.specs.Views.{cells_of, rest_of}
use Rattle.av_codec.specs.Writing.{written, states_of_kinds, sources_of, light_of}
use Rattle.av_codec.specs.WritingSteps.{first_sections, written_entry}
use Rattle.av_chunk.specs.declared.chunk.Chunk.{Chunk}
use Rattle.av_chunk.specs.declared.rest.ChunkRest.{ChunkRest}
use Rattle.av_chunk.specs.declared.light.ChunkLight.{ChunkLight}
use Rattle.av_codec.proofs.Written.{ticks-written, sections-written}

abbrev assembled : List ℕ → Nbt → Nbt → List NamedTag → Document
assembled name sections ticks tags = record { name = name; members = members_of (with_tag (codes "fluid_ticks") ticks (with_tag (codes "sections") sections tags)) }

-- what was placed one after the other
assembled-from : (name new_name : List ℕ) (s t sections ticks : Nbt) (none one two tags : List NamedTag) → new_name ≡ name → none ≡ tags → one ≡ with_tag (codes "sections") s none
    → two ≡ with_tag (codes "fluid_ticks") t one → s ≡ sections → t ≡ ticks
    → ◌≡◌ {A = Document} (record { name = new_name; members = members_of two }) (assembled name sections ticks tags)
assembled-from name new_name s t sections ticks none one two tags same_name same_tags first second same_sections same_ticks =
    let ones : one ≡ with_tag (codes "sections") sections tags =
    first ∙ ap (λ v. with_tag (codes "sections") v none) same_sections ∙ ap (with_tag (codes "sections") sections) same_tags in
    let twos : two ≡ with_tag (codes "fluid_ticks") ticks (with_tag (codes "sections") sections tags) =
    second ∙ ap (λ v. with_tag (codes "fluid_ticks") v one) same_ticks ∙ ap (with_tag (codes "fluid_ticks") ticks) ones in
    λ i. record { name = same_name i; members = members_of (twos i) }

pub document-written : (chunk : Chunk) (rest : ChunkRest) (kinds : Kinds) (light : ChunkLight) (elapsed : ℕ) (name : List ℕ) (s t : Nbt) (sections ticks : List Nbt) (none one two : List NamedTag)
    → name ≡ rest.name.items → none ≡ named_views rest.tags.items
    → one ≡ with_tag (codes "sections") s none → two ≡ with_tag (codes "fluid_ticks") t one
    → s ≡ list tag_type.Compound (items_of sections) → t ≡ list tag_type.Compound (items_of ticks)
    → sections ≡ first_sections chunk rest kinds light 256
    → ticks ≡ map compound_with (opened (views rest.foreign.items)) ++ map (written_entry chunk rest kinds elapsed) (entries chunk.ticks)
    → ◌≡◌ {A = Document} (record { name = name; members = members_of two }) (written chunk rest kinds light elapsed)
document-written chunk rest kinds light elapsed name s t sections ticks none one two same_name same_tags first second s_is t_is sections_are ticks_are =
    assembled-from rest.name.items name s t
    (compounds (all_of (section_at rest.pos rest.height (cells_of (states_of_kinds kinds) rest.height chunk) (rest_of rest) (light_of light rest.height)) section_numbers))
    (ticks_layout (sources_of kinds rest.height chunk) (rest_of rest).foreign (entries chunk.ticks) elapsed)
    none one two (named_views rest.tags.items) same_name same_tags first second
    (s_is ∙ sections-written chunk rest kinds light sections sections_are) (t_is ∙ ticks-written chunk rest kinds elapsed ticks ticks_are)
