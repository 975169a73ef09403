use Rattle.std.proofs.Common.{rules, to_z, of_z, to_z-of_z, w8, w32, FitsSigned, ◌≡◌, Some, IfOk, List, sym, ap, ◌∙◌, subst}
use Rattle.std.specs.Prelude.{slice_index_or, None}
use Rattle.av_tags.specs.Nbt.{NamedTag}
use Rattle.av_tags.specs.View.{named_views}
use Rattle.av_state.specs.Table.{states}
use Rattle.av_section.specs.Section.{section_states}
use Rattle.av_types.specs.Positions.{section_index}
use Rattle.av_chunk.specs.Rest.{tags_of, section_or_missing}
use Rattle.av_chunk.specs.Views.{section_in}
use Rattle.av_chunk.specs.Light.{light_section}
use Rattle.av_codec.specs.Writing.{states_of_kinds}
use Rattle.av_codec.specs.WritingSteps.{section_with}
use Rattle.av_codec.proofs.Written.{numbers-of_section, inside_layout-is}
use Rattle.av_codec.proofs.writing.sections.inside_section.Goals as goal

pub section_tags-requires : goal.section_tags-requires
section_tags-requires c =
    let fits : FitsSigned w8 c.args.y = search rules in
    let wide_fits : FitsSigned w32 c.from.result = search rules in
    let same : c.from.result ≡ c.args.y = search rules in
    let same_wide : to_z w32 (of_z w32 c.from.result) ≡ c.from.result = to_z-of_z wide_fits in
    let same_number : to_z w8 (of_z w8 c.args.y) ≡ c.args.y = to_z-of_z fits in
    let index : c.section_index-index.result ≡ section_index c.args.rest.now.height c.args.y = c.section_index-index.ensures.value ∙ ap (section_index c.args.rest.now.height) same_wide ∙ ap (section_index c.args.rest.now.height) same in
    let there : section_in c.args.rest.now.height c.args.chunk.now c.args.y ≡ Some c.in-Some.section.now =
    ap (λ n. slice_index_or c.args.chunk.now.sections.items n None) (sym index) ∙ sym c.in-Some.ensures in
    rw c.table.ensures (numbers-of_section (states_of_kinds c.args.kinds.now) c.args.rest.now.pos c.args.rest.now.height c.args.chunk.now c.args.y c.in-Some.section.now c.requires.inside there c.requires.can.numbered)

pub returns : goal.returns
returns c =
    let fits : FitsSigned w8 c.args.y = search rules in
    let wide_fits : FitsSigned w32 c.from.result = search rules in
    let same : c.from.result ≡ c.args.y = search rules in
    let same_wide : to_z w32 (of_z w32 c.from.result) ≡ c.from.result = to_z-of_z wide_fits in
    let same_number : to_z w8 (of_z w8 c.args.y) ≡ c.args.y = to_z-of_z fits in
    let index : c.section_index-index.result ≡ section_index c.args.rest.now.height c.args.y = c.section_index-index.ensures.value ∙ ap (section_index c.args.rest.now.height) same_wide ∙ ap (section_index c.args.rest.now.height) same in
    let there : section_in c.args.rest.now.height c.args.chunk.now c.args.y ≡ Some c.in-Some.section.now =
    ap (λ n. slice_index_or c.args.chunk.now.sections.items n None) (sym index) ∙ sym c.in-Some.ensures in
    let kept : tags_of c.in_ok-kept.kept ≡ section_or_missing c.args.y (slice_index_or c.args.rest.now.sections.items c.section_index-index.result None) =
    c.in_ok-kept.ensures ∙ ap (section_or_missing (to_z w8 (of_z w8 c.args.y))) c.kept_at.ensures ∙ ap (λ y. section_or_missing y (slice_index_or c.args.rest.now.sections.items c.section_index-index.result None)) same_number in
    let kept_here = kept ∙ ap (λ n. section_or_missing c.args.y (slice_index_or c.args.rest.now.sections.items n None)) index in
    let bytes = c.section.ensures.value ∙ ap (light_section c.args.light.now) index in
    let same = ap (λ t. section_with (tags_of c.in_ok-kept.kept) (section_states (states t) c.in-Some.section.now) c.section.result.now) c.table.ensures
    ∙ inside_layout-is c.args.chunk.now c.args.rest.now c.args.kinds.now c.args.light.now c.args.y c.in-Some.section.now (tags_of c.in_ok-kept.kept) c.section.result.now there kept_here bytes in
    let P : List NamedTag → Type 0 = λ v. IfOk c.section_tags.result (λ tags. named_views tags.items ≡ v) in
    subst P same c.section_tags.ensures
