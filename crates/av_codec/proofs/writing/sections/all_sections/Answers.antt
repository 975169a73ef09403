use Rattle.std.proofs.Common.{rules, to_z, of_z, to_z-of_z, w8, FitsSigned, ◌≡◌, ◌++◌, sym, ap, ◌∙◌, map, option_map, Option, List}
use Rattle.av_tags.specs.Nbt.{Nbt, NamedTag}
use Rattle.av_document.specs.Layout.{compound_with, kept_section, all_of}
use Rattle.av_tags.specs.View.{views, named_views}
use Rattle.av_codec.specs.WritingSteps.{number_at, written_section, first_sections}
use Rattle.av_codec.proofs.Written.{first_numbers-none, more_sections}
use Rattle.av_codec.proofs.writing.sections.all_sections.Goals as goal

pub loop-index-init : goal.loop-index-init
loop-index-init c =
    ap views c.new-sections.ensures.items ∙ sym (ap (λ ys. map compound_with (all_of (written_section c.args.chunk.now c.args.rest.now c.args.kinds.now c.args.light.now) ys)) first_numbers-none)

pub loop-index-preserved : goal.loop-index-preserved
loop-index-preserved c =
    let fits : FitsSigned w8 c.number_at.result = search rules in
    let same_number : to_z w8 (of_z w8 c.number_at.result) ≡ c.number_at.result = to_z-of_z fits in
    let written = written_section c.args.chunk.now c.args.rest.now c.args.kinds.now c.args.light.now in
    let before = first_sections c.args.chunk.now c.args.rest.now c.args.kinds.now c.args.light.now c.loop-index.index in
    let found : Option (List NamedTag) = option_map (λ t. named_views t.items) c.in_ok-tags.tags in
    let here : found ≡ written (number_at c.loop-index.index) = c.in_ok-tags.ensures ∙ ap written (same_number ∙ c.number_at.ensures) in
    c.in_ok-push_section.ensures
    ∙ ap (λ (v : List Nbt). v ++ map compound_with (kept_section found)) c.loop-index.invariant
    ∙ ap (λ (o : Option (List NamedTag)). before ++ map compound_with (kept_section o)) here
    ∙ sym (more_sections written c.loop-index.index)
