use Rattle.std.proofs.Common.{rules, to_z, of_z, to_z-of_z, w8, w32, FitsSigned, ◌≡◌, Some, Option, IfOk, List, true, false, sym, ap, ◌∙◌, subst, option_map}
use Rattle.av_types.specs.Positions.{is_section_of}
use Rattle.av_tags.specs.Nbt.{NamedTag}
use Rattle.av_tags.specs.View.{named_views}
use Rattle.av_chunk.specs.Rest.{found_outside}
use Rattle.av_codec.specs.WritingSteps.{inside_layout}
use Rattle.av_chunk.proofs.Heights.{section_test}
use Rattle.av_codec.proofs.Written.{written_section-inside, written_section-outside}
use Rattle.av_codec.proofs.writing.sections.section_of.Goals as goal

pub returns-in_ok-tags : goal.returns-in_ok-tags
returns-in_ok-tags c =
    let fits : FitsSigned w32 c.from.result = search rules in
    let byte_fits : FitsSigned w8 c.args.y = search rules in
    let same : c.from.result ≡ c.args.y = search rules in
    let same_number : to_z w8 (of_z w8 c.args.y) ≡ c.args.y = to_z-of_z byte_fits in
    let test = simp to_z-of_z at (section_test c.args.rest.now.height _ c.has_section.result c.has_section.ensures) in
    let inside : is_section_of c.args.rest.now.height c.args.y ≡ true = ap (is_section_of c.args.rest.now.height) (sym same) ∙ sym test ∙ c.if-has_section.true in
    ap Some (c.in_ok-tags.ensures ∙ ap (inside_layout c.args.chunk.now c.args.rest.now c.args.kinds.now c.args.light.now) same_number)
    ∙ sym (written_section-inside c.args.chunk.now c.args.rest.now c.args.kinds.now c.args.light.now c.args.y inside)

pub returns-else-has_section : goal.returns-else-has_section
returns-else-has_section c =
    let fits : FitsSigned w32 c.from.result = search rules in
    let byte_fits : FitsSigned w8 c.args.y = search rules in
    let same : c.from.result ≡ c.args.y = search rules in
    let same_number : to_z w8 (of_z w8 c.args.y) ≡ c.args.y = to_z-of_z byte_fits in
    let test = simp to_z-of_z at (section_test c.args.rest.now.height _ c.has_section.result c.has_section.ensures) in
    let outside : is_section_of c.args.rest.now.height c.args.y ≡ false = ap (is_section_of c.args.rest.now.height) (sym same) ∙ sym test ∙ c.if-has_section.false in
    let P : Option (List NamedTag) → Type 0 = λ v. IfOk c.outside_section.result (λ found. option_map (λ tags. named_views tags.items) found ≡ v) in
    let found = ap (λ os. found_outside (to_z w8 (of_z w8 c.args.y)) os) c.as_slice.ensures.value
    ∙ ap (λ y. found_outside y c.args.rest.now.outside.items) same_number
    ∙ sym (written_section-outside c.args.chunk.now c.args.rest.now c.args.kinds.now c.args.light.now c.args.y outside) in
    subst P found c.outside_section.ensures
