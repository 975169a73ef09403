use Rattle.std.proofs.Common.{rules, ◌≡◌, Some, sym, ap, ◌∙◌, subst, IfSome, ◌<◌, ℕ, Option, to_z, of_z, to_z-of_z, w32, FitsSigned}
use Rattle.std.specs.Prelude.{slice_index_or, None}
use Rattle.av_types.specs.Division.{divided}
use Rattle.av_types.specs.Water.{is_source}
use Rattle.av_rules.specs.Kinds.{kind_count}
use Rattle.av_section.specs.Section.{number_at}
use Rattle.av_types.specs.Positions.{section_index}
use Rattle.av_chunk.specs.Views.{section_in, number_in}
use Rattle.av_codec.specs.Writing.{is_source_number}
use Rattle.av_codec.proofs.Written.{number_in-there}
use Rattle.av_codec.proofs.writing.ticks.is_source.Goals as goal

pub wet-requires : goal.wet-requires
wet-requires c =
    let fits : FitsSigned w32 c.section.result.y = search rules in
    let y : c.section.result.y ≡ divided c.args.pos.y 16 = ap (λ s. s.y) c.section.ensures in
    let wide : to_z w32 (of_z w32 c.section.result.y) ≡ c.section.result.y = to_z-of_z fits in
    let index : c.section_index-index.result ≡ section_index c.args.height (divided c.args.pos.y 16) = c.section_index-index.ensures.value ∙ ap (section_index c.args.height) (wide ∙ y) in
    let there : section_in c.args.height c.args.chunk.now (divided c.args.pos.y 16) ≡ Some c.in-Some.section.now =
    ap (λ n. slice_index_or c.args.chunk.now.sections.items n None) (sym index) ∙ sym c.in-Some.ensures in
    let number : number_in c.args.height c.args.chunk.now c.args.pos ≡ Some c.get.result =
    number_in-there c.args.height c.args.chunk.now c.args.pos c.in-Some.section.now there ∙ ap (λ i. Some (number_at c.in-Some.section.now i)) (sym c.place.ensures) ∙ ap Some (sym c.get.ensures) in
    let P : Option ℕ → Type 0 = λ o. IfSome o (λ n. n < kind_count c.args.kinds.now) in
    subst P number c.requires.below

pub returns-in-Some : goal.returns-in-Some
returns-in-Some c =
    let fits : FitsSigned w32 c.section.result.y = search rules in
    let y : c.section.result.y ≡ divided c.args.pos.y 16 = ap (λ s. s.y) c.section.ensures in
    let wide : to_z w32 (of_z w32 c.section.result.y) ≡ c.section.result.y = to_z-of_z fits in
    let index : c.section_index-index.result ≡ section_index c.args.height (divided c.args.pos.y 16) = c.section_index-index.ensures.value ∙ ap (section_index c.args.height) (wide ∙ y) in
    let there : section_in c.args.height c.args.chunk.now (divided c.args.pos.y 16) ≡ Some c.in-Some.section.now =
    ap (λ n. slice_index_or c.args.chunk.now.sections.items n None) (sym index) ∙ sym c.in-Some.ensures in
    let number : number_in c.args.height c.args.chunk.now c.args.pos ≡ Some c.get.result =
    number_in-there c.args.height c.args.chunk.now c.args.pos c.in-Some.section.now there ∙ ap (λ i. Some (number_at c.in-Some.section.now i)) (sym c.place.ensures) ∙ ap Some (sym c.get.ensures) in
    c.is_source.ensures ∙ ap is_source c.wet.ensures.value ∙ sym (ap (is_source_number c.args.kinds.now) number)
