use Rattle.std.proofs.Common.{◌≡◌, ◌∙◌, Option, get_or, true, ap, subst, sym}
use Rattle.av_section.specs.declared.section.Section.{Section}
use Rattle.av_map.specs.Sections.{air_look, section_look}
use Rattle.av_map.proofs.columns.is_all_air.Goals as goal

pub returns-in-Some : goal.returns-in-Some
returns-in-Some c =
    λ air place low. subst (λ (o : Option Section). (section_look c.args.looks.now o place).is_air ≡ true) (sym c.in-Some.is)
    (ap (λ n. (get_or c.args.looks.now n air_look).is_air) (c.parts.ensures.numbers place low) ∙ c.are_air.ensures air _ (c.parts.ensures.packed.below place low))
