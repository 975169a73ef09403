use Rattle.std.proofs.Common.{◌≡◌, ◌∙◌, All, get_or, None, Option, subst, sym, take}
use Rattle.std.proofs.lemmas.List.{take_more, take_all}
use Rattle.std.proofs.lemmas.List.Elements.{All-push}
use Rattle.av_section.specs.declared.section.Section.{Section}
use Rattle.av_world.proofs.lending.are_out.Goals as goal

abbrev IsOut : Option Section → Type 0
IsOut o = o ≡ None

pub loop-section-preserved : goal.loop-section-preserved
loop-section-preserved c =
    let xs = c.args.sections.now in
    let i = c.loop-section.section-index in
    let item = c.section-item in
    subst (All IsOut) (sym (take_more xs i item.result c.loop-section-test.true)) (All-push IsOut (take i xs) (get_or xs i item.result) c.loop-section.invariant (sym item.is ∙ c.is_out.ensures c.if-not-is_out.false))

pub returns : goal.returns
returns c = λ e. subst (All IsOut) (take_all c.loop-section.section-index c.args.sections.now c.loop-section-test.false) c.loop-section.invariant
