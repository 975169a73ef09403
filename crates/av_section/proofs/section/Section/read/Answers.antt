-- The longs fit, and the entries are numbered or refused.
use Rattle.std.proofs.Common.{◌∙◌, sym, subst, length}
use Rattle.std.proofs.lemmas.List.{length-map}
use Rattle.std.proofs.lemmas.Result.{err_from_is_err_and}
use Rattle.std.specs.Option.{option_copied}
use Rattle.std.specs.Prelude.{option_map}
use Rattle.av_tags.specs.View.{view, views}
use Rattle.av_tags.proofs.Each.{length-each}
use Rattle.av_state.specs.Table.{states}
use Rattle.av_section.specs.Palette.{state_in}
use Rattle.av_section.specs.Numbered.{AreOfPalette, AreNotOfPalette}
use Rattle.av_section.proofs.KnownRead.{palette_read, unnumbered_refused}
use Rattle.av_section.proofs.section.Section.read.Goals as goal

pub returns-in_err-numbers-clause-err : goal.returns-in_err-numbers-clause-err
returns-in_err-numbers-clause-err g c =
    let palette = option_map view (option_copied c.args.palette) in
    let longs = option_map view (option_copied c.args.longs) in
    let old = states (g.N.Numbering.table c.args.numbering.now) in
    let entries = c.in_ok-entries.entries.now in
    let same = c.in_ok-entries.ensures.ok in
    let e = c.in_err-numbers.field-0.0 in
    let p = err_from_is_err_and c.from_residual-in_err-numbers.result c.from_residual-in_err-numbers.ensures.1 in
    rw (p.1, p.2) (λ t. unnumbered_refused palette longs old c.in_ok-longs.longs.now (length entries) e
    (λ told h. length-each state_in (views entries) told (sym same ∙ h) ∙ length-map entries view) c.in_ok-longs.ensures.ok
    (subst (λ o. AreNotOfPalette o old e) (sym same) (c.in_err-numbers.ensures.err t)))

pub returns-clause-ok : goal.returns-clause-ok
returns-clause-ok g c =
    let palette = option_map view (option_copied c.args.palette) in
    let longs = option_map view (option_copied c.args.longs) in
    let old = states (g.N.Numbering.table c.args.numbering.now) in
    let new = states (g.N.Numbering.table c.number.new.self) in
    let numbers = c.in_ok-numbers.numbers.items in
    let all = subst (λ o. AreOfPalette old new o numbers) (sym c.in_ok-entries.ensures.ok) c.in_ok-numbers.ensures.ok in
    palette_read palette longs old new c.in_ok-longs.longs.now numbers c.in_ok-section.section all c.in_ok-longs.ensures.ok.longs_are c.in_ok-section.ensures.ok (g.N.Numbering.table c.number.new.self).numbered.bounded
