use Rattle.std.proofs.Common.{rules, ◌≡◌, sym, ◌∙◌, ap₂, string_bytes}
use Rattle.std.specs.Fmt.{signed_decimal}
use Rattle.std.proofs.lemmas.Option.{none-some, same_Some}
use Rattle.av_region_files.specs.Names.{name_with}
use Rattle.av_reports.proofs.Texts.{signed_no_dot}
use Rattle.av_reports.proofs.names.region_of_name.Goals as goal

pub returns-in_default-clause-other : goal.returns-in_default-clause-other
returns-in_default-clause-other c = λ region fits is.
    c.in_default.ensures _ _ (signed_no_dot region.x fits.0) (signed_no_dot region.z fits.1) is

pub returns-in_default-2-clause-other : goal.returns-in_default-2-clause-other
returns-in_default-2-clause-other c = λ region fits is.
    let parts = c.in-Some.ensures _ _ (signed_no_dot region.x fits.0) (signed_no_dot region.z fits.1) is in
    none-some region.z (sym c.in_default-2.is-1 ∙ c.number-2.ensures region.z fits.1 parts.1)

pub returns-in_default-2-2-clause-other : goal.returns-in_default-2-2-clause-other
returns-in_default-2-2-clause-other c = λ region fits is.
    let parts = c.in-Some.ensures _ _ (signed_no_dot region.x fits.0) (signed_no_dot region.z fits.1) is in
    none-some region.x (sym c.in_default-2.is-0 ∙ c.number.ensures region.x fits.0 parts.0)

pub returns-clause-other : goal.returns-clause-other
returns-clause-other c = λ region fits is.
    let parts = c.in-Some.ensures _ _ (signed_no_dot region.x fits.0) (signed_no_dot region.z fits.1) is in
    let x_is = same_Some _ _ (sym c.in-Some-Some.is-0 ∙ c.number.ensures region.x fits.0 parts.0) in
    let z_is = same_Some _ _ (sym c.in-Some-Some.is-1 ∙ c.number-2.ensures region.z fits.1 parts.1) in
    let printed : string_bytes c.in_ok-printed.printed ≡ name_with (signed_decimal c.in-Some-Some.x) (signed_decimal c.in-Some-Some.z) = search rules in
    let same = printed ∙ ap₂ (λ x z. name_with (signed_decimal x) (signed_decimal z)) x_is z_is ∙ sym is in
    search rules
