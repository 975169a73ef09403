use Rattle.std.proofs.Common.{tests, ◌∙◌, ◌≢◌, length, sym, ap, rules, map}
use Rattle.std.proofs.lemmas.List.{length-map}
use Rattle.av_edits.specs.Lines.{edit_of}
use Rattle.av_edits.proofs.Counted.{edit_of_other}
use Rattle.av_edits.proofs.words.line_edit.Goals as goal
use Rattle.av_edits.proofs.words.line_edit.Goals.{in_default-via-then-as_slice-lt5, in_default-via-else-as_slice-lt5+else-this-lt6}

pub returns-clause-ok : goal.returns-clause-ok
returns-clause-ok c =
    let n : length c.in_ok-parts.parts.items ≢ 5 = elim c.in_default.branch [ in_default-via-then-as_slice-lt5 w ↦ (λ e. let l = ap length c.as_slice.ensures.value in search (rules, tests, e, l)) | in_default-via-else-as_slice-lt5+else-this-lt6 w ↦ (λ e. let l = ap length c.as_slice.ensures.value in search (rules, tests, e, l)) ] in
    sym (ap edit_of (sym c.in_ok-parts.ensures) ∙ edit_of_other (map (λ x. x.now) c.in_ok-parts.parts.items) (λ e. n (sym (length-map c.in_ok-parts.parts.items (λ x. x.now)) ∙ e)))
