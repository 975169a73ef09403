use Rattle.std.proofs.Common.{◌≡◌, ◌∙◌, ap, sym, subst, refl, [], List, ℕ, None, Some, length, map, string_bytes}
use Rattle.std.proofs.lemmas.List.{length-map}
use Rattle.av_types.proofs.Exits.{on_err_from}
use Rattle.av_exchange.specs.Steps.{all_of, with_steps}
use Rattle.av_exchange.specs.Exchange.{repairing}
use Rattle.av_exchange.specs.Outcomes.{HasStopped, name_of, stopped}
use Rattle.av_exchange.proofs.History.{no_steps}
use Rattle.av_exchange.proofs.Marked.{all_as_marked, nothing_listed}
use Rattle.av_exchange.proofs.Stepwise.{told_journal, told_none}
use Rattle.av_exchange.proofs.repairing.finish_left.Goals as goal

pub returns-in_default-clause-ok : goal.returns-in_default-clause-ok
returns-in_default-clause-ok g c = record { journal = None; journaled = told_none _ _ c.in_default.is c.in_ok-text.ensures; steps = no_steps _; count = refl }

pub returns-in_err-finish-clause-err : goal.returns-in_err-finish-clause-err
returns-in_err-finish-clause-err g c =
    let names = map string_bytes c.in-Some-2.journal.names.items in
    let told = rw c.in-Some-2.is at c.in_ok-journal.ensures in
    let moved : map name_of c.as_slice-3.result.now ≡ names =
    ap (map name_of) c.as_slice-3.ensures.value ∙ (c.in_ok-moves.ensures ∙ ap (map string_bytes) c.as_slice.ensures.value) in
    on_err_from c.from_residual-in_err-finish.result
    (stopped (Some names) [] (told_journal _ _ c.in-Some.text _ names (map string_bytes c.in-Some-2.journal.marks.items) c.in-Some.is c.as_str.ensures.value told.0 told.1 c.in_ok-text.ensures) tt
    (subst (λ (ns : List (List ℕ)). HasStopped (repairing (Some ns) []) (g.F.Folder.history c.args.folder.now) (g.F.Folder.history c.finish.new.folder)) moved c.in_err-finish.ensures.err))

pub returns-clause-ok : goal.returns-clause-ok
returns-clause-ok g c =
    let names = map string_bytes c.in-Some-2.journal.names.items in
    let told = rw c.in-Some-2.is at c.in_ok-journal.ensures in
    let moved : map name_of c.as_slice-3.result.now ≡ names =
    ap (map name_of) c.as_slice-3.ensures.value ∙ (c.in_ok-moves.ensures ∙ ap (map string_bytes) c.as_slice.ensures.value) in
    record {
      journal = Some names;
      journaled = told_journal _ _ c.in-Some.text _ names (map string_bytes c.in-Some-2.journal.marks.items) c.in-Some.is c.as_str.ensures.value told.0 told.1 c.in_ok-text.ensures;
      steps = c.in_ok-finish.ensures.ok ∙ ap (λ (ns : List (List ℕ)). with_steps (g.F.Folder.history c.args.folder.now) (all_of (repairing (Some ns) []))) moved;
      count = ap Some (c.len.ensures ∙ (sym c.as_slice-3.ensures.len ∙ (sym (length-map c.as_slice-3.result.now name_of) ∙ ap length moved)));
    }

pub returns-in_default-clause-unwritten : goal.returns-in_default-clause-unwritten
returns-in_default-clause-unwritten g c = nothing_listed _ _ _ c.in_default.is c.in_ok-text.ensures

pub returns-clause-unwritten : goal.returns-clause-unwritten
returns-clause-unwritten g c =
    let told = rw c.in-Some-2.is at c.in_ok-journal.ensures in
    all_as_marked (g.F.Folder.mark_of c.args.folder.now) _ _ c.in-Some.text _ c.in-Some-2.journal.names.items c.in-Some-2.journal.marks.items c.in-Some.is c.as_str.ensures.value told.0 told.1
    c.in_ok-text.ensures _ c.in-Some-2.journal.names.ok.0 c.in_ok-check_marks.ensures
