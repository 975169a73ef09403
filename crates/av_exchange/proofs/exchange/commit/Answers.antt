use Rattle.std.proofs.Common.{◌≡◌, ◌∙◌, ap, subst, ℕ, List, map, string_bytes}
use Rattle.av_types.proofs.Exits.{err_from}
use Rattle.av_exchange.specs.Names.{journal_of}
use Rattle.av_exchange.specs.Exchange.{AreStaged}
use Rattle.av_exchange.specs.Outcomes.{name_of}
use Rattle.av_exchange.specs.Steps.{IfTold}
use Rattle.av_exchange.proofs.Committed.{not_recorded, not_settled, settled}
use Rattle.av_exchange.proofs.exchange.commit.Goals as goal

pub returns-in_err-record-clause-err : goal.returns-in_err-record-clause-err
returns-in_err-record-clause-err g c =
    let names = map string_bytes c.args.names.now in
    let marks = map string_bytes c.in_ok-marks.marks.items in
    let same : map name_of c.as_slice-2.result.now ≡ names = ap (map name_of) c.as_slice-2.ensures.value ∙ c.in_ok-moves.ensures in
    err_from c.from_residual-in_err-record.result _ _ c.from_residual-in_err-record.ensures.1
    (not_recorded _ names marks _
    (subst (λ (ns : List (List ℕ)). IfTold (g.F.Folder.history c.args.folder.now) (AreStaged ns)) same c.in_ok-check_staged.ensures)
    c.in_ok-marks.ensures.marked _ c.as_str.result.now _
    (c.as_str.ensures.value ∙ (c.in_ok-text.ensures ∙ ap (λ (m : _). journal_of names (map string_bytes m)) c.as_slice-3.ensures.value))
    c.in_err-record.ensures.err)

pub returns-in_err-settle_recorded-clause-err : goal.returns-in_err-settle_recorded-clause-err
returns-in_err-settle_recorded-clause-err g c =
    let names = map string_bytes c.args.names.now in
    let marks = map string_bytes c.in_ok-marks.marks.items in
    let same : map name_of c.as_slice-2.result.now ≡ names = ap (map name_of) c.as_slice-2.ensures.value ∙ c.in_ok-moves.ensures in
    err_from c.from_residual-in_err-settle_recorded.result _ _ c.from_residual-in_err-settle_recorded.ensures.1
    (not_settled _ names marks _
    (subst (λ (ns : List (List ℕ)). IfTold (g.F.Folder.history c.args.folder.now) (AreStaged ns)) same c.in_ok-check_staged.ensures)
    c.in_ok-marks.ensures.marked _ _ c.as_str.result.now (map name_of c.as_slice-4.result.now) _
    (c.as_str.ensures.value ∙ (c.in_ok-text.ensures ∙ ap (λ (m : _). journal_of names (map string_bytes m)) c.as_slice-3.ensures.value))
    (ap (map name_of) c.as_slice-4.ensures.value ∙ c.in_ok-moves.ensures)
    c.in_ok-record.ensures.ok c.in_err-settle_recorded.ensures.err)

pub returns-clause-ok : goal.returns-clause-ok
returns-clause-ok g c =
    let names = map string_bytes c.args.names.now in
    let marks = map string_bytes c.in_ok-marks.marks.items in
    let same : map name_of c.as_slice-2.result.now ≡ names = ap (map name_of) c.as_slice-2.ensures.value ∙ c.in_ok-moves.ensures in
    settled _ names marks _
    (subst (λ (ns : List (List ℕ)). IfTold (g.F.Folder.history c.args.folder.now) (AreStaged ns)) same c.in_ok-check_staged.ensures)
    c.in_ok-marks.ensures.marked _ _ c.as_str.result.now (map name_of c.as_slice-4.result.now)
    (c.as_str.ensures.value ∙ (c.in_ok-text.ensures ∙ ap (λ (m : _). journal_of names (map string_bytes m)) c.as_slice-3.ensures.value))
    (ap (map name_of) c.as_slice-4.ensures.value ∙ c.in_ok-moves.ensures)
    c.in_ok-record.ensures.ok c.in_ok-settle_recorded.ensures.taken c.in_ok-settle_recorded.ensures.ok
