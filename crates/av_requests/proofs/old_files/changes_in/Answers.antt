use Rattle.std.proofs.Common.{[], List, Contains, subst, sym}
use Rattle.std.proofs.lemmas.List.Elements.{Contains-get_or}
use Rattle.std.proofs.lemmas.Result.{err_from_is_err_and}
use Rattle.av_region_files.specs.declared.files.RegionFile.{RegionFile}
use Rattle.av_changes.specs.declared.change.Change.{Change}
use Rattle.av_changes.specs.Changes.{AreChangesOf, of_none}
use Rattle.av_requests.specs.Olds.{AreUnreadOlds, unread}
use Rattle.av_requests.proofs.old_files.changes_in.Goals as goal

pub loop-file-init : goal.loop-file-init
loop-file-init g c = ([], subst (λ (cs : List Change). AreChangesOf [] [] cs) (sym c.new-changes.ensures.items) of_none)

pub returns-in_err-old-clause-err : goal.returns-in_err-old-clause-err
returns-in_err-old-clause-err g c =
    let files = c.args.files.now in
    let file = c.file-item.result in
    let e = c.in_err-old.field-0.0 in
    let there : Contains files file = subst (λ (f : RegionFile). Contains files f) (sym c.file-item.is) (Contains-get_or files c.loop-file.file-index file c.loop-file-test.true) in
    let h : AreUnreadOlds files e.fault = unread file there c.in_err-old.ensures in
    let p = err_from_is_err_and c.from_residual.result c.from_residual.ensures.1 in rw (p.1, p.2) h
