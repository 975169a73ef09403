use Rattle.std.proofs.Common.{◌∙◌, sym, subst}
use Rattle.av_types.specs.declared.fault.Fault.{Fault}
use Rattle.av_folders.specs.Folders.{IsUnreadFolder, file}
use Rattle.av_requests.proofs.Others.{shared_others, unread_named}
use Rattle.av_requests.proofs.skipping.read_unskipped.Goals as goal

pub returns-in-Some-clause-unread : goal.returns-in-Some-clause-unread
returns-in-Some-clause-unread g c =
    let read = c.in_ok-read.ensures.read in
    let named = unread_named read.listed c.in_ok-read.read c.in-Some.unread read.all c.in-Some.ensures.one in
    subst (λ (f : Fault). IsUnreadFolder c.args.folder.now f) (sym c.from.ensures) (file named.0 named.1)

pub returns-in_ok-keep_others-in-None-clause-read : goal.returns-in_ok-keep_others-in-None-clause-read
returns-in_ok-keep_others-in-None-clause-read g c =
    let read = c.in_ok-read.ensures.read in record {
      listed = read.listed;
      order = read.order;
      kept = c.in_ok-keep_others-in-None.ensures ∙ sym (shared_others c.args.skip.now _ _ _ read.all c.in-None.ensures.none);
    }
