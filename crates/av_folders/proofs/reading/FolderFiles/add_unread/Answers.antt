use Rattle.std.proofs.Common.{◌∙◌, refl}
use Rattle.av_reports.specs.declared.failure.UnreadFile.{UnreadFile}
use Rattle.av_folders.specs.declared.reading.FolderFiles.{FolderFiles}
use Rattle.av_folders.proofs.Shares.{one_more_unread}
use Rattle.av_folders.proofs.reading.FolderFiles.add_unread.Goals as goal

pub returns : goal.returns
returns c =
    let u : UnreadFile = record { name = c.in_ok-name.name; path = c.in_ok-path.path; error = c.args.error } in
    let new : FolderFiles = record { files = c.args.self.now.files; unread = c.push.new.self } in
    record {
      adds = λ before shared. one_more_unread before c.args.listed.now.region c.args.self.now new u (c.in_ok-name.ensures.ok ∙ (c.as_str.ensures.value ∙ c.requires)) refl
          c.in_ok-push.ensures.items shared;
    }
