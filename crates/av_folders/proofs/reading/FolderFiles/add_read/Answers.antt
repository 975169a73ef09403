use Rattle.std.proofs.Common.{refl}
use Rattle.av_folders.specs.declared.reading.FolderFiles.{FolderFiles}
use Rattle.av_folders.proofs.Shares.{one_more_read}
use Rattle.av_folders.proofs.reading.FolderFiles.add_read.Goals as goal

pub returns : goal.returns
returns c =
    let new : FolderFiles = record { files = c.push.new.self; unread = c.args.self.now.unread } in
    record { adds = λ before shared. one_more_read before c.args.listed.now.region c.args.self.now new c.args.file c.requires c.in_ok-push.ensures.items refl shared }
