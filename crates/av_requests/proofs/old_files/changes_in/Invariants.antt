use Rattle.std.proofs.Common.{List, ℕ, Option, take}
use Rattle.av_changes.specs.Changes.{AreChangesOf}
use Rattle.av_requests.proofs.old_files.changes_in.Given as goal

-- the changes so far are those of the first files
abbrev pub invariant-loop-file : goal.invariant-loop-file
invariant-loop-file g l = (olds : List (Option (List ℕ))) × AreChangesOf (take l.file-index l.files) olds l.changes.items
