use Rattle.std.specs.List.{All}
use Rattle.av_folders.specs.Folders.{IsListed}
use Rattle.av_folders.proofs.reading.list_folder.Given as goal

abbrev pub invariant-loop-entry : goal.invariant-loop-entry
invariant-loop-entry g l = All IsListed l.files.items
