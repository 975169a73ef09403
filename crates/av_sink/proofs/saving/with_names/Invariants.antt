use Rattle.std.proofs.Common.{◌≡◌, map, take}
use Rattle.av_sink.specs.Saving.{entry_of, named_file}
use Rattle.av_sink.proofs.saving.with_names.Given as goal

abbrev pub invariant-loop-file : goal.invariant-loop-file
invariant-loop-file l = map entry_of l.all.items ≡ map named_file (take l.file-index l.files)
