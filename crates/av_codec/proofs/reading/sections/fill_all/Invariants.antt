use Rattle.std.proofs.Common.{◌≡◌, length}
use Rattle.av_codec.specs.SectionsRead.{FilledBelow}
use Rattle.av_codec.proofs.reading.sections.fill_all.Given as goal

abbrev pub invariant-loop-index : goal.invariant-loop-index
invariant-loop-index l = record {
  end : l.index-end ≡ length l.fn.sections.items;
  count : length l.sections.items ≡ length l.fn.sections.items;
  filled : FilledBelow l.index l.fn.sections.items l.sections.items;
}
