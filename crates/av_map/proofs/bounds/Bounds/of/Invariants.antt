use Rattle.std.proofs.Common.{◌≡◌, fold, take}
use Rattle.av_map.specs.Maps.{bounds_at, bounds_with}
use Rattle.av_map.specs.Within.{AreWithin}
use Rattle.av_map.proofs.bounds.Bounds.of.Given as goal

abbrev pub invariant-loop-file : goal.invariant-loop-file
invariant-loop-file l = record {
  value : l.bounds ≡ fold bounds_with (bounds_at l.first.pos) (take l.file-index l.more);
  within : AreWithin l.bounds;
}
