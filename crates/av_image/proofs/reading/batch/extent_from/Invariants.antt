use Rattle.std.proofs.Common.{◌≡◌, ◌≤◌, ◌+◌}
use Rattle.av_image.proofs.reading.batch.extent_from.Given as goal

abbrev pub invariant-loop-index : goal.invariant-loop-index
invariant-loop-index l = record {
  reached : l.first + l.extent.count ≡ l.index;
  payloads : l.extent.payloads ≤ l.extent.count;
  bytes : l.extent.bytes ≤ 1048576;
}
