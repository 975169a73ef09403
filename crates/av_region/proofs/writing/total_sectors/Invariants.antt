use Rattle.std.proofs.Common.{◌≡◌, ◌+◌, ◌*◌, ◌≤◌, drop, map, option_map}
use Rattle.std.specs.List.{sum_by}
use Rattle.av_region.specs.Layout.{sectors_for}
use Rattle.av_region.proofs.writing.total_sectors.Given as goal

abbrev pub invariant-loop-payload : goal.invariant-loop-payload
invariant-loop-payload g l = record {
  bound : l.sectors ≤ 255 * l.payload-index;
  total : l.sectors + sum_by sectors_for (map (option_map g.P.AsSlice.items) (drop l.payload-index l.payloads)) ≡ sum_by sectors_for (map (option_map g.P.AsSlice.items) l.payloads);
}
