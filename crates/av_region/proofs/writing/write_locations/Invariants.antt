use Rattle.std.proofs.Common.{◌≡◌, ◌+◌, ◌*◌, ◌≤◌, ◌++◌, drop, map, option_map}
use Rattle.av_region.specs.Layout.{locations_from}
use Rattle.av_region.proofs.writing.write_locations.Given as goal

abbrev pub invariant-loop-payload : goal.invariant-loop-payload
invariant-loop-payload g l = record {
  bound : l.sector ≤ 2 + 255 * l.payload-index;
  written : l.file.items ++ locations_from l.sector (map (option_map g.P.AsSlice.items) (drop l.payload-index l.payloads)) ≡ l.initial.file.items ++ locations_from 2 (map (option_map g.P.AsSlice.items) l.payloads);
}
