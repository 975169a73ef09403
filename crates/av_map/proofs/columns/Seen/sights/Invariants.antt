use Rattle.std.proofs.Common.{◌≡◌, map}
use Rattle.std.specs.List.{range_with_len}
use Rattle.av_map.specs.Arrays.{arrays_of}
use Rattle.av_map.specs.Sections.{sight_by}
use Rattle.av_map.proofs.columns.Seen.sights.Given as goal

abbrev pub invariant-loop-column : goal.invariant-loop-column
invariant-loop-column l = l.sights.items ≡ map (sight_by l.view l.self.sections.now l.self.looks.now (arrays_of l.self.lights.now)) (range_with_len 0 l.column)
