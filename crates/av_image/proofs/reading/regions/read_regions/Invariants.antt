use Rattle.std.proofs.Common.{◌≡◌, ◌++◌, map}
use Rattle.std.specs.List.{All}
use Rattle.std.specs.Vec.Iter.{into_iter_items}
use Rattle.av_types.specs.Positions.{IsInLimits}
use Rattle.av_state.specs.Table.{states}
use Rattle.av_image.specs.RegionsRead.{file_of}
use Rattle.av_image.specs.Ways.{FilesSoFar}
use Rattle.av_image.proofs.reading.regions.read_regions.Given as goal

abbrev pub invariant-loop-file : goal.invariant-loop-file
invariant-loop-file g l = record {
  split : l.yielded ++ into_iter_items l.file-iterator ≡ l.fn.files.items;
  limits : All (λ f. IsInLimits f.pos) (into_iter_items l.file-iterator);
  so_far : FilesSoFar l.height (states l.fn.table) (states l.table) (map (λ f. file_of f.pos f.bytes.items) l.fn.files.items) (map (λ f. file_of f.pos f.bytes.items) (into_iter_items l.file-iterator)) (map (λ f. file_of f.pos f.bytes.items) l.yielded) l.regions.items;
}
