use Rattle.std.proofs.Common.{◌≡◌, false, [], ◌++◌}
use Rattle.std.specs.List.{list_any}
use Rattle.std.specs.Vec.Iter.{into_iter_items}
use Rattle.av_tags.specs.View.{views}
use Rattle.av_ticks.specs.Ticks.{entries}
use Rattle.av_document.specs.Ticks.{is_bad_tick, with_water, foreign}
use Rattle.av_codec.specs.Working.{has_other}
use Rattle.av_chunk.specs.Rest.{opened}
use Rattle.av_codec.proofs.reading.water.read_ticks.Given as goal

abbrev pub invariant-loop-tick : goal.invariant-loop-tick
invariant-loop-tick l =
    let rest = opened (views (into_iter_items l.tick-iterator)) in
    let all = opened (views l.fn.ticks.items) in
    record {
      water : with_water (entries l.read.water) rest ≡ with_water [] all;
      foreign_are : opened (views l.read.foreign.items) ++ foreign rest ≡ foreign all;
      good : list_any (is_bad_tick l.at l.height) rest ≡ list_any (is_bad_tick l.at l.height) all;
      compounds : has_other (views (into_iter_items l.tick-iterator)) ≡ false;
      kept : has_other (views l.read.foreign.items) ≡ false;
    }
