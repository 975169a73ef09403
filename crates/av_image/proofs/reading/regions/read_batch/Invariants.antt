use Rattle.std.proofs.Common.{◌+◌}
use Rattle.av_state.specs.Table.{states}
use Rattle.av_section.specs.Reading.{OnlyGrows}
use Rattle.av_dealt.specs.Dealt.{AreAtIndices}
use Rattle.av_image.specs.Ahead.{IsMadeBy}
use Rattle.av_image.specs.RegionsRead.{file_of}
use Rattle.av_image.specs.Ways.{GoesOn}
use Rattle.av_image.proofs.reading.regions.read_batch.Given as goal

abbrev pub invariant-loop-offset : goal.invariant-loop-offset
invariant-loop-offset l =
    record {
      way : GoesOn l.batch.height (file_of l.batch.pos l.batch.region.bytes.now) (states l.fn.table) l.batch.first l.fn.stored.items (states l.table) (l.batch.first + l.offset) l.stored.items;
      grown : OnlyGrows (states l.fn.table) (states l.table);
      ahead : AreAtIndices (IsMadeBy l.batch (states l.fn.table)) l.ahead.items;
    }
