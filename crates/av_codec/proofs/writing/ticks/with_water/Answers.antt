use Rattle.std.proofs.Common.{◌<◌, pos, length, arith}
use Rattle.std.proofs.lemmas.List.Elements.{All-more}
use Rattle.av_types.specs.declared.tick.Entry.{Entry}
use Rattle.av_tags.specs.View.{views}
use Rattle.av_document.specs.Law.{HasInts}
use Rattle.av_codec.specs.WritingSteps.{written_entry}
use Rattle.av_codec.proofs.Written.{one_more-written}
use Rattle.av_codec.proofs.writing.ticks.with_water.Goals as goal

pub loop-entry-preserved : goal.loop-entry-preserved
loop-entry-preserved c =
    let es = c.as_slice-entry-items.result.now in
    let n = c.loop-entry.entry-index in
    let none : Entry = record { pos = record { x = pos 0; y = pos 0; z = pos 0 }; due = pos 0; priority = pos 0 } in
    let within : n < length es = omega arith in (
      one_more-written (written_entry c.args.chunk.now c.args.rest.now c.args.kinds.now c.args.elapsed) (views c.args.ticks.items) es n none c.loop-entry.ticks.items c.push.new.self.items c.in_ok-water_tick.field-0
          within c.loop-entry.invariant.0 c.in_ok-water_tick.ensures.ok c.in_ok-push.ensures.items,
      All-more (HasInts c.args.elapsed) es n none within c.loop-entry.invariant.1 c.water_tick.ensures.ints,
    )
