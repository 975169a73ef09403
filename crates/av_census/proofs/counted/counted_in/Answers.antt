use Rattle.std.proofs.Common.{None, Option, List, ℕ, length, sym, subst}
use Rattle.std.specs.Prelude.{slice_index_or}
use Rattle.av_state.specs.StateList.{first_states}
use Rattle.av_state.specs.Table.{states}
use Rattle.av_section.specs.declared.section.Section.{Section}
use Rattle.av_codec.proofs.Found.{if_ok_then}
use Rattle.av_codec.specs.Payload.{IsPayloadReading}
use Rattle.av_chunk.specs.Reading.{IsLoaded, IsKept}
use Rattle.av_census.specs.Counting.{AreSlotCounts, SlotBelow}
use Rattle.av_census.proofs.Chunks.{kept_in, loaded_in, faulty_in, slots_below}
use Rattle.av_census.proofs.counted.counted_in.Goals as goal

pub count_blocks-requires-clause-below : goal.count_blocks-requires-clause-below
count_blocks-requires-clause-below c = λ k.
    let new = states c.read_payload.new.table in
    let read : IsPayloadReading c.args.at c.args.height c.args.payload.now first_states new c.in-Ok-Full.field-0 = rw c.in-Ok.ensures.ok at c.in-Ok-Full.ensures.ok in
    let loaded : IsLoaded c.args.at c.args.height read.document first_states new c.in-Ok-Full.chunk c.in-Ok-Full.field-0-1 = rw c.in-Ok-Full.field-0-is at read.reading in
    subst (λ (n : ℕ). SlotBelow n (slice_index_or c.as_slice.result.now k None)) (sym c.len.ensures)
    (subst (λ (xs : List (Option Section)). SlotBelow (length new) (slice_index_or xs k None)) (sym c.as_slice.ensures.value) (slots_below c.args.at c.args.height read.document new c.in-Ok-Full.chunk c.in-Ok-Full.field-0-1 loaded k))

pub returns-in-Ok-Kept : goal.returns-in-Ok-Kept
returns-in-Ok-Kept c =
    let old = states c.in-Ok.table in
    let new = states c.read_payload.new.table in
    let read : IsPayloadReading c.args.at c.args.height c.args.payload.now old new c.in-Ok-Kept.field-0 = c.in-Ok-Kept.ensures.ok in
    let kept : IsKept c.args.at c.args.height read.document old new = rw c.in-Ok-Kept.field-0-is at read.reading in
    kept_in c.args.height c.args.payload.now c.args.at read.document old new read.spelled c.in-Ok.ensures.ok kept

pub returns-in_ok-counts-in-Ok-Full : goal.returns-in_ok-counts-in-Ok-Full
returns-in_ok-counts-in-Ok-Full c =
    let table = c.read_payload.new.table in
    let counts = c.in_ok-counts-in-Ok-Full.counts in
    let chunk = c.in-Ok-Full.chunk in
    let read : IsPayloadReading c.args.at c.args.height c.args.payload.now first_states (states table) c.in-Ok-Full.field-0 = rw c.in-Ok.ensures.ok at c.in-Ok-Full.ensures.ok in
    let loaded : IsLoaded c.args.at c.args.height read.document first_states (states table) chunk c.in-Ok-Full.field-0-1 = rw c.in-Ok-Full.field-0-is at read.reading in
    let are : AreSlotCounts chunk.sections.items (length (states table)) (length chunk.sections.items) counts.items =
    subst (λ (n : ℕ). AreSlotCounts chunk.sections.items n (length chunk.sections.items) counts.items) c.len.ensures
    (subst (λ (xs : List (Option Section)). AreSlotCounts xs c.len.result (length xs) counts.items) c.as_slice.ensures.value c.in_ok-counts-in-Ok-Full.ensures) in
    loaded_in c.args.height c.args.payload.now c.args.at read.document table counts chunk c.in-Ok-Full.field-0-1 read.spelled loaded are

pub returns-in-Err : goal.returns-in-Err
returns-in-Err c =
    if_ok_then c.left_out.result c.left_out.ensures
    (λ counted is. faulty_in c.args.height c.args.payload.now c.args.at _ counted (rw c.in-Ok.ensures.ok at (c.in-Err.ensures.err is.0)) is.1)
