use Rattle.std.proofs.Common.{option_map}
use Rattle.av_types.proofs.Exits.{err_from}
use Rattle.av_types.specs.Positions.{chunk_of}
use Rattle.av_state.specs.States.{state_of}
use Rattle.av_state.specs.StateList.{first_states}
use Rattle.av_state.specs.Table.{states}
use Rattle.av_chunk.specs.Reading.{IsLoaded}
use Rattle.av_codec.specs.Payload.{IsPayloadReading}
use Rattle.av_codec.specs.Block.{IsPayloadRefused}
use Rattle.av_codec.proofs.Found.{denoted_by}
use Rattle.av_codec.proofs.block.block_in_payload.Goals as goal

pub returns-in_err-read_payload-clause-err : goal.returns-in_err-read_payload-clause-err
returns-in_err-read_payload-clause-err c =
    let e = c.in_err-read_payload.field-0.0 in
    let fact : IsPayloadRefused c.args.payload.now c.args.height c.args.pos e = rw (c.chunk.ensures, c.in_ok-table.ensures.ok) at c.in_err-read_payload.ensures.err in
    err_from c.from_residual-in_err-read_payload.result e (IsPayloadRefused c.args.payload.now c.args.height c.args.pos) c.from_residual-in_err-read_payload.ensures.1 fact

pub returns-clause-ok : goal.returns-clause-ok
returns-clause-ok c =
    let read : IsPayloadReading (chunk_of c.args.pos) c.args.height c.args.payload.now first_states (states c.read_payload.new.table) c.in_ok-read_payload.field-0 =
    rw (c.chunk.ensures, c.in_ok-table.ensures.ok) at c.in_ok-read_payload.ensures.ok in
    let loaded : IsLoaded (chunk_of c.args.pos) c.args.height read.document first_states (states c.read_payload.new.table) c.in-Full.chunk c.in-Full.rest =
    rw c.in-Full.is at read.reading in
    denoted_by c.args.payload.now c.args.height c.args.pos read.document (states c.read_payload.new.table) c.in-Full.chunk c.in-Full.rest (option_map state_of c.in_ok-state_in-in-Full.field-0)
    read.spelled loaded c.in_ok-state_in-in-Full.ensures
