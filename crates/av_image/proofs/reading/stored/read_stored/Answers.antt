use Rattle.std.proofs.Common.{◌∙◌, ℕ, List, Option, Some, None, sym, subst}
use Rattle.std.specs.Prelude.{IfSome}
use Rattle.av_types.specs.Positions.{chunk_at}
use Rattle.av_types.specs.declared.position.ChunkPos.{ChunkPos}
use Rattle.av_types.specs.declared.position.Height.{Height}
use Rattle.av_region.specs.Region.{Holds}
use Rattle.av_state.specs.BlockState.{BlockState}
use Rattle.av_state.specs.Table.{states}
use Rattle.av_codec.proofs.Found.{if_err_then}
use Rattle.av_chunk.specs.declared.chunk.Reading.{Reading}
use Rattle.av_codec.specs.Payload.{IsPayloadReading}
use Rattle.av_image.specs.Ahead.{IsMadeAt}
use Rattle.av_image.proofs.OneIndex.{item_refused}
use Rattle.av_image.proofs.reading.stored.read_stored.Goals as goal

-- a file holds one payload at an index, of which the thing there is made
made_of : (h : Height) (table : List BlockState) (file : List ℕ) (c : ChunkPos) (i : ℕ) (o : Option Reading) (payload : List ℕ) → IfSome o (IsMadeAt h table file c i) → Holds file i payload → IfSome o (IsPayloadReading c h payload table table)
made_of h table file c i None payload is held = tt
made_of h table file c i (Some a) payload is held = subst (λ bytes. IsPayloadReading c h bytes table table a) (is.holds.bytes ∙ sym held.bytes) is.made

pub held-requires-clause-ahead : goal.held-requires-clause-ahead
held-requires-clause-ahead c =
    let holds : Holds c.args.region.now.bytes.now c.args.index c.in-Some.payload.now = rw c.in-Some.is at c.in_ok-payload.ensures.ok in
    subst (λ at. IfSome c.args.ahead (IsPayloadReading at c.args.height c.in-Some.payload.now (states c.args.table.now) (states c.args.table.now))) (sym c.chunk_at.ensures)
    (made_of c.args.height (states c.args.table.now) c.args.region.now.bytes.now (chunk_at c.args.pos c.args.index) c.args.index c.args.ahead c.in-Some.payload.now c.requires.ahead holds)

pub returns-in-Some-clause-err : goal.returns-in-Some-clause-err
returns-in-Some-clause-err c =
    let holds : Holds c.args.region.now.bytes.now c.args.index c.in-Some.payload.now = rw c.in-Some.is at c.in_ok-payload.ensures.ok in
    if_err_then c.held.result (rw c.chunk_at.ensures at c.held.ensures.err)
    (λ e bad other. item_refused c.args.height (states c.args.table.now) c.args.region.now.bytes.now c.in-Some.payload.now (chunk_at c.args.pos c.args.index) c.args.index e holds (bad other))
