use Rattle.std.proofs.Common.{◌≡◌, All, List, take, slice_index_or, subst, sym, ◌∙◌, arith, pos}
use Rattle.std.proofs.lemmas.List.Elements.{All-weaker, All-more}
use Rattle.std.proofs.lemmas.List.{take_all}
use Rattle.av_types.specs.declared.position.Pos.{Pos}
use Rattle.av_world.specs.Turned.{HasChunkRoom}
use Rattle.av_world.proofs.Steps.{IsWorldKept-trans, chunk_room_lasts, chunk_room}
use Rattle.av_world.proofs.worlds.World.reserve_chunks.Goals as goal

pub loop-at-preserved : goal.loop-at-preserved
loop-at-preserved c =
    let old = c.loop-at.self in let new = c.reserve_chunk-reserved.new.self in let n = c.args.count in let at = c.args.at.now in
    record {
      kept = IsWorldKept-trans c.args.self.now old new c.loop-at.invariant.kept c.reserve_chunk-reserved.ensures.kept;
      done = All-more (HasChunkRoom new n) at c.loop-at.at-index (record { x = pos 0; y = pos 0; z = pos 0 }) c.loop-at-test.true
          (All-weaker (HasChunkRoom old n) (HasChunkRoom new n) (λ p h. chunk_room_lasts old new n p c.reserve_chunk-reserved.ensures.kept h) (take c.loop-at.at-index at) c.loop-at.invariant.done)
          (chunk_room old new n (slice_index_or at c.loop-at.at-index (record { x = pos 0; y = pos 0; z = pos 0 })) c.chunk.result _ _ c.reserve_chunk-reserved.result c.chunk.ensures c.reserve_chunk-reserved.ensures.kept (sym c.is_err.ensures.value ∙ c.if-is_err.false) c.reserve_chunk-reserved.ensures.room);
    }

pub returns-clause-room : goal.returns-clause-room
returns-clause-room c = λ _.
    let all : take c.loop-at.at-index c.args.at.now ≡ c.args.at.now = take_all c.loop-at.at-index c.args.at.now (omega (arith, c.loop-at-test.false)) in
    subst (λ (xs : List Pos). All (HasChunkRoom c.loop-at.self c.args.count) xs) all c.loop-at.invariant.done
