use Rattle.std.proofs.Common.{All, sym, subst, take, List}
use Rattle.std.proofs.lemmas.List.Elements.{All-weaker}
use Rattle.std.proofs.lemmas.Result.{on_ok_weaker}
use Rattle.av_types.specs.declared.position.Pos.{Pos}
use Rattle.av_world.specs.Turned.{corners, HasRoomAt, HasChunkRoom}
use Rattle.av_world.proofs.Steps.{IsWorldKept-trans, room_lasts, corners_room}
use Rattle.av_world.proofs.worlds.World.reserve_reach.Goals as goal

pub returns-then-reserved-clause-room : goal.returns-then-reserved-clause-room
returns-then-reserved-clause-room c =
    corners_room c.reserve_chunks-reserved.new.self 42 c.args.pos
    (subst (λ (xs : List Pos). All (HasChunkRoom c.reserve_chunks-reserved.new.self 42) (take 4 xs)) c.corners-corners.ensures (c.reserve_chunks-reserved.ensures.room c.if-reserved.true))

pub returns-clause-room : goal.returns-clause-room
returns-clause-room c =
    let new = c.reserve_all.new.self in
    on_ok_weaker c.reserve_all.result (λ h. subst (λ (xs : List Pos). All (HasRoomAt new 42) xs) c.corners-corners.ensures h) c.reserve_all.ensures.room

pub returns-clause-succeeds : goal.returns-clause-succeeds
returns-clause-succeeds c =
    let w = c.args.self.now in let near = c.look_near.new.self in let mid = c.reserve_chunks-reserved.new.self in
    let kept = IsWorldKept-trans w near mid c.look_near.ensures c.reserve_chunks-reserved.ensures.kept in
    λ room. c.reserve_all.ensures.succeeds
    (subst (λ (xs : List Pos). All (HasRoomAt mid 42) xs) (sym c.corners-corners.ensures)
    (All-weaker (HasRoomAt w 42) (HasRoomAt mid 42) (λ p h. room_lasts w mid 42 p kept h) (corners c.args.pos) room))
