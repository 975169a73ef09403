use Rattle.std.proofs.Common.{◌≡◌, All, List, take, subst, arith}
use Rattle.std.proofs.lemmas.List.Elements.{All-weaker, All-more}
use Rattle.std.proofs.lemmas.List.{take_all}
use Rattle.av_types.specs.declared.position.Pos.{Pos}
use Rattle.av_world.specs.Turned.{HasRoomAt}
use Rattle.av_world.proofs.Steps.{not_refused, IsWorldKept-trans, room_lasts}
use Rattle.av_world.proofs.worlds.World.reserve_all.Goals as goal

pub loop-at-preserved : goal.loop-at-preserved
loop-at-preserved c =
    let old = c.loop-at.self in let new = c.reserve_at.new.self in let n = c.args.count in let at = c.args.at.now in
    record {
      kept = IsWorldKept-trans c.args.self.now old new c.loop-at.invariant.kept c.reserve_at.ensures.kept;
      done = All-more (HasRoomAt new n) at c.loop-at.at-index (record { x = Rattle.std.proofs.Common.pos 0; y = Rattle.std.proofs.Common.pos 0; z = Rattle.std.proofs.Common.pos 0 }) c.loop-at-test.true
          (All-weaker (HasRoomAt old n) (HasRoomAt new n) (λ p h. room_lasts old new n p c.reserve_at.ensures.kept h) (take c.loop-at.at-index at) c.loop-at.invariant.done)
          c.in_ok-reserve_at.ensures.room;
    }

pub returns-clause-room : goal.returns-clause-room
returns-clause-room c =
    let all : take c.loop-at.at-index c.args.at.now ≡ c.args.at.now = take_all c.loop-at.at-index c.args.at.now (omega (arith, c.loop-at-test.false)) in
    subst (λ (xs : List Pos). All (HasRoomAt c.loop-at.self c.args.count) xs) all c.loop-at.invariant.done

pub returns-in_err-reserve_at-clause-succeeds : goal.returns-in_err-reserve_at-clause-succeeds
returns-in_err-reserve_at-clause-succeeds c =
    let w = c.args.self.now in let old = c.loop-at.self in let n = c.args.count in let at = c.args.at.now in let i = c.loop-at.at-index in
    λ ready. not_refused c.reserve_at.result _ _ c.in_err-reserve_at.was
    (c.reserve_at.ensures.succeeds (room_lasts w old n _ c.loop-at.invariant.kept (ready i (record { x = Rattle.std.proofs.Common.pos 0; y = Rattle.std.proofs.Common.pos 0; z = Rattle.std.proofs.Common.pos 0 }) c.loop-at-test.true)))
