use Rattle.std.proofs.Common.{ℕ, sym, All, subst, List, [], ◌∷◌}
use Rattle.std.proofs.lemmas.List.Elements.{All-weaker}
use Rattle.std.proofs.lemmas.Result.{on_ok_weaker}
use Rattle.av_types.specs.declared.position.Pos.{Pos}
use Rattle.av_world.specs.Turned.{corners, turned, HasRoomAt, CanSetAll}
use Rattle.av_world.proofs.Steps.{not_refused, numbers_last, room_lasts, in_ok}
use Rattle.av_world.proofs.worlds.World.prepare_turn.Goals as goal

pub returns-clause-room : goal.returns-clause-room
returns-clause-room c =
    let old = c.reserve_reach.new.self in let new = c.prepare_all.new.self in
    in_ok c.prepare_all.result _
    (All-weaker (HasRoomAt old 42) (HasRoomAt new 42) (λ p h. room_lasts old new 42 p c.prepare_all.ensures.kept h) (corners c.args.pos) c.in_ok-reserve_reach.ensures.room)

pub returns-clause-prepared : goal.returns-clause-prepared
returns-clause-prepared c =
    let new = c.prepare_all.new.self in
    on_ok_weaker c.prepare_all.result (λ h. subst (λ (xs : List Pos). All (CanSetAll new (0 ∷ 1 ∷ 2 ∷ 3 ∷ 4 ∷ 5 ∷ 6 ∷ 7 ∷ 8 ∷ 9 ∷ [])) xs) c.turned.ensures h) c.prepare_all.ensures.prepared

pub returns-in_err-reserve_reach-clause-succeeds : goal.returns-in_err-reserve_reach-clause-succeeds
returns-in_err-reserve_reach-clause-succeeds c = λ room numbers. not_refused c.reserve_reach.result _ _ c.in_err-reserve_reach.was (c.reserve_reach.ensures.succeeds room)

pub returns-clause-succeeds : goal.returns-clause-succeeds
returns-clause-succeeds c =
    let w = c.args.self.now in let old = c.reserve_reach.new.self in let ns : List ℕ = (0 ∷ 1 ∷ 2 ∷ 3 ∷ 4 ∷ 5 ∷ 6 ∷ 7 ∷ 8 ∷ 9 ∷ []) in
    λ room numbers. c.prepare_all.ensures.succeeds
    (subst (λ (xs : List Pos). All (CanSetAll old ns) xs) (sym c.turned.ensures)
    (All-weaker (CanSetAll w ns) (CanSetAll old ns) (λ p h. numbers_last w old ns p c.reserve_reach.ensures.kept h) (turned c.args.pos) numbers))
