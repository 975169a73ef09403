use Rattle.std.proofs.Common.{ℕ, sym, All, subst, List, [], ◌∷◌, IsTrue}
use Rattle.std.proofs.lemmas.List.Elements.{All-weaker}
use Rattle.std.proofs.lemmas.Result.{on_ok_weaker}
use Rattle.av_types.specs.declared.position.Pos.{Pos}
use Rattle.av_types.specs.declared.position.SectionPos.{SectionPos}
use Rattle.av_cells.specs.Grid.{is_here}
use Rattle.av_cells.specs.Positions.{around}
use Rattle.av_world.specs.Views.{grid, CanSetAt}
use Rattle.av_world.specs.Turned.{HasRoomAt}
use Rattle.av_world.proofs.Steps.{not_refused, IsWorldKept-trans, numbers_last, room_lasts, in_ok}
use Rattle.av_world.proofs.worlds.World.prepare_one.Goals as goal

pub returns-clause-room : goal.returns-clause-room
returns-clause-room c =
    let old = c.reserve_all.new.self in let new = c.prepare_section.new.self in
    in_ok c.prepare_section.result _
    (All-weaker (HasRoomAt old 7) (HasRoomAt new 7) (λ p h. room_lasts old new 7 p c.prepare_section.ensures.kept h) (around c.args.pos)
    (subst (λ (xs : List Pos). All (HasRoomAt old 7) xs) c.around-around.ensures c.in_ok-reserve_all.ensures.room))

pub returns-clause-prepared : goal.returns-clause-prepared
returns-clause-prepared c =
    let new = c.prepare_section.new.self in
    on_ok_weaker {P = IsTrue (is_here (grid new c.section.result)) → All (CanSetAt new c.section.result) (c.args.number ∷ [])} c.prepare_section.result (λ h. subst (λ (s : SectionPos). IsTrue (is_here (grid new s)) → All (CanSetAt new s) (c.args.number ∷ [])) c.section.ensures h) c.prepare_section.ensures.prepared

pub returns-in_err-reserve_all-clause-succeeds : goal.returns-in_err-reserve_all-clause-succeeds
returns-in_err-reserve_all-clause-succeeds c =
    let w = c.args.self.now in let mid = c.look_near.new.self in
    λ room numbers. not_refused c.reserve_all.result _ _ c.in_err-reserve_all.was
    (c.reserve_all.ensures.succeeds
    (subst (λ (xs : List Pos). All (HasRoomAt mid 7) xs) (sym c.around-around.ensures)
    (All-weaker (HasRoomAt w 7) (HasRoomAt mid 7) (λ p h. room_lasts w mid 7 p c.look_near.ensures h) (around c.args.pos) room)))

pub returns-clause-succeeds : goal.returns-clause-succeeds
returns-clause-succeeds c =
    let w = c.args.self.now in let mid = c.look_near.new.self in let old = c.reserve_all.new.self in let ns : List ℕ = c.args.number ∷ [] in
    let kept = IsWorldKept-trans w mid old c.look_near.ensures c.reserve_all.ensures.kept in
    λ room numbers. c.prepare_section.ensures.succeeds
    (subst (λ (s : SectionPos). IsTrue (is_here (grid old s)) → All (CanSetAt old s) ns) (sym c.section.ensures)
    (numbers_last w old ns c.args.pos kept numbers))
