use Rattle.std.proofs.Common.{ℕ, List, ◌≤◌, IsTrue, [], ◌∷◌}
use Rattle.av_types.specs.Positions.{section_of, chunk_of_section}
use Rattle.av_cells.specs.Grid.{is_here}
use Rattle.av_world.specs.Near.{cells_near}
use Rattle.av_world.specs.Views.{grid, room, CanSetAt}
use Rattle.av_world.specs.Turned.{HasRoomAt, CanSetAll}
use Rattle.av_world.proofs.Steps.{site_kept, not_refused, loaded_later}
use Rattle.av_world.proofs.Corners.{in_reach, corners_all, turned_all, for_turned, map_turned, ten, ten_all}
use Rattle.av_world.proofs.blocks.WorldCells.prepare.Goals as goal

pub prepare_turn-requires : goal.prepare_turn-requires
prepare_turn-requires c = let w = c.args.self.now in cells_near w.height w.positions.items w.chunks.items w.lawful c.args.pos c.requires

pub returns-clause-room : goal.returns-clause-room
returns-clause-room c =
    let old = c.args.self.now in let new = c.prepare_turn.new.self in
    λ q r t. in_reach (λ s. IsTrue (is_here (grid new s)) → 42 ≤ room new (chunk_of_section s)) c.args.pos q c.in_ok-prepare_turn.ensures.room r (loaded_later old new q c.prepare_turn.ensures.kept t)

pub returns-clause-prepared : goal.returns-clause-prepared
returns-clause-prepared c =
    let old = c.args.self.now in let new = c.prepare_turn.new.self in let can = CanSetAll new (0 ∷ 1 ∷ 2 ∷ 3 ∷ 4 ∷ 5 ∷ 6 ∷ 7 ∷ 8 ∷ 9 ∷ []) in
    map_turned can _ (λ q h t n below. ten (CanSetAt new (section_of q)) (h (loaded_later old new q c.prepare_turn.ensures.kept t)) n below)
    c.args.pos (for_turned can c.args.pos c.in_ok-prepare_turn.ensures.prepared)

pub returns-in_err-prepare_turn-clause-site : goal.returns-in_err-prepare_turn-clause-site
returns-in_err-prepare_turn-clause-site c = site_kept c.args.self.now c.prepare_turn.new.self c.prepare_turn.ensures.kept

pub returns-clause-site : goal.returns-clause-site
returns-clause-site c = site_kept c.args.self.now c.prepare_turn.new.self c.prepare_turn.ensures.kept

pub returns-in_err-prepare_turn-clause-succeeds : goal.returns-in_err-prepare_turn-clause-succeeds
returns-in_err-prepare_turn-clause-succeeds c =
    let w = c.args.self.now in let ns : List ℕ = (0 ∷ 1 ∷ 2 ∷ 3 ∷ 4 ∷ 5 ∷ 6 ∷ 7 ∷ 8 ∷ 9 ∷ []) in
    λ room numbers. not_refused c.prepare_turn.result _ _ c.in_err-prepare_turn.was (c.prepare_turn.ensures.succeeds
    (corners_all (HasRoomAt w 42) c.args.pos room)
    (turned_all (CanSetAll w ns) c.args.pos (map_turned _ (CanSetAll w ns) (λ q h t. ten_all (CanSetAt w (section_of q)) (h t)) c.args.pos numbers)))
