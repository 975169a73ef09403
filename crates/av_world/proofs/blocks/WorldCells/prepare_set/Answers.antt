use Rattle.std.proofs.Common.{arith}
use Rattle.av_types.specs.Positions.{section_of}
use Rattle.av_world.specs.Near.{cells_near}
use Rattle.av_world.specs.Views.{CanSetAt}
use Rattle.av_world.specs.Turned.{HasRoomAt}
use Rattle.av_world.proofs.Steps.{site_kept, not_refused, loaded_later}
use Rattle.av_world.proofs.Corners.{around_all, one_all, for_around, map_around}
use Rattle.av_world.proofs.blocks.WorldCells.prepare_set.Goals as goal

pub prepare_one-requires : goal.prepare_one-requires
prepare_one-requires c = let w = c.args.self.now in cells_near w.height w.positions.items w.chunks.items w.lawful c.args.pos c.requires

pub returns-clause-room : goal.returns-clause-room
returns-clause-room c =
    let old = c.args.self.now in let new = c.prepare_one.new.self in
    map_around (HasRoomAt new 7) _ (λ q h t. h (loaded_later old new q c.prepare_one.ensures.kept t)) c.args.pos (for_around (HasRoomAt new 7) c.args.pos c.in_ok-prepare_one.ensures.room)

pub returns-clause-prepared : goal.returns-clause-prepared
returns-clause-prepared c =
    let old = c.args.self.now in let new = c.prepare_one.new.self in
    c.in_ok-prepare_one.ensures.prepared (loaded_later old new c.args.pos c.prepare_one.ensures.kept c.requires) 0 0 (omega arith)

pub returns-in_err-prepare_one-clause-site : goal.returns-in_err-prepare_one-clause-site
returns-in_err-prepare_one-clause-site c = site_kept c.args.self.now c.prepare_one.new.self c.prepare_one.ensures.kept

pub returns-clause-site : goal.returns-clause-site
returns-clause-site c = site_kept c.args.self.now c.prepare_one.new.self c.prepare_one.ensures.kept

pub returns-in_err-prepare_one-clause-succeeds : goal.returns-in_err-prepare_one-clause-succeeds
returns-in_err-prepare_one-clause-succeeds c =
    let w = c.args.self.now in
    λ room number. not_refused c.prepare_one.result _ _ c.in_err-prepare_one.was (c.prepare_one.ensures.succeeds
    (around_all (HasRoomAt w 7) c.args.pos room)
    (λ t. one_all (CanSetAt w (section_of c.args.pos)) c.args.number number))
