use Rattle.std.proofs.Common.{All, take, get_or, pos, sym, subst}
use Rattle.std.proofs.lemmas.List.{take_all, take_more}
use Rattle.std.proofs.lemmas.List.Elements.{All-nil, All-push}
use Rattle.av_types.specs.declared.tick.Entry.{Entry}
use Rattle.av_land.specs.Land.{has_chunk}
use Rattle.av_world.specs.Lands.{land_of}
use Rattle.av_world.specs.Near.{cells_near}
use Rattle.av_world.specs.Views.{positions_of}
use Rattle.av_groups.specs.Open.{IsCovered, chunks_in, chunks_in_reach}
use Rattle.av_groups.specs.Parts.{StaysIn}
use Rattle.av_groups.proofs.Added.{stays, stay_more}
use Rattle.av_groups.proofs.Closed.{nothing_noted}
use Rattle.av_groups.proofs.cutting.touch_entries.Goals as goal

-- what stands where nothing stands
abbrev none : Entry
none = record { pos = record { x = pos 0; y = pos 0; z = pos 0 }; due = pos 0; priority = pos 0 }

pub reach_of-reach-requires : goal.reach_of-reach-requires
reach_of-reach-requires c =
    let w = c.args.world.now in cells_near w.height w.positions.items w.chunks.items w.lawful _ (c.requires.loaded c.loop-entry.entry-index _ c.loop-entry-test.true)

pub loop-entry-init : goal.loop-entry-init
loop-entry-init c = record {
  is_open = c.requires.gathered;
  noted = nothing_noted (positions_of c.args.world.now) c.args.touches.now.items c.none_noted-noted.result c.none_noted-noted.ensures;
  stay = All-nil (StaysIn (land_of c.args.world.now) (has_chunk (chunks_in c.args.touches.now.items)));
}

pub loop-entry-preserved : goal.loop-entry-preserved
loop-entry-preserved c =
    let w = land_of c.args.world.now in
    let es = c.args.entries.now in
    let i = c.loop-entry.entry-index in
    let e = get_or es i none in
    let old = c.loop-entry.touches.items in
    let new = c.touch_reach.new.touches.items in
    let inside = StaysIn w (has_chunk (chunks_in new)) in
    let covered = subst (λ r. All (IsCovered (positions_of c.args.world.now) new) (chunks_in_reach r)) c.reach_of-reach.ensures c.in_ok-touch_reach.ensures.covered in
    record {
      is_open = c.in_ok-touch_reach.ensures.gathered;
      noted = c.in_ok-touch_reach.ensures.noted;
      stay = subst (All inside) (sym (take_more es i none c.loop-entry-test.true)) (All-push inside (take i es) e (stay_more w old new (take i es) c.in_ok-touch_reach.ensures.kept c.loop-entry.invariant.stay) (stays w e new covered));
    }

pub returns-clause-stay : goal.returns-clause-stay
returns-clause-stay c =
    subst (All (StaysIn (land_of c.args.world.now) (has_chunk (chunks_in c.loop-entry.touches.items)))) (take_all c.loop-entry.entry-index c.args.entries.now c.loop-entry-test.false) c.loop-entry.invariant.stay
