use Rattle.std.proofs.Common.{◌∙◌, sym, subst, ◌≡◌, List, All, IsTrue, false}
use Rattle.std.specs.List.{AllPairs}
use Rattle.std.proofs.lemmas.List.Elements.{All-from_recursion}
use Rattle.av_types.specs.declared.tick.Made.{Made}
use Rattle.av_rules.specs.Kinds.{kind_count}
use Rattle.av_cells.specs.Kinds.{kinds_of}
use Rattle.av_cells.specs.Positions.{same_pos}
use Rattle.av_cells.specs.World.{listed_all}
use Rattle.av_rules.proofs.KindFacts.{are_kinds}
use Rattle.av_world.specs.Appended.{entries_made, with_entries}
use Rattle.av_world.specs.Views.{blocks, grid, lists}
use Rattle.av_serial.proofs.Keeps.{ready_on}
use Rattle.av_crew.proofs.Appended.{all_fresh, all_apart}
use Rattle.av_crew.proofs.DueParts.{all_loaded}
use Rattle.av_crew.proofs.Cut.{cut_is}
use Rattle.av_crew.proofs.Ticked.{same_site, ticked_land, ticked_loaded, ticked_known}
use Rattle.av_crew.proofs.ticks.turn_planned.Goals as goal

pub turn_parts-requires-clause-cut : goal.turn_parts-requires-clause-cut
turn_parts-requires-clause-cut g c κs within =
    let es = c.args.entries.now in (
      es,
      cut_is (grid c.args.world.now) es c.args.clusters.items c.requires.planned,
      all_loaded (blocks c.args.world.now).loaded es c.requires.loaded,
    )

pub append-requires-clause-loaded : goal.append-requires-clause-loaded
append-requires-clause-loaded g c =
    let es = c.args.entries.now in
    let cut = cut_is (grid c.args.world.now) es c.args.clusters.items c.requires.planned in
    λ u. subst (λ (ms : List Made). All (λ m. IsTrue ((blocks c.turn_parts.new.world).loaded m.entry.pos)) ms) (sym c.as_slice.ensures.value)
    (All-from_recursion _ c.in-Ok.made.items (c.in-Ok.ensures.ok es cut).loaded)

pub append-requires-clause-fresh : goal.append-requires-clause-fresh
append-requires-clause-fresh g c =
    let es = c.args.entries.now in
    let cut = cut_is (grid c.args.world.now) es c.args.clusters.items c.requires.planned in
    λ u. subst (λ (ms : List Made). All (λ m. (blocks c.turn_parts.new.world).pending m.entry.pos ≡ false) ms) (sym c.as_slice.ensures.value)
    (all_fresh (blocks c.turn_parts.new.world) c.in-Ok.made.items (c.in-Ok.ensures.ok es cut).fresh)

pub append-requires-clause-distinct : goal.append-requires-clause-distinct
append-requires-clause-distinct g c =
    let es = c.args.entries.now in
    let cut = cut_is (grid c.args.world.now) es c.args.clusters.items c.requires.planned in
    λ u. subst (λ (ms : List Made). AllPairs (λ a b. same_pos b.entry.pos a.entry.pos ≡ false) ms) (sym c.as_slice.ensures.value)
    (all_apart (blocks c.turn_parts.new.world) c.in-Ok.made.items (c.in-Ok.ensures.ok es cut).fresh)

pub returns-clause-done : goal.returns-clause-done
returns-clause-done g c =
    let es = c.args.entries.now in
    let old = c.args.world.now in
    let cut = cut_is (grid old) es c.args.clusters.items c.requires.planned in
    ticked_land (kinds_of c.args.kinds.now) c.args.now es old c.turn_parts.new.world c.append.new.self c.in-Ok.made.items c.turn_parts.ensures.same (c.in-Ok.ensures.ok es cut) c.append.ensures.site
    (rw (sym c.as_slice.ensures.value) c.in-Ok-append.ensures.blocks) (rw (sym c.as_slice.ensures.value) c.in-Ok-append.ensures.lists) c.requires.ready.whole

pub returns-clause-chunks : goal.returns-clause-chunks
returns-clause-chunks g c =
    let es = c.args.entries.now in
    let old = c.args.world.now in
    let cut = cut_is (grid old) es c.args.clusters.items c.requires.planned in
    record {
      site_is = c.append.ensures.site ∙ same_site old c.turn_parts.new.world c.turn_parts.ensures.same;
      loaded_is = ticked_loaded (kinds_of c.args.kinds.now) c.args.now es old c.turn_parts.new.world c.append.new.self c.in-Ok.made.items c.turn_parts.ensures.same (c.in-Ok.ensures.ok es cut) c.append.ensures.site
          (rw (sym c.as_slice.ensures.value) c.in-Ok-append.ensures.blocks) (rw (sym c.as_slice.ensures.value) c.in-Ok-append.ensures.lists);
    }

pub returns-clause-ready : goal.returns-clause-ready
returns-clause-ready g c =
    let k = kinds_of c.args.kinds.now in
    let n = kind_count c.args.kinds.now in
    let es = c.args.entries.now in
    let old = c.args.world.now in
    let new = c.append.new.self in
    let cut = cut_is (grid old) es c.args.clusters.items c.requires.planned in
    let gath = c.in-Ok.ensures.ok es cut in
    let b : blocks new ≡ with_entries (blocks c.turn_parts.new.world) (entries_made c.in-Ok.made.items) = rw (sym c.as_slice.ensures.value) c.in-Ok-append.ensures.blocks in
    let l : lists new ≡ listed_all (lists c.turn_parts.new.world) (entries_made c.in-Ok.made.items) = rw (sym c.as_slice.ensures.value) c.in-Ok-append.ensures.lists in
    ready_on n old new (c.append.ensures.site ∙ same_site old c.turn_parts.new.world c.turn_parts.ensures.same)
    (ticked_loaded k c.args.now es old c.turn_parts.new.world new c.in-Ok.made.items c.turn_parts.ensures.same gath c.append.ensures.site b l)
    (ticked_known k c.args.now es old c.turn_parts.new.world new c.in-Ok.made.items c.turn_parts.ensures.same gath c.append.ensures.site b l n (are_kinds c.args.kinds.now).at_least_ten c.requires.ready.numbers)
    c.requires.ready
