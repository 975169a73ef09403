use Rattle.std.proofs.Common.{◌≡◌, ◌<◌, ◌≤◌, ℕ, length, slice_set, subst, sym, ap, refl, arith, rules, true, Option, IsTrue, All}
use Rattle.std.proofs.lemmas.Result.{on_ok_weaker}
use Rattle.av_types.specs.Positions.{is_section_of}
use Rattle.av_ticks.specs.Ticks.{entries, room}
use Rattle.av_section.specs.declared.section.Section.{Section}
use Rattle.av_cells.specs.Grid.{cells_of, Grid, is_here}
use Rattle.av_world.specs.Sections.{section_at, grid_of, lists_of, filling_in, CanSetIn}
use Rattle.av_world.specs.Changes.{HaveNumbers}
use Rattle.av_world.specs.Lawful.{IsTied}
use Rattle.av_world.proofs.Moved.{chunk_at, layer_of, section_was, section_is, grid_kept, each_moved, lists_kept, room_each, count_kept}
use Rattle.av_world.proofs.Kept.{keeps_prepared, have_numbers, have_if}
use Rattle.av_world.proofs.Tied.{lawful_same}
use Rattle.av_world.proofs.worlds.World.prepare_section.Goals as goal

pub invariant_of-self : goal.invariant_of-self
invariant_of-self c =
    let w = c.args.self.now in
    let h = w.height in let ps = w.positions.items in let cs = w.chunks.items in
    let s = c.args.at in let i = c.slot_of-chunk.result in let k = c.offset-offset.result in let chunk = c.index_mut.result.now in
    let below : i < length cs = search rules in
    let high : is_section_of h s.y ≡ true = search rules in
    let a = chunk_at h ps cs w.lawful s i k chunk c.slot_of-chunk.ensures below c.index_mut.ensures.value high c.offset-offset.ensures.value in
    let new = c.prepare_in.new.chunk in
    let same : grid_of h ps (slice_set cs i new) ≡ grid_of h ps cs = grid_kept h ps cs s i k chunk a new c.prepare_in.ensures.slots c.prepare_in.ensures.slot in
    record {
      lawful = lawful_same h ps cs i chunk new w.lawful (count_kept h ps cs s i k chunk a new c.prepare_in.ensures.slots)
          (lists_kept ps cs i chunk new a.here a.was (ap entries c.prepare_in.ensures.ticks))
          (subst (λ (g : Grid). IsTied (cells_of g) (lists_of ps cs)) (sym same) w.lawful.tied);
    }

pub returns-clause-kept : goal.returns-clause-kept
returns-clause-kept c =
    let w = c.args.self.now in
    let h = w.height in let ps = w.positions.items in let cs = w.chunks.items in
    let s = c.args.at in let i = c.slot_of-chunk.result in let k = c.offset-offset.result in let chunk = c.index_mut.result.now in
    let below : i < length cs = search rules in
    let high : is_section_of h s.y ≡ true = search rules in
    let a = chunk_at h ps cs w.lawful s i k chunk c.slot_of-chunk.ensures below c.index_mut.ensures.value high c.offset-offset.ensures.value in
    let new = c.prepare_in.new.chunk in
    record {
      height = refl;
      positions = refl;
      broken = refl;
      grid_is = grid_kept h ps cs s i k chunk a new c.prepare_in.ensures.slots c.prepare_in.ensures.slot;
      lists_are = lists_kept ps cs i chunk new a.here a.was (ap entries c.prepare_in.ensures.ticks);
      room_grows = λ d. room_each (λ (m n : ℕ). m ≤ n) (λ n. omega arith) ps cs i chunk new a.here a.was (let e = ap room c.prepare_in.ensures.ticks in omega (arith, e)) d;
      prepared = λ t. each_moved h ps cs s i k chunk a new c.prepare_in.ensures.slots (λ o p. (n : ℕ) → CanSetIn o n → CanSetIn p n) (λ o n g. g)
          (λ n g. keeps_prepared (layer_of chunk k) (layer_of new k) c.prepare_in.ensures.slot n g) t;
    }

pub returns-clause-prepared : goal.returns-clause-prepared
returns-clause-prepared c =
    let w = c.args.self.now in
    let h = w.height in let ps = w.positions.items in let cs = w.chunks.items in
    let s = c.args.at in let i = c.slot_of-chunk.result in let k = c.offset-offset.result in let chunk = c.index_mut.result.now in
    let below : i < length cs = search rules in
    let high : is_section_of h s.y ≡ true = search rules in
    let a = chunk_at h ps cs w.lawful s i k chunk c.slot_of-chunk.ensures below c.index_mut.ensures.value high c.offset-offset.ensures.value in
    let new = c.prepare_in.new.chunk in
    on_ok_weaker {P = HaveNumbers (layer_of new k) c.args.numbers.now} c.prepare_in.result (λ have here. have_numbers (section_at h ps (slice_set cs i new) s) c.args.numbers.now here (subst (λ (o : Option Section). HaveNumbers o c.args.numbers.now) (sym (section_is h ps cs s i k chunk a new c.prepare_in.ensures.slots)) have)) c.prepare_in.ensures.ok

pub returns-clause-succeeds : goal.returns-clause-succeeds
returns-clause-succeeds c =
    let w = c.args.self.now in
    let h = w.height in let ps = w.positions.items in let cs = w.chunks.items in
    let s = c.args.at in let i = c.slot_of-chunk.result in let k = c.offset-offset.result in let chunk = c.index_mut.result.now in
    let below : i < length cs = search rules in
    let high : is_section_of h s.y ≡ true = search rules in
    let a = chunk_at h ps cs w.lawful s i k chunk c.slot_of-chunk.ensures below c.index_mut.ensures.value high c.offset-offset.ensures.value in
    λ ready. c.prepare_in.ensures.succeeds
    (have_if (layer_of chunk k) c.args.numbers.now (subst (λ (o : Option Section). IsTrue (is_here (filling_in o)) → All (CanSetIn o) c.args.numbers.now) (section_was h ps cs s i k chunk a) ready))
