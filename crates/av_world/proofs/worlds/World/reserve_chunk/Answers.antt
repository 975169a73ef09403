use Rattle.std.proofs.Common.{◌≡◌, ◌<◌, ◌≤◌, ℕ, length, slice_get, slice_set, Some, subst, sym, ap, ◌∙◌, refl, arith, rules}
use Rattle.std.proofs.lemmas.Option.{slice_get_read}
use Rattle.std.proofs.lemmas.Result.{on_ok_weaker}
use Rattle.av_chunk.specs.declared.chunk.Chunk.{Chunk}
use Rattle.av_ticks.specs.Ticks.{room}
use Rattle.av_cells.specs.Grid.{cells_of}
use Rattle.av_world.specs.Index.{slot}
use Rattle.av_world.specs.Sections.{section_at, filling_in, lists_of, room_in, CanSetIn}
use Rattle.av_world.specs.Lawful.{IsTied}
use Rattle.av_world.proofs.Moved.{sections_same, lists_kept, room_each, get_set_same}
use Rattle.av_world.proofs.Tied.{lawful_same}
use Rattle.av_world.proofs.worlds.World.reserve_chunk.Goals as goal

pub invariant_of-self : goal.invariant_of-self
invariant_of-self c =
    let w = c.args.self.now in
    let h = w.height in let ps = w.positions.items in let cs = w.chunks.items in
    let i = c.chunk_slot-chunk.result in let chunk = c.index_mut.result.now in let new = c.reserve_in.new.chunk in
    let below : i < length cs = search rules in
    let was : slice_get cs i ≡ Some chunk = slice_get_read cs (length cs) i chunk refl below c.index_mut.ensures.value in
    let kept : lists_of ps (slice_set cs i new) ≡ lists_of ps cs = lists_kept ps cs i chunk new below was c.reserve_in.ensures.entries in
    let same : section_at h ps (slice_set cs i new) ≡ section_at h ps cs = sections_same h ps cs i chunk new below was c.reserve_in.ensures.sections in
    record {
      lawful = lawful_same h ps cs i chunk new w.lawful
          (ap (λ s. length s.items) c.reserve_in.ensures.sections ∙ subst (λ (d : Chunk). length d.sections.items ≡ h.sections) (sym c.index_mut.ensures.value) (w.lawful.whole i chunk below)) kept
          (subst (λ s. IsTied (cells_of (λ t. filling_in (s t))) (lists_of ps cs)) (sym same) w.lawful.tied);
    }

pub returns-clause-kept : goal.returns-clause-kept
returns-clause-kept c =
    let w = c.args.self.now in
    let h = w.height in let ps = w.positions.items in let cs = w.chunks.items in
    let i = c.chunk_slot-chunk.result in let chunk = c.index_mut.result.now in let new = c.reserve_in.new.chunk in
    let below : i < length cs = search rules in
    let was : slice_get cs i ≡ Some chunk = slice_get_read cs (length cs) i chunk refl below c.index_mut.ensures.value in
    let same : section_at h ps (slice_set cs i new) ≡ section_at h ps cs = sections_same h ps cs i chunk new below was c.reserve_in.ensures.sections in
    record {
      height = refl;
      positions = refl;
      broken = refl;
      grid_is = ap (λ s t. filling_in (s t)) same;
      lists_are = lists_kept ps cs i chunk new below was c.reserve_in.ensures.entries;
      room_grows = λ d. room_each (λ (m n : ℕ). m ≤ n) (λ n. omega arith) ps cs i chunk new below was c.reserve_in.ensures.grows d;
      prepared = λ s n g. subst (λ f. CanSetIn (f s) n) (sym same) g;
    }

pub returns-clause-room : goal.returns-clause-room
returns-clause-room c =
    let w = c.args.self.now in
    let ps = w.positions.items in let cs = w.chunks.items in
    let i = c.chunk_slot-chunk.result in let new = c.reserve_in.new.chunk in
    let below : i < length cs = search rules in
    let index : i ≡ slot ps c.args.at = search rules in
    on_ok_weaker {P = c.args.count ≤ room new.ticks} c.reserve_in.result (λ h there. subst (λ j. c.args.count ≤ room_in (slice_get (slice_set cs i new) j)) index (rw (get_set_same cs i new below) h)) c.reserve_in.ensures.ok

pub returns-clause-succeeds : goal.returns-clause-succeeds
returns-clause-succeeds c =
    let w = c.args.self.now in
    let ps = w.positions.items in let cs = w.chunks.items in
    let i = c.chunk_slot-chunk.result in let chunk = c.index_mut.result.now in
    let below : i < length cs = search rules in
    let was : slice_get cs i ≡ Some chunk = slice_get_read cs (length cs) i chunk refl below c.index_mut.ensures.value in
    let index : i ≡ slot ps c.args.at = search rules in
    λ h. c.reserve_in.ensures.succeeds (subst (λ o. c.args.count ≤ room_in o) was (subst (λ j. c.args.count ≤ room_in (slice_get cs j)) (sym index) h))
