use Rattle.std.proofs.Common.{◌≡◌, ◌<◌, pos, None, length, take, get_or, sym, ap, ◌∙◌, arith, rules, w32, FitsSigned, to_z-of_z, add-one, drop-cons, length-set}
use Rattle.std.proofs.Math.Seq.{take-suc}
use Rattle.std.proofs.lemmas.List.{get_or_default}
use Rattle.std.proofs.lemmas.Bool.{and_parts}
use Rattle.av_types.specs.Division.{divided}
use Rattle.av_types.specs.Positions.{place_of, section_index}
use Rattle.av_types.specs.declared.tick.Entry.{Entry}
use Rattle.av_codec.specs.Pending.{SlotPending}
use Rattle.av_codec.proofs.Marking.{MarksPending-step}
use Rattle.av_codec.proofs.reading.pending.mark_pending.Goals as goal

pub loop-entry-preserved : goal.loop-entry-preserved
loop-entry-preserved c =
    let inv = c.loop-entry.invariant in
    let h = c.args.height in
    let es = c.args.entries.now in
    let n = c.loop-entry.entry-index in
    let k = c.section_index-index.result in
    let xs = c.loop-entry.sections.items in
    let none : Entry = record { pos = record { x = pos 0; y = pos 0; z = pos 0 }; due = pos 0; priority = pos 0 } in
    let e : Entry = get_or es n none in
    let fits : FitsSigned w32 c.section.result.y = search rules in
    let y : c.section.result.y ≡ divided e.pos.y 16 = ap (λ s. s.y) c.section.ensures in
    let is : section_index h (divided e.pos.y 16) ≡ k = sym (c.section_index-index.ensures.value ∙ ap (section_index h) (to_z-of_z fits ∙ y)) in
    let within : n < length es = omega arith in
    let bound : k < length xs = omega arith in
    let value : get_or xs k None ≡ c.index_mut.result.now = get_or_default xs k None c.index_mut.result.now bound ∙ sym c.index_mut.ensures.value in
    let slot : SlotPending (get_or xs k None) c.set_pending.new.slot (place_of e.pos) = rw (value, ← c.place.ensures) c.set_pending.ensures in
    record {
      count = length-set xs k c.set_pending.new.slot ∙ inv.count;
      inside = rw add-one (and_parts _ _ (rw (drop-cons es n none) at inv.inside)).1;
      marked = rw (add-one, take-suc es n none) (MarksPending-step h (take n es) e c.args.sections.now.items xs c.set_pending.new.slot k is bound slot inv.marked);
    }
