use Rattle.std.proofs.Common.{◌∙◌, ap, length, map, option_map, sym}
use Rattle.std.proofs.lemmas.List.{length-map}
use Rattle.av_codec.proofs.Found.{if_ok_then}
use Rattle.av_codec.specs.Writing.{states_of_kinds}
use Rattle.av_rewrite.specs.Rewriting.{AreSlots, IsRewritten}
use Rattle.av_rewrite.proofs.Whole.{made_region}
use Rattle.av_rewrite.proofs.rewriting.rewrite.Goals as goal

pub write_slots-requires : goal.write_slots-requires
write_slots-requires c = record {
  height = c.args.height;
  region = c.args.bytes.now;
  count = 1024;
  are_slots = rw (c.in_ok-region.ensures.ok, ← c.in_ok-kinds.ensures.table) at c.in_ok-slots.ensures;
  lit = c.in_ok-light.ensures.sections;
}

pub write-requires-clause-payloads : goal.write-requires-clause-payloads
write-requires-clause-payloads c =
    let slots : AreSlots c.args.height c.args.bytes.now (states_of_kinds c.in_ok-kinds.kinds) 1024 c.in_ok-slots.slots.items =
    rw (c.in_ok-region.ensures.ok, ← c.in_ok-kinds.ensures.table) at c.in_ok-slots.ensures in
    let made = c.in_ok-payloads.ensures c.args.height c.args.bytes.now 1024 slots in
    ap length c.as_slice.ensures.value ∙ (sym (length-map c.in_ok-payloads.payloads.items (option_map (λ v. v.items))) ∙ made.many)

pub returns : goal.returns
returns c =
    let slots : AreSlots c.args.height c.args.bytes.now (states_of_kinds c.in_ok-kinds.kinds) 1024 c.in_ok-slots.slots.items =
    rw (c.in_ok-region.ensures.ok, ← c.in_ok-kinds.ensures.table) at c.in_ok-slots.ensures in
    if_ok_then c.write.result c.write.ensures.holds
    (λ file holds. made_region (IsRewritten c.args.height) c.args.bytes.now file.items (map (option_map (λ v. v.items)) c.in_ok-payloads.payloads.items) c.in_ok-stamps.stamps.items
    (c.in_ok-payloads.ensures c.args.height c.args.bytes.now 1024 slots)
    (rw c.in_ok-region.ensures.ok at c.in_ok-stamps.ensures)
    (rw (c.as_slice.ensures.value, c.as_slice-2.ensures.value) at holds))
