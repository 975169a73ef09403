-- The indices are unpacked, and each number is written at its first place.
use Rattle.std.proofs.Common.{◌≡◌, ◌<◌, ◌∙◌, sym, ap, subst, length, map, arith}
use Rattle.std.specs.Prelude.{slice_index_or}
use Rattle.av_pack.specs.Packing.{unpacked}
use Rattle.av_pack.proofs.Laws.{length-unpacked, get_or-unpacked}
use Rattle.av_state.specs.BlockState.{air}
use Rattle.av_state.specs.Table.{states}
use Rattle.av_section.specs.Palette.{states_tag}
use Rattle.av_section.specs.BlockStates.{indices_tag}
use Rattle.av_section.proofs.WrittenStates.{writes_section}
use Rattle.av_section.proofs.section.Section.write_reordered.Goals as goal

pub written_order-requires-clause-below : goal.written_order-requires-clause-below
written_order-requires-clause-below c k d low =
    let s = c.args.self.now in
    let values = c.as_slice-3.ensures.value ∙ c.in_ok-indices.ensures ∙ ap (unpacked s.bits) c.as_slice.ensures.value in
    let place : k < 4096 = subst (λ n. k < n) (ap length values ∙ length-unpacked s.bits s.longs.items) low in
    rw (values, c.as_slice-2.ensures.value, get_or-unpacked s.bits s.longs.items k d place) (s.packed.below k place)

pub written_order-requires-clause-few : goal.written_order-requires-clause-few
written_order-requires-clause-few c =
    let s = c.args.self.now in
    let values = c.as_slice-3.ensures.value ∙ c.in_ok-indices.ensures ∙ ap (unpacked s.bits) c.as_slice.ensures.value in
    omega (arith, ap length values, length-unpacked s.bits s.longs.items)

pub palette_tag-requires : goal.palette_tag-requires
palette_tag-requires c =
    let s = c.args.self.now in
    let values = c.as_slice-3.ensures.value ∙ c.in_ok-indices.ensures ∙ ap (unpacked s.bits) c.as_slice.ensures.value in
    let written = rw (values, c.as_slice-2.ensures.value) at c.in_ok-order.ensures in
    rw c.as_slice-4.ensures.value ((writes_section (states c.args.table.now) s c.in_ok-order.order.numbers.items c.in_ok-order.order.indices.items c.args.table.now.numbered c.requires.below written).below)

pub indices_tag-requires-clause-long : goal.indices_tag-requires-clause-long
indices_tag-requires-clause-long c =
    let s = c.args.self.now in
    let values = c.as_slice-3.ensures.value ∙ c.in_ok-indices.ensures ∙ ap (unpacked s.bits) c.as_slice.ensures.value in
    let written = rw (values, c.as_slice-2.ensures.value) at c.in_ok-order.ensures in
    let all = writes_section (states c.args.table.now) s c.in_ok-order.order.numbers.items c.in_ok-order.order.indices.items c.args.table.now.numbered c.requires.below written in
    ap length c.as_slice-5.ensures.value ∙ all.long

pub indices_tag-requires-clause-few : goal.indices_tag-requires-clause-few
indices_tag-requires-clause-few c =
    let s = c.args.self.now in
    let values = c.as_slice-3.ensures.value ∙ c.in_ok-indices.ensures ∙ ap (unpacked s.bits) c.as_slice.ensures.value in
    let written = rw (values, c.as_slice-2.ensures.value) at c.in_ok-order.ensures in
    let all = writes_section (states c.args.table.now) s c.in_ok-order.order.numbers.items c.in_ok-order.order.indices.items c.args.table.now.numbered c.requires.below written in
    omega (arith, c.len.ensures, all.short)

pub indices_tag-requires-clause-below : goal.indices_tag-requires-clause-below
indices_tag-requires-clause-below c =
    let s = c.args.self.now in
    let values = c.as_slice-3.ensures.value ∙ c.in_ok-indices.ensures ∙ ap (unpacked s.bits) c.as_slice.ensures.value in
    let written = rw (values, c.as_slice-2.ensures.value) at c.in_ok-order.ensures in
    let all = writes_section (states c.args.table.now) s c.in_ok-order.order.numbers.items c.in_ok-order.order.indices.items c.args.table.now.numbered c.requires.below written in
    let count : c.len.result ≡ length c.in_ok-order.order.numbers.items = omega (arith, c.len.ensures) in
    rw (count, c.as_slice-5.ensures.value) all.found_below

pub returns-clause-palette : goal.returns-clause-palette
returns-clause-palette c =
    let s = c.args.self.now in
    let values = c.as_slice-3.ensures.value ∙ c.in_ok-indices.ensures ∙ ap (unpacked s.bits) c.as_slice.ensures.value in
    let written = rw (values, c.as_slice-2.ensures.value) at c.in_ok-order.ensures in
    let all = writes_section (states c.args.table.now) s c.in_ok-order.order.numbers.items c.in_ok-order.order.indices.items c.args.table.now.numbered c.requires.below written in
    let numbers = ap (λ ns. states_tag (map (λ n. slice_index_or (states c.args.table.now) n air) ns)) c.as_slice-4.ensures.value in
    c.in_ok-palette.ensures ∙ numbers ∙ sym all.palette

pub returns-clause-longs : goal.returns-clause-longs
returns-clause-longs c =
    let s = c.args.self.now in
    let values = c.as_slice-3.ensures.value ∙ c.in_ok-indices.ensures ∙ ap (unpacked s.bits) c.as_slice.ensures.value in
    let written = rw (values, c.as_slice-2.ensures.value) at c.in_ok-order.ensures in
    let all = writes_section (states c.args.table.now) s c.in_ok-order.order.numbers.items c.in_ok-order.order.indices.items c.args.table.now.numbered c.requires.below written in
    let count : c.len.result ≡ length c.in_ok-order.order.numbers.items = omega (arith, c.len.ensures) in
    c.in_ok-longs.ensures.ok ∙ ap (λ n. indices_tag n c.as_slice-5.result.now) count ∙ ap (indices_tag (length c.in_ok-order.order.numbers.items)) c.as_slice-5.ensures.value ∙ sym all.indices
