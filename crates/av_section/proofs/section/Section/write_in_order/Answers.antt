-- The palette stands as it is written, and so do the indices.
use Rattle.std.proofs.Common.{◌<◌, ◌∙◌, sym, ap, length, map, arith, if◌then◌else◌, Some, None}
use Rattle.std.specs.Prelude.{slice_index_or}
use Rattle.std.proofs.lemmas.Bool.{lt-ltb}
use Rattle.av_tags.specs.Nbt.{long_array}
use Rattle.av_pack.specs.Packing.{bits_for, packed, unpacked}
use Rattle.av_state.specs.BlockState.{air}
use Rattle.av_state.specs.Table.{states}
use Rattle.av_section.specs.Palette.{states_tag}
use Rattle.av_section.proofs.FirstUse.{written_in_order, unpacked_below}
use Rattle.av_section.proofs.WrittenStates.{writes_section}
use Rattle.av_section.proofs.section.Section.write_in_order.Goals as goal

pub palette_tag-requires : goal.palette_tag-requires
palette_tag-requires c =
    let s = c.args.self.now in
    let written = written_in_order s.palette.items (unpacked s.bits s.longs.items) s.packed.distinct s.packed.few (unpacked_below s.palette.items s.longs.items s.bits s.packed) c.requires.ordered in
    rw c.as_slice.ensures.value ((writes_section (states c.args.table.now) s s.palette.items (unpacked s.bits s.longs.items) c.args.table.now.numbered c.requires.below written).below)

pub returns-clause-palette : goal.returns-clause-palette
returns-clause-palette c =
    let s = c.args.self.now in
    let written = written_in_order s.palette.items (unpacked s.bits s.longs.items) s.packed.distinct s.packed.few (unpacked_below s.palette.items s.longs.items s.bits s.packed) c.requires.ordered in
    let all = writes_section (states c.args.table.now) s s.palette.items (unpacked s.bits s.longs.items) c.args.table.now.numbered c.requires.below written in
    let numbers = ap (λ ns. states_tag (map (λ n. slice_index_or (states c.args.table.now) n air) ns)) c.as_slice.ensures.value in
    c.in_ok-palette.ensures ∙ numbers ∙ sym all.palette

pub returns-clause-longs : goal.returns-clause-longs
returns-clause-longs c =
    let s = c.args.self.now in
    let written = written_in_order s.palette.items (unpacked s.bits s.longs.items) s.packed.distinct s.packed.few (unpacked_below s.palette.items s.longs.items s.bits s.packed) c.requires.ordered in
    let all = writes_section (states c.args.table.now) s s.palette.items (unpacked s.bits s.longs.items) c.args.table.now.numbered c.requires.below written in
    let some : 0 < length s.palette.items = omega (arith, s.packed.below 0 (omega arith)) in
    let many : 1 < length s.palette.items = omega (arith, some, c.requires.several) in
    let tag = c.long_array.ensures ∙ ap long_array (c.in_ok-longs.ensures ∙ ap (λ ls. packed s.bits (unpacked s.bits ls)) c.as_slice-2.ensures.value ∙ ap (λ b. packed b (unpacked s.bits s.longs.items)) s.packed.bits_are) in
    ap Some tag
    ∙ sym (ap (λ b. if b then Some (long_array (packed (bits_for (length s.palette.items)) (unpacked s.bits s.longs.items))) else None) (lt-ltb 1 (length s.palette.items) many))
    ∙ sym all.indices
