-- The number of the place's index.
use Rattle.std.proofs.Common.{◌≡◌, ◌<◌, ◌∙◌, length}
use Rattle.std.proofs.lemmas.Bool.{lt-ltb}
use Rattle.std.proofs.lemmas.List.{get_or_read}
use Rattle.av_pack.specs.Packing.{packed_at}
use Rattle.av_section.proofs.section.Section.get.Goals as goal

pub returns : goal.returns
returns c =
    let s = c.args.self.now in
    let place = c.args.place.index in
    let index : c.from.result ≡ packed_at s.bits s.longs.items place = c.from.ensures ∙ rw c.as_slice.ensures.value at c.get_at.ensures.value in
    let within : packed_at s.bits s.longs.items place < length s.palette.items = s.packed.below place c.args.place.in_range in
    rw (lt-ltb place 4096 c.args.place.in_range) (get_or_read s.palette.items _ _ within (rw index at c.index-2.ensures) 0)
