-- The slot leads to the section, or to another.
use Rattle.std.proofs.Common.{◌≡◌, ◌≢◌, ◌<◌, ◌∙◌, true, false, sym, ap, length, get_or, arith}
use Rattle.std.specs.BTreeMap.{get}
use Rattle.std.proofs.lemmas.List.{get_or_read}
use Rattle.av_cluster.specs.Indices.{key_cmp, slot_of}
use Rattle.av_cluster.specs.Joining.{key_of, same_key}
use Rattle.av_cluster.proofs.Slotted.{compared, led}
use Rattle.av_cluster.proofs.owners.Owners.index.Goals as goal

pub returns-then-eq : goal.returns-then-eq
returns-then-eq c =
    let s = c.args.self.now in
    let k = key_of c.args.section in
    let n = c.index-next.result.now in
    let x = c.index.result.now in
    let many : c.len.result ≡ length s.slots.items = c.len.ensures ∙ s.slots.ok.0 in
    let low : c.slot.result < length s.slots.items = omega (arith, c.slot.ensures.bound, many) in
    let is : n ≡ get_or s.slots.items (slot_of (length s.slots.items) k) 0 =
    get_or_read s.slots.items c.slot.result n low c.index-next.ensures 0 ∙ ap (λ i. get_or s.slots.items i 0) (c.slot.ensures.value ∙ ap (λ m. slot_of m k) many) in
    let some : n ≢ 0 = λ e. absurd (omega (arith, c.if-next-eq0.false, e)) in
    let same : same_key k x.0 ≡ true = sym (compared c.of_key.result c.args.section x.0 c.of_key.ensures) ∙ sym c.eq.ensures ∙ c.if-eq.true in
    sym (led s.slots.items (get key_cmp s.others) s.entries.items k n x true s.slotted is some c.index.ensures same)

pub returns : goal.returns
returns c =
    let s = c.args.self.now in
    let k = key_of c.args.section in
    let n = c.index-next.result.now in
    let x = c.index.result.now in
    let many : c.len.result ≡ length s.slots.items = c.len.ensures ∙ s.slots.ok.0 in
    let low : c.slot.result < length s.slots.items = omega (arith, c.slot.ensures.bound, many) in
    let is : n ≡ get_or s.slots.items (slot_of (length s.slots.items) k) 0 =
    get_or_read s.slots.items c.slot.result n low c.index-next.ensures 0 ∙ ap (λ i. get_or s.slots.items i 0) (c.slot.ensures.value ∙ ap (λ m. slot_of m k) many) in
    let some : n ≢ 0 = λ e. absurd (omega (arith, c.if-next-eq0.false, e)) in
    let other : same_key k x.0 ≡ false = sym (compared c.of_key.result c.args.section x.0 c.of_key.ensures) ∙ sym c.eq.ensures ∙ c.if-eq.false in
    c.copied.ensures ∙ c.get.ensures.value ∙ ap (get key_cmp s.others) c.key.ensures ∙ sym (led s.slots.items (get key_cmp s.others) s.entries.items k n x false s.slotted is some c.index.ensures other)
