-- The longs hold the indices as they are.
use Rattle.std.proofs.Common.{◌≡◌, ◌∙◌, ap, subst, sym, length, arith, refl, IfOk}
use Rattle.std.proofs.lemmas.Bool.{lt-ltb}
use Rattle.av_pack.specs.Packing.{bits_for, unpacked}
use Rattle.av_section.specs.Distinct.{AreEachOnce}
use Rattle.av_section.specs.Indexed.{HasNumbers}
use Rattle.av_section.proofs.FromLongs.{from_longs, packed_as_is}
use Rattle.av_section.proofs.Ranking.{ranked_numbers}
use Rattle.av_section.proofs.Ready.{none_below}
use Rattle.av_section.proofs.section.Section.indexed.Goals as goal

pub repeated-requires-clause-palette : goal.repeated-requires-clause-palette
repeated-requires-clause-palette c =
    let numbers = c.args.numbers.items in
    let once = c.in_ok-once.once.numbers.items in
    let ranks = c.in_ok-once.once.ranks.items in
    let p = c.in_ok-once.ensures.ranks in
    subst (λ ns. AreEachOnce ns once) (sym (ranked_numbers numbers once ranks p)) c.in_ok-once.ensures.numbers

pub returns-then-len : goal.returns-then-len
returns-then-len c =
    let numbers = c.args.numbers.items in
    let once = c.in_ok-once.once.numbers.items in
    let ranks = c.in_ok-once.once.ranks.items in
    let p = c.in_ok-once.ensures.ranks in
    let longs = c.args.longs.now in
    let named = subst (λ ns. IfOk c.repeated.result (HasNumbers ns (unpacked (bits_for (length ranks)) longs))) (ranked_numbers numbers once ranks p) c.repeated.ensures.ok in
    record { ok = subst (λ n. IfOk c.repeated.result (HasNumbers numbers (unpacked (bits_for n) longs))) p.count named }

pub invariant_of-result-clause-packed : goal.invariant_of-result-clause-packed
invariant_of-result-clause-packed c =
    let numbers = c.args.numbers.items in
    let once = c.in_ok-once.once.numbers.items in
    let ranks = c.in_ok-once.once.ranks.items in
    let p = c.in_ok-once.ensures.ranks in
    let indices = unpacked (bits_for (length numbers)) c.args.longs.now in
    let f = from_longs (length numbers) c.args.longs.now indices c.requires.indices in
    let same : length once ≡ length numbers = omega (arith, c.len.ensures, c.len-2.ensures, c.if-len.false, p.count) in
    let long : c.len-3.result ≡ length numbers = omega (arith, c.len-3.ensures, same) in
    let needed = c.bits_for.ensures.value ∙ ap bits_for long in
    rw c.in_ok-from_slice.ensures.items (packed_as_is numbers once indices c.args.longs.now c.bits_for.result c.in_ok-once.ensures.numbers same c.requires.few needed f)

pub invariant_of-result-clause-known : goal.invariant_of-result-clause-known
invariant_of-result-clause-known c = none_below c.in_ok-once.once.numbers.items

pub returns : goal.returns
returns c =
    let numbers = c.args.numbers.items in
    let once = c.in_ok-once.once.numbers.items in
    let ranks = c.in_ok-once.once.ranks.items in
    let p = c.in_ok-once.ensures.ranks in
    let indices = unpacked (bits_for (length numbers)) c.args.longs.now in
    let f = from_longs (length numbers) c.args.longs.now indices c.requires.indices in
    let same : length once ≡ length numbers = omega (arith, c.len.ensures, c.len-2.ensures, c.if-len.false, p.count) in
    let long : c.len-3.result ≡ length numbers = omega (arith, c.len-3.ensures, same) in
    let needed = c.bits_for.ensures.value ∙ ap bits_for long in
    let palette = c.in_ok-once.ensures.numbers.same same in
    record {
      ok = record {
        numbers_are = λ i low. rw (lt-ltb i 4096 low, c.in_ok-from_slice.ensures.items, palette, needed, f.entries i 0 low) refl;
        pending = c.in_ok-boxed.ensures;
      };
    }
