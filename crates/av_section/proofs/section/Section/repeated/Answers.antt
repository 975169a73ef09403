-- The indices that the longs hold get the ranks of their numbers.
use Rattle.std.proofs.Common.{◌≡◌, ◌<◌, ◌≤◌, ◌^◌, ◌∙◌, ap, subst, length, map, get_or, All, arith}
use Rattle.std.specs.Prelude.{slice_index}
use Rattle.std.proofs.lemmas.Bool.{lt-ltb}
use Rattle.std.proofs.lemmas.List.{length-map}
use Rattle.std.proofs.lemmas.List.Elements.{All-weaker}
use Rattle.av_pack.specs.Packing.{bits_for, unpacked}
use Rattle.av_section.specs.WrittenPalette.{numbers_of}
use Rattle.av_section.proofs.FromLongs.{from_longs, ranked_below, packed_ranks, number_ranked}
use Rattle.av_section.proofs.Ranking.{own_ranks}
use Rattle.av_section.proofs.Ready.{none_below}
use Rattle.av_section.proofs.section.Section.repeated.Goals as goal

pub pack-requires-clause-count : goal.pack-requires-clause-count
pack-requires-clause-count c =
    let once = c.args.once.numbers.items in
    let ranks = c.args.once.ranks.items in
    let indices = unpacked (bits_for (length ranks)) c.args.longs.now in
    let f = from_longs (length ranks) c.args.longs.now indices c.requires.indices in
    let p = own_ranks once ranks c.requires.ranks in
    let below = subst (λ n. All (λ i. i < n) indices) p.count f.below in
    let long : c.len.result ≡ length ranks = omega (arith, c.len.ensures) in
    let held : c.in_ok-indices.indices.items ≡ indices = c.in_ok-indices.ensures ∙ ap (λ b. unpacked b c.args.longs.now) (c.bits_for.ensures.value ∙ ap bits_for long) in
    let values = c.as_slice-2.ensures.value ∙ c.mapped-indices.ensures ∙ ap (λ l. map (slice_index l) c.in_ok-indices.indices.items) c.as_slice.ensures.value ∙ ap (map (slice_index ranks)) held in
    ap length values ∙ length-map indices (slice_index ranks) ∙ f.long

pub pack-requires-clause-fit : goal.pack-requires-clause-fit
pack-requires-clause-fit c =
    let once = c.args.once.numbers.items in
    let ranks = c.args.once.ranks.items in
    let indices = unpacked (bits_for (length ranks)) c.args.longs.now in
    let f = from_longs (length ranks) c.args.longs.now indices c.requires.indices in
    let p = own_ranks once ranks c.requires.ranks in
    let below = subst (λ n. All (λ i. i < n) indices) p.count f.below in
    let long : c.len.result ≡ length ranks = omega (arith, c.len.ensures) in
    let held : c.in_ok-indices.indices.items ≡ indices = c.in_ok-indices.ensures ∙ ap (λ b. unpacked b c.args.longs.now) (c.bits_for.ensures.value ∙ ap bits_for long) in
    let values = c.as_slice-2.ensures.value ∙ c.mapped-indices.ensures ∙ ap (λ l. map (slice_index l) c.in_ok-indices.indices.items) c.as_slice.ensures.value ∙ ap (map (slice_index ranks)) held in
    let fit : length once ≤ 2 ^ c.bits_for-bits.result = omega (arith, c.len-2.ensures, c.bits_for-bits.ensures.enough) in
    rw values (All-weaker (λ v. v < length once) (λ v. v < 2 ^ c.bits_for-bits.result) (λ v h. omega (arith, fit, h)) (map (λ i. get_or ranks i 0) indices) (ranked_below once (numbers_of once ranks) ranks indices p below))

pub invariant_of-result-clause-packed : goal.invariant_of-result-clause-packed
invariant_of-result-clause-packed c =
    let once = c.args.once.numbers.items in
    let ranks = c.args.once.ranks.items in
    let indices = unpacked (bits_for (length ranks)) c.args.longs.now in
    let f = from_longs (length ranks) c.args.longs.now indices c.requires.indices in
    let p = own_ranks once ranks c.requires.ranks in
    let below = subst (λ n. All (λ i. i < n) indices) p.count f.below in
    let long : c.len.result ≡ length ranks = omega (arith, c.len.ensures) in
    let held : c.in_ok-indices.indices.items ≡ indices = c.in_ok-indices.ensures ∙ ap (λ b. unpacked b c.args.longs.now) (c.bits_for.ensures.value ∙ ap bits_for long) in
    let values = c.as_slice-2.ensures.value ∙ c.mapped-indices.ensures ∙ ap (λ l. map (slice_index l) c.in_ok-indices.indices.items) c.as_slice.ensures.value ∙ ap (map (slice_index ranks)) held in
    let meaning = rw values at c.in-Ok.ensures.meaning in
    let short : c.len-2.result ≡ length once = omega (arith, c.len-2.ensures) in
    let needed = c.bits_for-bits.ensures.value ∙ ap bits_for short in
    packed_ranks (numbers_of once ranks) once ranks indices c.in-Ok.longs.items c.bits_for-bits.result c.requires.palette (omega (arith, p.count, c.requires.few)) needed p f.long below meaning

pub invariant_of-result-clause-known : goal.invariant_of-result-clause-known
invariant_of-result-clause-known c = none_below c.args.once.numbers.items

pub returns : goal.returns
returns c =
    let once = c.args.once.numbers.items in
    let ranks = c.args.once.ranks.items in
    let indices = unpacked (bits_for (length ranks)) c.args.longs.now in
    let f = from_longs (length ranks) c.args.longs.now indices c.requires.indices in
    let p = own_ranks once ranks c.requires.ranks in
    let below = subst (λ n. All (λ i. i < n) indices) p.count f.below in
    let long : c.len.result ≡ length ranks = omega (arith, c.len.ensures) in
    let held : c.in_ok-indices.indices.items ≡ indices = c.in_ok-indices.ensures ∙ ap (λ b. unpacked b c.args.longs.now) (c.bits_for.ensures.value ∙ ap bits_for long) in
    let values = c.as_slice-2.ensures.value ∙ c.mapped-indices.ensures ∙ ap (λ l. map (slice_index l) c.in_ok-indices.indices.items) c.as_slice.ensures.value ∙ ap (map (slice_index ranks)) held in
    let meaning = rw values at c.in-Ok.ensures.meaning in
    record {
      ok = record {
        numbers_are = λ i low. rw (lt-ltb i 4096 low) (number_ranked (numbers_of once ranks) once ranks indices c.in-Ok.longs.items c.bits_for-bits.result p f.long below meaning i low);
        pending = c.in_ok-boxed.ensures;
      };
    }
