use Rattle.std.proofs.Common.{◌≡◌, ◌≤◌, ◌+◌, ℕ, cond, List, [], pos, length, get_or, drop, sym, ap, subst, ◌∙◌, arith, rules, nat_eq}
use Rattle.std.proofs.lemmas.List.{drop_all, get_or-replicate, length-replicate}
use Rattle.av_types.specs.Positions.{chunk_of, chunk_of_section}
use Rattle.av_types.specs.declared.tick.Entry.{Entry}
use Rattle.av_types.specs.declared.tick.Made.{Made}
use Rattle.av_world.specs.Index.{slot}
use Rattle.av_world.specs.Appended.{entries_made}
use Rattle.av_world.specs.Appending.{count_at}
use Rattle.av_world.specs.Views.{positions_of}
use Rattle.av_world.proofs.Appends.{next_made, count_at_most, index_counts}
use Rattle.av_world.proofs.worlds.World.count_made.Goals as goal

abbrev zero_made : Made
zero_made = record { maker = 0; number = 0; entry = record { pos = record { x = pos 0; y = pos 0; z = pos 0 }; due = pos 0; priority = pos 0 } }

pub count_one-requires : goal.count_one-requires
count_one-requires c =
    let ms = c.args.made.now in let i = c.loop-one.one-index in let ps = positions_of c.args.self.now in let k = c.slot_from-index.result in
    let e = (get_or ms i zero_made).entry in let rest = entries_made (drop (i + 1) ms) in
    let here = next_made ms i zero_made c.loop-one-test.true in
    let is : k ≡ slot ps (chunk_of e.pos) = c.slot_from-index.ensures ∙ ap (λ s. slot ps (chunk_of_section s)) c.section.ensures in
    let one = index_counts (slot ps (chunk_of e.pos)) k (count_at ps k rest) (sym is) in
    let most : count_at ps k (entries_made ms) ≤ length ms = count_at_most ps k ms in
    λ below.
    let has : get_or c.loop-one.counts.items k 0 + (cond (nat_eq (slot ps (chunk_of e.pos)) k) 1 0 + count_at ps k rest) ≡ count_at ps k (entries_made ms) =
    subst (λ (es : List Entry). get_or c.loop-one.counts.items k 0 + count_at ps k es ≡ count_at ps k (entries_made ms)) here (c.loop-one.invariant.each k (omega (arith, below, c.loop-one.invariant.count))) in
    omega (arith, has, one, most)

pub loop-one-init : goal.loop-one-init
loop-one-init c =
    let n : c.len.result ≡ length (positions_of c.args.self.now) = search rules in
    record {
      count = ap length c.in_ok-counts.ensures.value ∙ (length-replicate {A = ℕ} c.len.result 0 ∙ n);
      each = λ k below. ap (λ (xs : List ℕ). get_or xs k 0 + count_at (positions_of c.args.self.now) k (entries_made c.args.made.now)) c.in_ok-counts.ensures.value ∙ (let z = get_or-replicate {A = ℕ} c.len.result k 0 0 (omega (arith, below, n)) in omega (arith, z));
    }

pub loop-one-preserved : goal.loop-one-preserved
loop-one-preserved c =
    let ms = c.args.made.now in let i = c.loop-one.one-index in let ps = positions_of c.args.self.now in let j = c.slot_from-index.result in
    let e = (get_or ms i zero_made).entry in let rest = entries_made (drop (i + 1) ms) in
    let here = next_made ms i zero_made c.loop-one-test.true in
    let is : j ≡ slot ps (chunk_of e.pos) = c.slot_from-index.ensures ∙ ap (λ s. slot ps (chunk_of_section s)) c.section.ensures in
    record {
      count = c.count_one.ensures.count ∙ c.loop-one.invariant.count;
      each = λ k below.
          let has : get_or c.loop-one.counts.items k 0 + (cond (nat_eq (slot ps (chunk_of e.pos)) k) 1 0 + count_at ps k rest) ≡ count_at ps k (entries_made ms) =
          subst (λ (es : List Entry). get_or c.loop-one.counts.items k 0 + count_at ps k es ≡ count_at ps k (entries_made ms)) here (c.loop-one.invariant.each k below) in
          let same : cond (nat_eq j k) 1 0 + 0 ≡ cond (nat_eq (slot ps (chunk_of e.pos)) k) 1 0 + 0 = ap (λ m. cond (nat_eq m k) 1 0 + 0) is in
          let more = c.count_one.ensures.each k (omega (arith, below, c.loop-one.invariant.count)) in
          omega (arith, has, same, more);
    }

pub returns-clause-each : goal.returns-clause-each
returns-clause-each c =
    let ms = c.args.made.now in let ps = positions_of c.args.self.now in let i = c.loop-one.one-index in
    let none : drop i ms ≡ [] = drop_all i ms (omega (arith, c.loop-one-test.false)) in
    λ k below.
    let has = subst (λ (xs : List Made). get_or c.loop-one.counts.items k 0 + count_at ps k (entries_made xs) ≡ count_at ps k (entries_made ms)) none (c.loop-one.invariant.each k below) in
    omega (arith, has)
