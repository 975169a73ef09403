use Rattle.std.proofs.Common.{◌≡◌, ◌+◌, ◌<◌, ◌∙◌, ap, ℕ, length, slice_index, slice_set, subst, arith, rules}
use Rattle.av_section.specs.Section.{number_at}
use Rattle.av_census.proofs.Sections.{counts-same, counts-section}
use Rattle.av_census.proofs.blocks.count_section.Goals as goal

pub returns-in-Some : goal.returns-in-Some
returns-in-Some c =
    let s = c.args.section.now in
    let old = c.args.counts.now.items in
    let new = c.raise.new.counts.items in
    let m = c.in-Some.number in
    let all : (i : ℕ) → i < 4096 → number_at s i ≡ m = rw c.in-Some.is at c.only_number.ensures in
    let low : m < length old = subst (λ (k : ℕ). k < length old) (all 0 (omega arith)) (c.requires.below 0 (omega arith)) in
    let amount : c.from.result ≡ 4096 = search rules in
    let is : new ≡ slice_set old m (slice_index old m + 4096) = c.raise.ensures ∙ ap (λ n. slice_set old m (slice_index old m + n)) amount in
    counts-section old new s (counts-same old new s m all low is)

pub returns-in-None : goal.returns-in-None
returns-in-None c = counts-section c.args.counts.now.items c.count_places.new.counts.items c.args.section.now c.count_places.ensures
