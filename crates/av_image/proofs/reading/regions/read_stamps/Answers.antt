use Rattle.std.specs.List.{All}
use Rattle.std.proofs.lemmas.List.Elements.{All-push}
use Rattle.std.proofs.Common.{◌≡◌, ◌∙◌, ◌<◌, ◌^◌, subst, ap, sym, arith, ◌∷◌, [], ◌++◌, ◌+◌, ◌≤◌, List, ℕ}
use Rattle.std.proofs.lemmas.List.FromFn.{map-range_with_len_more}
use Rattle.av_region.specs.Region.{stamp_of}
use Rattle.av_image.specs.RegionsRead.{are_stamps}
use Rattle.av_image.proofs.reading.regions.read_stamps.Goals as goal

one_more : (file xs ys : List ℕ) (n s : ℕ) → ys ≡ xs ++ s ∷ [] → xs ≡ are_stamps file n → s ≡ stamp_of file n → ys ≡ are_stamps file (n + 1)
one_more file xs ys n s is e v = is ∙ (ap (λ l. l ++ s ∷ []) e ∙ (ap (λ x. are_stamps file n ++ x ∷ []) v ∙ sym (map-range_with_len_more (stamp_of file) 0 n n (omega arith))))

pub loop-index-preserved : goal.loop-index-preserved
loop-index-preserved c = record { are = one_more c.args.region.now.bytes.now c.loop-index.stamps.items c.push.new.self.items c.loop-index.index c.stamp.result c.in_ok-push.ensures.items c.loop-index.invariant.are c.stamp.ensures; small = subst (λ (l : List ℕ). All (λ n. n < 2 ^ 32) l) (sym c.in_ok-push.ensures.items) (All-push (λ n. n < 2 ^ 32) c.loop-index.stamps.items c.stamp.result c.loop-index.invariant.small c.stamp.type_inv) }

at_end : (file xs : List ℕ) (n m : ℕ) → n ≤ m → m ≤ n → xs ≡ are_stamps file n → xs ≡ are_stamps file m
at_end file xs n m a b e = let same : n ≡ m = omega (arith, a, b) in e ∙ ap (are_stamps file) same

pub returns-clause-ok : goal.returns-clause-ok
returns-clause-ok c = at_end c.args.region.now.bytes.now c.loop-index.stamps.items c.loop-index.index 1024 c.loop-index.auto.index-end c.loop-index-test.false c.loop-index.invariant.are
