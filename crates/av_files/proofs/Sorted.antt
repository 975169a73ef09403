-- Files in order.
use Rattle.std.proofs.Common.{◌≡◌, ◌∙◌, ℤ, ◌<ℤ◌, List, [], ◌∷◌, Bool, true, false, cond, refl, ap, arith}
use Rattle.std.specs.Prelude.{map}
use Rattle.std.specs.List.{AllByRecursion}
use Rattle.std.specs.Ordering.{is_lt, int_cmp, ordering_then, MatchOrdering}
use Rattle.std.specs.Cmp.{int_ranks}
use Rattle.std.specs.declared.cmp.Ordering.{Ordering}
use Rattle.std.specs.declared.cmp.Ordering.TheVariants.{Less, Equal, Greater}
use Rattle.std.proofs.lemmas.Int.{ints}
use Rattle.std.proofs.lemmas.Bool.{and_parts, false≢true}
use Rattle.av_types.specs.declared.position.RegionPos.{RegionPos}
use Rattle.av_types.specs.Order.{inserted, ordered}
use Rattle.av_files.specs.Files.{File, in_order, region_after, regions_rise}
use Rattle.av_region_files.specs.Regions.{region_order}

-- two orders of two pairs of numbers, turned round
flipped : (a b c d : Ordering) (x y z w : ℤ) → MatchOrdering a (x <ℤ y) (x ≡ y) (y <ℤ x) → MatchOrdering b (y <ℤ x) (y ≡ x) (x <ℤ y)
    → MatchOrdering c (z <ℤ w) (z ≡ w) (w <ℤ z) → MatchOrdering d (w <ℤ z) (w ≡ z) (z <ℤ w)
    → is_lt (ordering_then a c) ≡ true → is_lt (ordering_then b d) ≡ false
flipped Less Less c d x y z w p q r s h = absurd (omega (arith, ints))
flipped Less Equal c d x y z w p q r s h = absurd (omega (arith, ints))
flipped Less Greater c d x y z w p q r s h = refl
flipped Equal Less c d x y z w p q r s h = absurd (omega (arith, ints))
flipped Equal Equal Less Less x y z w p q r s h = absurd (omega (arith, ints))
flipped Equal Equal Less Equal x y z w p q r s h = absurd (omega (arith, ints))
flipped Equal Equal Less Greater x y z w p q r s h = refl
flipped Equal Equal Equal d x y z w p q r s h = absurd (false≢true h)
flipped Equal Equal Greater d x y z w p q r s h = absurd (false≢true h)
flipped Equal Greater c d x y z w p q r s h = refl
flipped Greater b c d x y z w p q r s h = absurd (false≢true h)

pub region_flip : (a b : RegionPos) → is_lt (region_order a b) ≡ true → is_lt (region_order b a) ≡ false
region_flip a b h = flipped (int_cmp a.z b.z) (int_cmp b.z a.z) (int_cmp a.x b.x) (int_cmp b.x a.x) a.z b.z a.x b.x (int_ranks a.z b.z) (int_ranks b.z a.z) (int_ranks a.x b.x) (int_ranks b.x a.x) h

abbrev cmp : File → File → Ordering
cmp a b = region_order a.pos b.pos

inserted_first : (f : File) (fs : List File) → region_after f.pos (map (λ g. g.pos) fs) ≡ true → inserted cmp f fs ≡ f ∷ fs
inserted_first f [] h = refl
inserted_first f (g ∷ gs) h = ap (λ b. cond b (g ∷ inserted cmp f gs) (f ∷ g ∷ gs)) (region_flip f.pos g.pos h)

pub in_order_rising : (fs : List File) → regions_rise (map (λ f. f.pos) fs) ≡ true → in_order fs ≡ fs
in_order_rising [] h = refl
in_order_rising (f ∷ fs) h =
    let parts = and_parts (region_after f.pos (map (λ g. g.pos) fs)) (regions_rise (map (λ g. g.pos) fs)) h in
    ap (λ gs. inserted cmp f gs) (in_order_rising fs parts.1) ∙ inserted_first f fs parts.0

all_if : {X : Type 0} (P : X → Type 0) (b : Bool) (xs ys : List X) → AllByRecursion P xs → AllByRecursion P ys → AllByRecursion P (cond b xs ys)
all_if P true xs ys h k = h
all_if P false xs ys h k = k

all_inserted : {X : Type 0} (P : X → Type 0) (c : X → X → Ordering) (x : X) (xs : List X) → P x → AllByRecursion P xs → AllByRecursion P (inserted c x xs)
all_inserted P c x [] h hs = (h, tt)
all_inserted P c x (y ∷ ys) h hs = all_if P (is_lt (c y x)) (y ∷ inserted c x ys) (x ∷ y ∷ ys) (hs.0, all_inserted P c x ys h hs.1) (h, hs)

pub all_ordered : {X : Type 0} (P : X → Type 0) (c : X → X → Ordering) (xs : List X) → AllByRecursion P xs → AllByRecursion P (ordered c xs)
all_ordered P c [] hs = tt
all_ordered P c (x ∷ xs) hs = all_inserted P c x (ordered c xs) hs.0 (all_ordered P c xs hs.1)

pub all_mapped : {X Y : Type 0} (P : X → Type 0) (Q : Y → Type 0) (g : X → Y) (xs : List X) → ((x : X) → P x → Q (g x)) → AllByRecursion P xs → AllByRecursion Q (map g xs)
all_mapped P Q g [] h hs = tt
all_mapped P Q g (x ∷ xs) h hs = (h x hs.0, all_mapped P Q g xs h hs.1)

pub all_both : {X : Type 0} (P Q R : X → Type 0) (xs : List X) → ((x : X) → P x → Q x → R x) → AllByRecursion P xs → AllByRecursion Q xs → AllByRecursion R xs
all_both P Q R [] h ps qs = tt
all_both P Q R (x ∷ xs) h ps qs = (h x ps.0 qs.0, all_both P Q R xs h ps.1 qs.1)
