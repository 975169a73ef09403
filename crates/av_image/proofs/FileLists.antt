-- Lists of files: none of a region twice, and all within the limits.
use Rattle.std.proofs.Common.{◌≡◌, ◌∙◌, suc, List, [], ◌∷◌, Bool, true, false, ◌||◌, cond, refl, ap, sym, arith, map, All}
use Rattle.std.specs.List.{AllByRecursion, list_any}
use Rattle.std.specs.Ordering.{is_lt}
use Rattle.std.specs.declared.cmp.Ordering.{Ordering}
use Rattle.std.proofs.lemmas.Bool.{and_parts, and_from, false≢true, true≢false, or_parts}
use Rattle.av_types.specs.Positions.{IsInLimits}
use Rattle.av_types.specs.declared.position.RegionPos.{RegionPos}
use Rattle.std.proofs.lemmas.List.Elements.{All-cons}
use Rattle.av_types.specs.Order.{inserted, ordered}
use Rattle.av_files.specs.Files.{File, in_order, regions_rise, region_after, share_a_region}
use Rattle.av_region_files.specs.Regions.{region_order, same_region}
use Rattle.av_files.specs.FirstFault.{AllInLimits}
use Rattle.av_region_files.specs.declared.files.RegionFile.{RegionFile}
use Rattle.av_image.specs.Views.{file_in}
use Rattle.av_image.proofs.Back.{other_region}
use Rattle.av_files.proofs.Sorted.{all_ordered}
use Rattle.av_files.proofs.Coordinates.{same_region_is, same_region-refl}
use Rattle.av_image.proofs.Rises.{not_later_region, region_total}

or_shuffle : (a b c d : Bool) → ((a || b) || (c || d)) ≡ ((a || c) || (b || d))
or_shuffle true b c d = refl
or_shuffle false true true d = refl
or_shuffle false true false d = refl
or_shuffle false false true d = refl
or_shuffle false false false d = refl

or_comm3 : (a b c : Bool) → (a || (b || c)) ≡ (b || (a || c))
or_comm3 true true c = refl
or_comm3 true false c = refl
or_comm3 false true c = refl
or_comm3 false false c = refl

any_inserted : (p : File → Bool) (c : File → File → Ordering) (f : File) (fs : List File) → list_any p (inserted c f fs) ≡ (p f || list_any p fs)
any_inserted p c f [] = refl
any_inserted p c f (g ∷ gs) = by (is_lt (c g f)) (any_inserted p c f gs) where
  by : (b : Bool) → list_any p (inserted c f gs) ≡ (p f || list_any p gs) → list_any p (cond b (g ∷ inserted c f gs) (f ∷ g ∷ gs)) ≡ (p f || (p g || list_any p gs))
  by true more = ap (λ t. p g || t) more ∙ or_comm3 (p g) (p f) (list_any p gs)
  by false more = refl

same_both : (a b : RegionPos) → same_region a b ≡ same_region b a
same_both a b = by (same_region a b) refl where
  by : (t : Bool) → same_region a b ≡ t → t ≡ same_region b a
  by true e = sym (ap (λ x. same_region x a) (sym (same_region_is a b e)) ∙ same_region-refl a)
  by false e = sym (other_region a b e)

share_inserted : (c : File → File → Ordering) (f : File) (fs : List File) → share_a_region (inserted c f fs) ≡ (list_any (λ g. same_region f.pos g.pos) fs || share_a_region fs)
share_inserted c f [] = refl
share_inserted c f (g ∷ gs) = by (is_lt (c g f)) (share_inserted c f gs) where
  by : (b : Bool) → share_a_region (inserted c f gs) ≡ (list_any (λ k. same_region f.pos k.pos) gs || share_a_region gs)
      → share_a_region (cond b (g ∷ inserted c f gs) (f ∷ g ∷ gs)) ≡ ((same_region f.pos g.pos || list_any (λ k. same_region f.pos k.pos) gs) || (list_any (λ k. same_region g.pos k.pos) gs || share_a_region gs))
  by true more =
      ap (λ t. t || share_a_region (inserted c f gs)) (any_inserted (λ k. same_region g.pos k.pos) c f gs ∙ ap (λ t. t || list_any (λ k. same_region g.pos k.pos) gs) (same_both g.pos f.pos))
      ∙ (ap (λ t. (same_region f.pos g.pos || list_any (λ k. same_region g.pos k.pos) gs) || t) more
      ∙ or_shuffle (same_region f.pos g.pos) (list_any (λ k. same_region g.pos k.pos) gs) (list_any (λ k. same_region f.pos k.pos) gs) (share_a_region gs))
  by false more = refl

any_ordered : (p : File → Bool) (c : File → File → Ordering) (fs : List File) → list_any p (ordered c fs) ≡ list_any p fs
any_ordered p c [] = refl
any_ordered p c (f ∷ fs) = any_inserted p c f (ordered c fs) ∙ ap (λ t. p f || t) (any_ordered p c fs)

share_ordered : (fs : List File) → share_a_region (in_order fs) ≡ share_a_region fs
share_ordered [] = refl
share_ordered (f ∷ fs) =
    share_inserted (λ a b. region_order a.pos b.pos) f (in_order fs)
    ∙ (ap (λ t. t || share_a_region (in_order fs)) (any_ordered (λ g. same_region f.pos g.pos) (λ a b. region_order a.pos b.pos) fs)
    ∙ ap (λ t. list_any (λ g. same_region f.pos g.pos) fs || t) (share_ordered fs))

any_pos : (p : RegionPos) (fs : List File) → list_any (λ g. same_region p g.pos) fs ≡ list_any (same_region p) (map (λ g. g.pos) fs)
any_pos p [] = refl
any_pos p (f ∷ fs) = ap (λ t. same_region p f.pos || t) (any_pos p fs)

rise_apart : (fs : List File) → regions_rise (map (λ f. f.pos) fs) ≡ true → share_a_region fs ≡ false
rise_apart [] h = refl
rise_apart (f ∷ fs) h =
    let parts = and_parts (region_after f.pos (map (λ g. g.pos) fs)) (regions_rise (map (λ g. g.pos) fs)) h in
    by (list_any (λ g. same_region f.pos g.pos) fs) refl (rise_apart fs parts.1) where
      by : (b : Bool) → list_any (λ g. same_region f.pos g.pos) fs ≡ b → share_a_region fs ≡ false → (b || share_a_region fs) ≡ false
      by true e k = absurd (false≢true (sym (not_later_region f.pos f.pos (map (λ g. g.pos) fs) h (sym (any_pos f.pos fs) ∙ e)) ∙ same_region-refl f.pos))
      by false e k = k

-- in order, files that share no region rise
rise_inserted : (f : File) (fs : List File) → regions_rise (map (λ g. g.pos) fs) ≡ true → list_any (λ g. same_region f.pos g.pos) fs ≡ false → regions_rise (map (λ g. g.pos) (inserted (λ a b. region_order a.pos b.pos) f fs)) ≡ true
rise_inserted f [] h n = refl
rise_inserted f (g ∷ gs) h n =
    let up = and_parts (region_after g.pos (map (λ k. k.pos) gs)) (regions_rise (map (λ k. k.pos) gs)) h in
    let apart = or_parts (same_region f.pos g.pos) (list_any (λ k. same_region f.pos k.pos) gs) n in
    by (is_lt (region_order g.pos f.pos)) refl (rise_inserted f gs up.1 apart.1) up.0 apart.0 where
      after : (ks : List File) → is_lt (region_order g.pos f.pos) ≡ true → region_after g.pos (map (λ k. k.pos) ks) ≡ true → region_after g.pos (map (λ k. k.pos) (inserted (λ a b. region_order a.pos b.pos) f ks)) ≡ true
      after [] lt a = lt
      after (k ∷ ks) lt a = pick (is_lt (region_order k.pos f.pos)) where
        pick : (b : Bool) → region_after g.pos (map (λ k. k.pos) (cond b (k ∷ inserted (λ a b. region_order a.pos b.pos) f ks) (f ∷ k ∷ ks))) ≡ true
        pick true = a
        pick false = lt

      by : (b : Bool) → is_lt (region_order g.pos f.pos) ≡ b → regions_rise (map (λ k. k.pos) (inserted (λ a b. region_order a.pos b.pos) f gs)) ≡ true → region_after g.pos (map (λ k. k.pos) gs) ≡ true → same_region f.pos g.pos ≡ false
          → regions_rise (map (λ k. k.pos) (cond b (g ∷ inserted (λ a b. region_order a.pos b.pos) f gs) (f ∷ g ∷ gs))) ≡ true
      by true lt more a apart = and_from (region_after g.pos (map (λ k. k.pos) (inserted (λ a b. region_order a.pos b.pos) f gs))) (regions_rise (map (λ k. k.pos) (inserted (λ a b. region_order a.pos b.pos) f gs))) (after gs lt a) more
      by false lt more a apart = and_from (is_lt (region_order f.pos g.pos)) (regions_rise (map (λ k. k.pos) (g ∷ gs))) (region_total f.pos g.pos lt apart) h

rise_ordered : (fs : List File) → share_a_region fs ≡ false → regions_rise (map (λ f. f.pos) (in_order fs)) ≡ true
rise_ordered [] h = refl
rise_ordered (f ∷ fs) h =
    let parts = or_parts (list_any (λ g. same_region f.pos g.pos) fs) (share_a_region fs) h in
    rise_inserted f (in_order fs) (rise_ordered fs parts.1) (any_ordered (λ g. same_region f.pos g.pos) (λ a b. region_order a.pos b.pos) fs ∙ parts.0)

pub rises_apart : (fs : List File) → regions_rise (map (λ f. f.pos) (in_order fs)) ≡ true → share_a_region fs ≡ false
rises_apart fs h = sym (share_ordered fs) ∙ rise_apart (in_order fs) h

pub rises_not : (fs : List File) → regions_rise (map (λ f. f.pos) (in_order fs)) ≡ false → share_a_region fs ≡ true
rises_not fs h = by (share_a_region fs) refl where
  by : (b : Bool) → share_a_region fs ≡ b → b ≡ true
  by true e = refl
  by false e = absurd (true≢false (sym (rise_ordered fs e) ∙ h))

pub all_limits : (fs : List RegionFile) → All (λ f. IsInLimits f.pos) fs → AllInLimits (map file_in fs)
all_limits [] h = tt
all_limits (f ∷ fs) h = (h 0 f (omega arith), all_limits fs (λ k d lt. h (suc k) d (omega (arith, lt))))

pub limits_all : (fs : List RegionFile) → AllInLimits (map file_in fs) → All (λ f. IsInLimits f.pos) fs
limits_all [] h = λ k d lt. absurd (omega (arith, lt))
limits_all (f ∷ fs) h = All-cons (λ f. IsInLimits f.pos) f fs h.0 (limits_all fs h.1)

limits_rec : (fs : List File) → AllInLimits fs → AllByRecursion (λ f. IsInLimits f.pos) fs
limits_rec [] h = tt
limits_rec (f ∷ fs) h = (h.0, limits_rec fs h.1)

limits_from : (fs : List File) → AllByRecursion (λ f. IsInLimits f.pos) fs → AllInLimits fs
limits_from [] h = tt
limits_from (f ∷ fs) h = (h.0, limits_from fs h.1)

pub limits_ordered : (fs : List File) → AllInLimits fs → AllInLimits (in_order fs)
limits_ordered fs h = limits_from (in_order fs) (all_ordered (λ f. IsInLimits f.pos) (λ a b. region_order a.pos b.pos) fs (limits_rec fs h))
