-- Parcels carved one after the other, and put back from the last one on.
use Rattle.std.proofs.Common.{◌≡◌, ℕ, zero, suc, ◌+◌, ◌<◌, Bool, true, false, cond, List, [], ◌∷◌, ◌++◌, length, slice_index_or, slice_get, Option, None, Some, ◌⊎◌, inl, inr, refl, sym, ap, ◌∙◌, subst, arith, IsTrue, All}
use Rattle.std.proofs.lemmas.List.{length-append}
use Rattle.std.proofs.lemmas.Option.{get_or_from_slice_get}
use Rattle.av_types.specs.declared.position.SectionPos.{SectionPos}
use Rattle.av_types.proofs.SamePositions.{same_section_from}
use Rattle.av_cells.specs.Positions.{same_section}
use Rattle.av_cells.specs.Grid.{Grid, is_here, among, only, without, over}
use Rattle.av_world.specs.OutOf.{IsPartOf}
use Rattle.av_world.specs.Views.{grid, lists, site, IsSameButBlocks}
use Rattle.av_world.specs.ParcelViews.{kept_grid, aside, blocks as parcel_blocks, lists as parcel_lists}
use Rattle.av_world.specs.declared.worlds.World.{World}
use Rattle.av_world.specs.declared.parcels.Parcel.{Parcel}
use Rattle.av_cluster.specs.Clusters.{sections_at}
use Rattle.av_inter.specs.Cut.{CanCut, IsCutOut, AreCut, HoldsPartOf, put_grid}

pub got_old : {X : Type 0} (xs : List X) (y : X) (n : ℕ) → n < length xs → slice_get (xs ++ y ∷ []) n ≡ slice_get xs n
got_old [] y n l = absurd (omega arith)
got_old (x ∷ xs) y zero l = refl
got_old (x ∷ xs) y (suc n) l = got_old xs y n (omega arith)

pub got_new : {X : Type 0} (xs : List X) (y : X) → slice_get (xs ++ y ∷ []) (length xs) ≡ Some y
got_new [] y = refl
got_new (x ∷ xs) y = got_new xs y

among_at : (ss : List SectionPos) (k : ℕ) (d : SectionPos) → k < length ss → among ss (slice_index_or ss k d) ≡ true
among_at [] k d h = absurd (omega arith)
among_at (s ∷ ss) zero d h = ap (λ b. cond b true (among ss s)) (same_section_from s s refl)
among_at (s ∷ ss) (suc k) d h = either (same_section (slice_index_or ss k d) s) (among ss (slice_index_or ss k d)) (among_at ss k d (omega arith)) where
  either : (b c : Bool) → c ≡ true → cond b true c ≡ true
  either true c e = refl
  either false c e = e

-- the same height and chunks
pub same_places : (v w : World) → IsSameButBlocks v w → site w ≡ site v
same_places v w s = λ i. record { height = Some (s.height i); chunks = (s.positions i).items; broken = s.broken i }

pub part_in_same : (v w : World) (p : Parcel) → IsSameButBlocks v w → IsPartOf v.height v.positions.items (lists v) (parcel_blocks p) (parcel_lists p) → IsPartOf w.height w.positions.items (lists w) (parcel_blocks p) (parcel_lists p)
part_in_same v w p s i =
    subst (λ h. IsPartOf h w.positions.items (lists w) (parcel_blocks p) (parcel_lists p)) (sym s.height)
    (subst (λ ps. IsPartOf v.height ps (lists w) (parcel_blocks p) (parcel_lists p)) (sym (ap (λ x. x.items) s.positions))
    (subst (λ l. IsPartOf v.height v.positions.items l (parcel_blocks p) (parcel_lists p)) (sym s.lists_are) i))

same_cut : (g : Grid) (v w : World) (ss : List SectionPos) (c : Parcel) → IsSameButBlocks v w → IsCutOut g v ss c → IsCutOut g w ss c
same_cut g v w ss c s i = record { kept = i.kept; nothing_aside = i.nothing_aside; part = part_in_same v w c s i.part }

module _ (g : Grid) (secs : List (List SectionPos)) (can : CanCut g secs) where
  -- a section of a later list is where it was
  still : (w : World) (cs : List (Option Parcel)) → AreCut g secs w cs → (s : SectionPos) → among (sections_at secs (length cs)) s ≡ true → grid w s ≡ g s
  still w cs cut s a = cut.others s (λ n l. by n l (among (sections_at secs n) s) refl) where
    by : (n : ℕ) → n < length cs → (b : Bool) → among (sections_at secs n) s ≡ b → b ≡ false
    by n l true t = let e = can.apart n (length cs) s t a in absurd (omega arith)
    by n l false t = refl

  pub can_carve : (w : World) (cs : List (Option Parcel)) → AreCut g secs w cs → All (λ s. IsTrue (is_here (grid w s))) (sections_at secs (length cs))
  can_carve w cs cut k d l =
      let s : SectionPos = slice_index_or (sections_at secs (length cs)) k d in
      let a = among_at (sections_at secs (length cs)) k d l in
      ap is_here (still w cs cut s a) ∙ can.here (length cs) s a

  pub cut_none : (w : World) → grid w ≡ g → AreCut g secs w []
  cut_none w e = record { out = λ n l. absurd (omega arith); gone = λ n s l. absurd (omega arith); others = λ s f. ap (λ h. h s) e }

  pub cut_end : (w : World) → AreCut g secs w [] → grid w ≡ g
  cut_end w cut = λ i s. cut.others s (λ n l. absurd (omega arith)) i

  pub parts_of_cut : (w : World) (cs : List (Option Parcel)) → AreCut g secs w cs → All (HoldsPartOf w) cs
  parts_of_cut w cs cut k d l = let o = cut.out k l in subst (HoldsPartOf w) (sym (get_or_from_slice_get cs k (Some o.0) d o.1)) o.2.part

  pub cut_same : (old new : World) (cs : List (Option Parcel)) → AreCut g secs old cs → grid new ≡ grid old → IsSameButBlocks old new → AreCut g secs new cs
  cut_same old new cs cut e same =
      record {
        out = λ n l. let o = cut.out n l in (o.0, o.1, same_cut g old new (sections_at secs n) o.0 same o.2);
        gone = λ n s l a. ap (λ h. h s) e ∙ cut.gone n s l a;
        others = λ s f. ap (λ h. h s) e ∙ cut.others s f;
      }

  below_or : (cs : List (Option Parcel)) (x : Option Parcel) (m : ℕ) → m < length (cs ++ x ∷ []) → (m < length cs) ⊎ (m ≡ length cs)
  below_or [] x zero l = inr refl
  below_or [] x (suc m) l = absurd (omega arith)
  below_or (c ∷ cs) x zero l = inl (omega arith)
  below_or (c ∷ cs) x (suc m) l = by (below_or cs x m (omega arith)) where
    by : (m < length cs) ⊎ (m ≡ length cs) → (suc m < suc (length cs)) ⊎ (suc m ≡ suc (length cs))
    by (inl h) = inl (omega arith)
    by (inr h) = inr (ap suc h)

  pub cut_more : (old new : World) (cs : List (Option Parcel)) (c : Parcel) (ss : List SectionPos) → ss ≡ sections_at secs (length cs) → AreCut g secs old cs → IsSameButBlocks old new → kept_grid c ≡ only (among ss) (grid old) → aside c ≡ []
      → IsPartOf new.height new.positions.items (lists new) (parcel_blocks c) (parcel_lists c) → grid new ≡ without (among ss) (grid old) → AreCut g secs new (cs ++ Some c ∷ [])
  cut_more old new cs c ss is cut same kept none part left = record { out = out; gone = gone; others = others } where
    n : ℕ
    n = length cs

    mine : kept_grid c ≡ only (among (sections_at secs n)) g
    mine = kept ∙ ap (λ l. only (among l) (grid old)) is ∙ (λ i s. by s (among (sections_at secs n) s) refl i) where
      by : (s : SectionPos) (b : Bool) → among (sections_at secs n) s ≡ b → only (among (sections_at secs n)) (grid old) s ≡ only (among (sections_at secs n)) g s
      by s true a = ap (λ b. cond b (grid old s) None) a ∙ still old cs cut s a ∙ sym (ap (λ b. cond b (g s) None) a)
      by s false a = ap (λ b. cond b (grid old s) None) a ∙ sym (ap (λ b. cond b (g s) None) a)

    left_is : (s : SectionPos) → grid new s ≡ cond (among (sections_at secs n) s) None (grid old s)
    left_is s = ap (λ h. h s) left ∙ ap (λ l. cond (among l s) None (grid old s)) is

    out : (m : ℕ) → m < length (cs ++ Some c ∷ []) → (d : Parcel) × (slice_get (cs ++ Some c ∷ []) m ≡ Some (Some d)) × IsCutOut g new (sections_at secs m) d
    out m l = by (below_or cs (Some c) m l) where
      by : (m < length cs) ⊎ (m ≡ length cs) → (d : Parcel) × (slice_get (cs ++ Some c ∷ []) m ≡ Some (Some d)) × IsCutOut g new (sections_at secs m) d
      by (inl u) = let o = cut.out m u in (o.0, got_old cs (Some c) m u ∙ o.1, same_cut g old new (sections_at secs m) o.0 same o.2)
      by (inr e) =
          (c, ap (slice_get (cs ++ Some c ∷ [])) e ∙ got_new cs (Some c), subst (λ j. IsCutOut g new (sections_at secs j) c) (sym e) (record { kept = mine; nothing_aside = none; part = part }))

    gone : (m : ℕ) (s : SectionPos) → m < length (cs ++ Some c ∷ []) → among (sections_at secs m) s ≡ true → grid new s ≡ None
    gone m s l a = by (below_or cs (Some c) m l) where
      when_old : (b : Bool) → grid old s ≡ None → cond b None (grid old s) ≡ None
      when_old true e = refl
      when_old false e = e

      by : (m < length cs) ⊎ (m ≡ length cs) → grid new s ≡ None
      by (inl u) = left_is s ∙ when_old (among (sections_at secs n) s) (cut.gone m s u a)
      by (inr e) = left_is s ∙ ap (λ b. cond b None (grid old s)) (subst (λ j. among (sections_at secs j) s ≡ true) e a)

    others : (s : SectionPos) → ((m : ℕ) → m < length (cs ++ Some c ∷ []) → among (sections_at secs m) s ≡ false) → grid new s ≡ g s
    others s f =
        let long = length-append cs (Some c ∷ []) in
        left_is s ∙ ap (λ b. cond b None (grid old s)) (f n (omega arith)) ∙ cut.others s (λ m l. f m (omega arith))

  pub cut_less : (old new : World) (cs : List (Option Parcel)) (x : Option Parcel) → AreCut g secs old (cs ++ x ∷ []) → IsSameButBlocks old new → grid new ≡ put_grid x (grid old) → AreCut g secs new cs
  cut_less old new cs x cut same put = record { out = out; gone = gone; others = others } where
    n : ℕ
    n = length cs

    longer : length (cs ++ x ∷ []) ≡ length cs + 1
    longer = length-append cs (x ∷ [])

    last : (c : Parcel) × (slice_get (cs ++ x ∷ []) n ≡ Some (Some c)) × IsCutOut g old (sections_at secs n) c
    last = cut.out n (omega (arith, longer))

    is_last : x ≡ Some last.0
    is_last = let e : Some x ≡ Some (Some last.0) = sym (got_new cs x) ∙ last.1 in cc

    put_is : (s : SectionPos) → grid new s ≡ over (only (among (sections_at secs n)) g) (grid old) s
    put_is s = ap (λ h. h s) put ∙ ap (λ y. put_grid y (grid old) s) is_last ∙ ap (λ h. over h (grid old) s) last.2.kept

    out : (m : ℕ) → m < length cs → (d : Parcel) × (slice_get cs m ≡ Some (Some d)) × IsCutOut g new (sections_at secs m) d
    out m l = let o = cut.out m (omega (arith, longer)) in (o.0, sym (got_old cs x m l) ∙ o.1, same_cut g old new (sections_at secs m) o.0 same o.2)

    unpicked : (s : SectionPos) → among (sections_at secs n) s ≡ false → grid new s ≡ grid old s
    unpicked s a = put_is s ∙ ap (λ b. cond (is_here (cond b (g s) None)) (cond b (g s) None) (grid old s)) a

    picked : (s : SectionPos) → among (sections_at secs n) s ≡ true → grid new s ≡ g s
    picked s a = put_is s ∙ ap (λ b. cond (is_here (cond b (g s) None)) (cond b (g s) None) (grid old s)) a ∙ ap (λ b. cond b (g s) (grid old s)) (can.here n s a)

    gone : (m : ℕ) (s : SectionPos) → m < length cs → among (sections_at secs m) s ≡ true → grid new s ≡ None
    gone m s l a = by (among (sections_at secs n) s) refl where
      by : (b : Bool) → among (sections_at secs n) s ≡ b → grid new s ≡ None
      by true t = let e = can.apart m n s a t in absurd (omega arith)
      by false t = unpicked s t ∙ cut.gone m s (omega (arith, longer)) a

    others : (s : SectionPos) → ((m : ℕ) → m < length cs → among (sections_at secs m) s ≡ false) → grid new s ≡ g s
    others s f = by (among (sections_at secs n) s) refl where
      each : among (sections_at secs n) s ≡ false → (m : ℕ) → (m < length cs) ⊎ (m ≡ length cs) → among (sections_at secs m) s ≡ false
      each t m (inl u) = f m u
      each t m (inr e) = subst (λ j. among (sections_at secs j) s ≡ false) (sym e) t

      by : (b : Bool) → among (sections_at secs n) s ≡ b → grid new s ≡ g s
      by true t = picked s t
      by false t = unpicked s t ∙ cut.others s (λ m l. each t m (below_or cs x m l))

pub slot_same : (v w : World) (o : Option Parcel) → IsSameButBlocks v w → HoldsPartOf v o → HoldsPartOf w o
slot_same v w None s h = tt
slot_same v w (Some p) s h = part_in_same v w p s h

pub all_front : {X : Type 0} (P : X → Type 0) (xs : List X) (y : X) → All P (xs ++ y ∷ []) → All P xs
all_front P [] y h k d l = absurd (omega arith)
all_front P (x ∷ xs) y h zero d l = h zero d (omega arith)
all_front P (x ∷ xs) y h (suc k) d l = all_front P xs y (λ j e m. h (suc j) e (omega arith)) k d (omega arith)
