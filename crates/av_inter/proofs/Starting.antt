-- Where all parts were carved, the whole is the world as it was.
use Rattle.std.proofs.Common.{◌≡◌, ℕ, zero, suc, ◌<◌, Bool, true, false, cond, ◌||◌, List, [], ◌∷◌, ◌++◌, replicate, length, filter, slice_get, Option, None, Some, ◌⊎◌, inl, inr, refl, sym, ap, ◌∙◌, subst, arith, IsTrue, All}
use Rattle.std.specs.List.{Contains}
use Rattle.std.proofs.lemmas.Bool.{true≢false, cases_eq}
use Rattle.std.proofs.lemmas.List.{length-map}
use Rattle.std.proofs.lemmas.Option.{slice_get_within}
use Rattle.av_types.specs.Positions.{chunk_of, section_of, place_of}
use Rattle.av_types.specs.declared.position.Pos.{Pos}
use Rattle.av_types.specs.declared.position.SectionPos.{SectionPos}
use Rattle.av_types.specs.declared.tick.Entry.{Entry}
use Rattle.av_ticks.specs.Entries.{is_pending}
use Rattle.av_cells.specs.Rule.{HasKinds}
use Rattle.av_cells.specs.World as cells
use Rattle.av_cells.specs.Grid.{Grid, Filling, cells_of, is_here, number_in, pending_in, among, only}
use Rattle.av_cells.proofs.GridBlocks.{among_has, has_among}
use Rattle.av_world.specs.Parcels.{with_aside, aside_lists}
use Rattle.av_world.specs.Views.{grid, blocks, lists}
use Rattle.av_world.specs.ParcelViews.{blocks as parcel_blocks}
use Rattle.av_world.specs.declared.worlds.World.{World}
use Rattle.av_world.specs.declared.parcels.Parcel.{Parcel}
use Rattle.av_play.specs.declared.event.DueEntry.{DueEntry}
use Rattle.av_play.specs.declared.event.Stage.TheVariants.{Waits}
use Rattle.av_play.specs.Parts.{part_at, numbered}
use Rattle.av_play.specs.Laws.{IsOfPart}
use Rattle.av_play.specs.Play.{all_wait}
use Rattle.av_play.proofs.Interleaving.{parts_share_nothing}
use Rattle.av_cluster.specs.Clusters.{parts_of, sections_of, sections_at, ArePlanned}
use Rattle.av_cluster.specs.declared.cluster_part.Cluster.{Cluster}
use Rattle.av_play.proofs.Lists.{none_contained}
use Rattle.std.proofs.lemmas.List.Elements.{All-head, All-tail, Contains-append_cases, Contains-append_left, Contains-append_right}
use Rattle.av_inter.specs.Out.{Out, out_of, out_in, outs}
use Rattle.av_inter.specs.Whole.{read, whole}
use Rattle.av_inter.specs.Lawful.{HasOut, is_home, is_ended, IsBlank, IsOut, IsCore}
use Rattle.av_inter.specs.Cut.{CanCut, IsCutOut, AreCut}
use Rattle.av_inter.proofs.LookUps.{AreOff, read_off, read_own, which}

pub can_cut : (g : Grid) (entries : List Entry) (clusters : List Cluster) → ArePlanned (cells_of g) entries clusters → CanCut g (sections_of clusters)
can_cut g entries clusters p = record { here = here; apart = apart; once = p.once } where
  part_of : (n : ℕ) (s : SectionPos) → among (sections_at (sections_of clusters) n) s ≡ true → IsOfPart (cells_of g) (part_at (parts_of clusters) n) s
  part_of n s a = (p.exact n s).0 (among_has (sections_at (sections_of clusters) n) s a)

  here : (n : ℕ) (s : SectionPos) → among (sections_at (sections_of clusters) n) s ≡ true → is_here (g s) ≡ true
  here n s a = let o = part_of n s a in subst (λ t. is_here (g t) ≡ true) o.territory.lies o.territory.loaded

  apart : (m n : ℕ) (s : SectionPos) → among (sections_at (sections_of clusters) m) s ≡ true → among (sections_at (sections_of clusters) n) s ≡ true → m ≡ n
  apart m n s a b = by (cases_eq m n) where
    by : (m ≡ n) ⊎ (¬ (m ≡ n)) → m ≡ n
    by (inl e) = e
    by (inr f) = absurd (parts_share_nothing (cells_of g) entries (parts_of clusters) p.plan m n s f (part_of m s a) (part_of n s b))

-- a block of a section that is not there
empty_place : (o : Option Filling) (i : ℕ) → is_here o ≡ false → (number_in o i ≡ 0) × (pending_in o i ≡ false)
empty_place None i h = (refl, refl)
empty_place (Some f) i h = absurd (true≢false h)

pub blank_cells : (g : Grid) (q : Pos) → (cells_of g).loaded q ≡ false → IsBlank (cells_of g) q
blank_cells g q h = let e = empty_place (g (section_of q)) (place_of q) h in record { number = e.0; pending = e.1 }

-- the parcels of a list, at an index
pub out_at : (cs : List (Option Parcel)) (n : ℕ) (o : Option Parcel) → slice_get cs n ≡ Some o → slice_get (outs cs) n ≡ Some (out_in o)
out_at [] n o e = cc
out_at (c ∷ cs) zero o e = let g : c ≡ o = cc in ap (λ x. Some (out_in x)) g
out_at (c ∷ cs) (suc n) o e = out_at cs n o e

wait_at : (ps : List (List DueEntry)) (n : ℕ) → is_ended (slice_get (all_wait ps) n) ≡ false
wait_at [] n = refl
wait_at (p ∷ ps) zero = refl
wait_at (p ∷ ps) (suc n) = wait_at ps n

pub replicate_more : {X : Type 0} (n : ℕ) (x : X) → replicate n x ++ x ∷ [] ≡ replicate (suc n) x
replicate_more zero x = refl
replicate_more (suc n) x = ap (λ l. x ∷ l) (replicate_more n x)

pub all_wait_is : (cs : List Cluster) → replicate (length cs) Waits ≡ all_wait (parts_of cs)
all_wait_is [] = refl
all_wait_is (c ∷ cs) = ap (λ l. Waits ∷ l) (all_wait_is cs)

wait_count : (ps : List (List DueEntry)) → length (all_wait ps) ≡ length ps
wait_count [] = refl
wait_count (p ∷ ps) = ap suc (wait_count ps)

numbered_in : (n : ℕ) (es : List Entry) (P : Entry → Type 0) (x : DueEntry) → All P es → Contains (numbered n es) x → P x.entry
numbered_in n [] P x h c = absurd (none_contained x c)
numbered_in n (e ∷ es) P x h (zero, l, g) = subst (λ (y : DueEntry). P y.entry) g (All-head P e es h)
numbered_in n (e ∷ es) P x h (suc k, l, g) = numbered_in (suc n) es P x (All-tail P e es h) (k, omega arith, g)

-- what is chosen was there
chosen_from : (p : DueEntry → Bool) (xs : List DueEntry) (x : DueEntry) → Contains (filter p xs) x → Contains xs x
chosen_from p [] x c = absurd (none_contained x c)
chosen_from p (y ∷ ys) x c = by (p y) c (chosen_from p ys x) where
  by : (b : Bool) → Contains (cond b (y ∷ filter p ys) (filter p ys)) x → (Contains (filter p ys) x → Contains ys x) → Contains (y ∷ ys) x
  by false d more = Contains-append_right (y ∷ []) ys x (more d)
  by true d more = cases (Contains-append_cases (y ∷ []) (filter p ys) x d) where
    cases : Contains (y ∷ []) x ⊎ Contains (filter p ys) x → Contains (y ∷ ys) x
    cases (inl f) = Contains-append_left (y ∷ []) ys x f
    cases (inr f) = Contains-append_right (y ∷ []) ys x (more f)

module _ (count : ℕ) (g : Grid) (entries : List Entry) (clusters : List Cluster) (w : World) (cs : List (Option Parcel)) (planned : ArePlanned (cells_of g) entries clusters)
    (loaded : All (λ e. IsTrue ((cells_of g).loaded e.pos)) entries) (known : HasKinds count (cells_of g)) (cut : AreCut g (sections_of clusters) w cs) (all : length cs ≡ length clusters) where
  abbrev secs : List (List SectionPos)
  secs = sections_of clusters

  can : CanCut g secs
  can = can_cut g entries clusters planned

  -- the n-th parcel has the n-th sections as they were
  was_out : (n : ℕ) (o : Out) → HasOut (outs cs) n o → (o.blocks ≡ cells_of (only (among (sections_at secs n)) g)) × IsOut count w.height w.positions.items (lists w) [] (sections_at secs n) o
  was_out n o e = subst (λ p. (p.blocks ≡ cells_of (only (among ss) g)) × IsOut count w.height w.positions.items (lists w) [] ss p) (sym is) (same, record { inside = inside; part = c.2.part; waits = waits; blank = blank; known = kinds }) where
    ss : List SectionPos
    ss = sections_at secs n

    c : (d : Parcel) × (slice_get cs n ≡ Some (Some d)) × IsCutOut g w ss d
    c = cut.out n (let a = slice_get_within (outs cs) n (Some o) e in let b = length-map cs out_in in omega arith)

    is : o ≡ out_of c.0
    is = let f : Some (Some o) ≡ Some (Some (out_of c.0)) = sym e ∙ out_at cs n (Some c.0) c.1 in cc

    same : parcel_blocks c.0 ≡ cells_of (only (among ss) g)
    same = λ i. with_aside (c.2.nothing_aside i) (cells_of (c.2.kept i))

    picked : (q : Pos) (b : Bool) → among ss (section_of q) ≡ b → is_here (cond b (g (section_of q)) None) ≡ b
    picked q true a = can.here n (section_of q) a
    picked q false a = refl

    inside : (q : Pos) → (parcel_blocks c.0).loaded q ≡ among ss (section_of q)
    inside q = ap (λ (v : cells.World). v.loaded q) same ∙ picked q (among ss (section_of q)) refl

    drop : (b : Bool) → b || false ≡ b || false
    drop b = refl

    waits : (q : Pos) → (parcel_blocks c.0).loaded q ≡ true → (parcel_blocks c.0).pending q ≡ is_pending q (lists w (chunk_of q)) || false
    waits q t = c.2.part.tied q t ∙ ap (λ es. is_pending q (lists w (chunk_of q)) || is_pending q (aside_lists es (chunk_of q))) c.2.nothing_aside

    blank : (q : Pos) → (parcel_blocks c.0).loaded q ≡ false → IsBlank (parcel_blocks c.0) q
    blank q f = subst (λ v. IsBlank v q) (sym same) (blank_cells (only (among ss) g) q (sym (ap (λ (v : cells.World). v.loaded q) same) ∙ f))

    kinds : HasKinds count (parcel_blocks c.0)
    kinds = subst (HasKinds count) (sym same) (λ q t. by q (among ss (section_of q)) t) where
      by : (q : Pos) (b : Bool) → is_here (cond b (g (section_of q)) None) ≡ true → number_in (cond b (g (section_of q)) None) (place_of q) < count
      by q true t = known q t
      by q false t = absurd (true≢false (sym t))

  abbrev start : cells.World
  start = whole (outs cs) (blocks w) []

  -- each block is read as it was
  read_as : {X : Type 0} (f : cells.World → Pos → X) → (r : (Option Filling) → ℕ → X) → ((h : Grid) (q : Pos) → f (cells_of h) q ≡ r (h (section_of q)) (place_of q)) → (q : Pos) → read f (outs cs) (blocks w) q ≡ f (cells_of g) q
  read_as f r by_place q = by (which (outs cs) q) where
    of_part : (b : Bool) → is_here (cond b (g (section_of q)) None) ≡ true → cond b (g (section_of q)) None ≡ g (section_of q)
    of_part true t = refl
    of_part false t = absurd (true≢false (sym t))

    alone : (n : ℕ) (o : Out) → HasOut (outs cs) n o → o.blocks.loaded q ≡ true → (m : ℕ) (p : Out) → HasOut (outs cs) m p → p.blocks.loaded q ≡ true → m ≡ n
    alone n o e t m p d u = can.apart m n (section_of q) (sym ((was_out m p d).1.inside q) ∙ u) (sym ((was_out n o e).1.inside q) ∙ t)

    nowhere : AreOff (outs cs) q → (n : ℕ) → n < length cs → among (sections_at secs n) (section_of q) ≡ false
    nowhere off n l = let c = cut.out n l in let d = out_at cs n (Some c.0) c.1 in sym ((was_out n (out_of c.0) d).1.inside q) ∙ off n (out_of c.0) d

    by : ((n : ℕ) × (o : Out) × HasOut (outs cs) n o × (o.blocks.loaded q ≡ true)) ⊎ AreOff (outs cs) q → read f (outs cs) (blocks w) q ≡ f (cells_of g) q
    by (inl (n, o, e, t)) =
        let same = (was_out n o e).0 in
        read_own f (outs cs) (blocks w) q n o e t (alone n o e t) ∙ ap (λ v. f v q) same ∙ by_place (only (among (sections_at secs n)) g) q
        ∙ ap (λ x. r x (place_of q)) (of_part (among (sections_at secs n) (section_of q)) (sym (ap (λ (v : cells.World). v.loaded q) same) ∙ t)) ∙ sym (by_place g q)
    by (inr off) = read_off f (outs cs) (blocks w) q off ∙ by_place (grid w) q ∙ ap (λ x. r x (place_of q)) (cut.others (section_of q) (nowhere off)) ∙ sym (by_place g q)

  pub start_is : start ≡ cells_of g
  start_is =
      λ i. record {
        loaded = λ q. read_as (λ v. v.loaded) (λ o j. is_here o) (λ h q. refl) q i;
        number = λ q. read_as (λ v. v.number) number_in (λ h q. refl) q i;
        pending = λ q. read_as (λ v. v.pending) pending_in (λ h q. refl) q i;
      }

  start_loaded : (q : Pos) → start.loaded q ≡ (cells_of g).loaded q
  start_loaded q = ap (λ (v : cells.World). v.loaded q) start_is

  pub start_core : IsCore count w.height w.positions.items (lists w) (blocks w) secs (parts_of clusters) (all_wait (parts_of clusters)) (outs cs) []
  start_core =
      record {
        counted = length-map cs out_in ∙ all ∙ sym (wait_count (parts_of clusters) ∙ length-map clusters (λ c. c.entries.items));
        back = λ n. out_still n (slice_get (outs cs) n) refl ∙ sym (wait_at (parts_of clusters) n);
        out = λ n o e. (was_out n o e).1;
        away = λ n o q e a. away n o q e a;
        apart = can.apart;
        own = λ n x q c i u. has_among (sections_at secs n) (section_of q) ((planned.exact n (section_of q)).1 (record { owner = x; there = c; territory = record { block = q; in_reach = i; loaded = sym (start_loaded q) ∙ u; lies = refl } }));
        here = λ n x c. start_loaded x.entry.pos ∙ numbered_in 0 entries (λ e. IsTrue ((cells_of g).loaded e.pos)) x loaded (in_tick n x c);
        within = λ q a. absurd (true≢false (sym a));
        fresh = refl;
      }
    where
      within_of : (n : ℕ) (o : Option Out) → slice_get (outs cs) n ≡ Some o → n < length cs
      within_of n o e = let a = slice_get_within (outs cs) n o e in let b = length-map cs out_in in omega arith

      out_still : (n : ℕ) (o : Option (Option Out)) → slice_get (outs cs) n ≡ o → is_home o ≡ false
      out_still n None e = refl
      out_still n (Some None) e = let c = cut.out n (within_of n None e) in let f : Some None ≡ Some (Some (out_of c.0)) = sym e ∙ out_at cs n (Some c.0) c.1 in cc
      out_still n (Some (Some o)) e = refl

      away : (n : ℕ) (o : Out) (q : Pos) → HasOut (outs cs) n o → among (sections_at secs n) (section_of q) ≡ true → (blocks w).loaded q ≡ false
      away n o q e a = ap is_here (cut.gone n (section_of q) (within_of n (Some o) e) a)

      in_tick : (n : ℕ) (x : DueEntry) → Contains (part_at (parts_of clusters) n) x → Contains (numbered 0 entries) x
      in_tick n x c = chosen_from _ (numbered 0 entries) x (subst (λ l. Contains l x) (planned.plan.each n) c)
