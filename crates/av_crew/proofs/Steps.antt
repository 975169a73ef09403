-- One more parcel carved or mended.
use Rattle.std.proofs.Common.{◌≡◌, ℕ, zero, suc, ◌+◌, ◌<◌, ◌||◌, Bool, true, false, cond, List, [], ◌∷◌, ◌++◌, length, get_or, slice_index_or, length-append, refl, sym, ap, subst, ◌∙◌, arith, IsTrue, Option, Some, None, is_some, All}
use Rattle.std.proofs.lemmas.Bool.{true≢false, false_from_ne_true}
use Rattle.std.proofs.lemmas.List.Elements.{All-push, All-from_recursion}
use Rattle.std.proofs.lemmas.List.Folds.{list_any-append}
use Rattle.std.specs.List.{list_any, AllByRecursion}
use Rattle.std.proofs.Math.Bool.{or-false}
use Rattle.av_types.specs.declared.position.SectionPos.{SectionPos}
use Rattle.av_types.specs.declared.fault.Fault.{Fault}
use Rattle.av_types.specs.declared.tick.Entry.{Entry}
use Rattle.av_types.proofs.SamePositions.{same_section_from}
use Rattle.av_cells.specs.Positions.{same_section}
use Rattle.av_cells.specs.World as cells
use Rattle.av_cells.specs.World.{Lists}
use Rattle.av_cells.specs.Grid.{Grid, is_here, cells_of, among, only, without}
use Rattle.av_play.specs.declared.event.DueEntry.{DueEntry}
use Rattle.av_play.specs.Parts.{part_at}
use Rattle.av_play.proofs.Interleaving.{parts_share_nothing}
use Rattle.av_world.specs.OutOf.{mended, IsPartOf}
use Rattle.av_world.specs.Views.{grid, lists, IsSameButBlocks}
use Rattle.av_world.specs.Parcels.{with_aside}
use Rattle.av_world.specs.ParcelViews.{blocks as parcel_blocks, lists as parcel_lists}
use Rattle.av_world.specs.declared.worlds.World.{World}
use Rattle.av_world.specs.declared.parcels.Parcel.{Parcel}
use Rattle.av_crew.specs.declared.jobs.Job.{Job}
use Rattle.av_crew.specs.declared.jobs.Done.{Done}
use Rattle.av_cluster.specs.declared.cluster_part.Cluster.{Cluster}
use Rattle.av_crew.specs.Jobs.{IsJob, AreJobs, mended_all, IsCarved}
use Rattle.av_cluster.specs.Clusters.{parts_of, sections_of, sections_at}
use Rattle.av_crew.specs.Parts.{picks_of, IsCut, CanCarve, IsPartIn, HaveParts, CarvesOne}

pub mended_push : {X : Type 0} (part : X → cells.World) (l : Lists) (xs : List X) (x : X) (w : cells.World) → mended_all part l (xs ++ x ∷ []) w ≡ mended l (part x) (mended_all part l xs w)
mended_push part l [] x w = refl
mended_push part l (y ∷ ys) x w = mended_push part l ys x (mended l (part y) w)

pub part_in_same : (v w : World) (p : Parcel) → IsSameButBlocks v w → IsPartIn v p → IsPartIn w p
part_in_same v w p s i =
    subst (λ h. IsPartOf h w.positions.items (lists w) (parcel_blocks p) (parcel_lists p)) (sym s.height)
    (subst (λ ps. IsPartOf v.height ps (lists w) (parcel_blocks p) (parcel_lists p)) (sym (ap (λ x. x.items) s.positions))
    (subst (λ l. IsPartOf v.height v.positions.items l (parcel_blocks p) (parcel_lists p)) (sym s.lists_are) i))

pub are_more : (g : Grid) (parts : List (List DueEntry)) (picks : ℕ → SectionPos → Bool) (a : ℕ) (js : List Job) (j : Job) → AreJobs g parts picks a js → IsJob g parts picks (a + length js) j → AreJobs g parts picks a (js ++ j ∷ [])
are_more g parts picks a [] j h i = (subst (λ n. IsJob g parts picks n j) (omega arith) i, tt)
are_more g parts picks a (x ∷ js) j h i = (h.0, are_more g parts picks (suc a) js j h.1 (subst (λ n. IsJob g parts picks n j) (omega arith) i))

sections_there : (cs : List Cluster) (i : ℕ) (c : Cluster) → i < length cs → c ≡ get_or cs i c → sections_at (sections_of cs) i ≡ c.sections.items
sections_there [] i c l e = absurd (omega arith)
sections_there (x ∷ cs) zero c l e = ap (λ c. c.sections.items) (sym e)
sections_there (x ∷ cs) (suc i) c l e = sections_there cs i c (omega arith) e

part_there : (cs : List Cluster) (i : ℕ) (c : Cluster) → i < length cs → c ≡ get_or cs i c → part_at (parts_of cs) i ≡ c.entries.items
part_there [] i c l e = absurd (omega arith)
part_there (x ∷ cs) zero c l e = ap (λ c. c.entries.items) (sym e)
part_there (x ∷ cs) (suc i) c l e = part_there cs i c (omega arith) e

among_at : (ss : List SectionPos) (k : ℕ) (d : SectionPos) → k < length ss → among ss (slice_index_or ss k d) ≡ true
among_at [] k d h = absurd (omega arith)
among_at (s ∷ ss) zero d h = ap (λ b. cond b true (among ss s)) (same_section_from s s refl)
among_at (s ∷ ss) (suc k) d h = either (same_section (slice_index_or ss k d) s) (among ss (slice_index_or ss k d)) (among_at ss k d (omega arith)) where
  either : (b c : Bool) → c ≡ true → cond b true c ≡ true
  either true c e = refl
  either false c e = e

module _ (g : Grid) (entries : List Entry) (clusters : List Cluster) (cut : IsCut g entries clusters) (i : ℕ) (cluster : Cluster) (within : i < length clusters) (is : cluster ≡ get_or clusters i cluster) (rest : Grid) (carved : IsCarved g (picks_of clusters) i rest) where
  abbrev picks : ℕ → SectionPos → Bool
  picks = picks_of clusters

  sections : sections_at (sections_of clusters) i ≡ cluster.sections.items
  sections = sections_there clusters i cluster within is

  mine : (s : SectionPos) → among cluster.sections.items s ≡ picks i s
  mine s = ap (λ ss. among ss s) (sym sections)

  -- a section of the part was not carved before
  still : (s : SectionPos) → IsTrue (picks i s) → rest s ≡ g s
  still s c = carved.others s (λ n u d. parts_share_nothing (cells_of g) entries (parts_of clusters) cut.plan i n s (λ e. omega (arith, e, u)) ((cut.exact i s).0 c) ((cut.exact n s).0 d))

  there : (s : SectionPos) → IsTrue (picks i s) → is_here (g s) ≡ true
  there s c = let o = (cut.exact i s).0 c in subst (λ s. is_here (g s) ≡ true) o.territory.lies o.territory.loaded

  pub can_carve : CanCarve rest cluster
  can_carve =
      record {
        here = λ k d u. let c : IsTrue (picks i (slice_index_or cluster.sections.items k d)) = sym (mine (slice_index_or cluster.sections.items k d)) ∙ among_at cluster.sections.items k d u in
            ap is_here (still _ c) ∙ there _ c;
        distinct = λ m n d. subst (λ ss. m < n → n < length ss → same_section (slice_index_or ss n d) (slice_index_or ss m d) ≡ false) sections (cut.distinct i m n d);
      }

  only_mine : only (among cluster.sections.items) rest ≡ only (picks i) g
  only_mine = λ t s. by s (among cluster.sections.items s) refl t where
    by : (s : SectionPos) (b : Bool) → among cluster.sections.items s ≡ b → only (among cluster.sections.items) rest s ≡ only (picks i) g s
    by s true e = ap (λ b. cond b (rest s) None) e ∙ still s (sym (mine s) ∙ e) ∙ ap (λ b. cond b (g s) None) (sym (sym (mine s) ∙ e))
    by s false e = ap (λ b. cond b (rest s) None) e ∙ ap (λ b. cond b (g s) None) (sym (sym (mine s) ∙ e))

  module _ (old new : World) (at : grid old ≡ rest) (job : Job) (one : CarvesOne old new cluster i job) where
    pub job_is : IsJob g (parts_of clusters) picks i job
    job_is =
        record {
          number = one.number_is;
          entries = one.entries_are ∙ sym (part_there clusters i cluster within is);
          blocks_are = (λ t. with_aside (one.nothing_aside t) (cells_of ((one.out ∙ ap (only (among cluster.sections.items)) at ∙ only_mine) t)));
        }

    pub carved_more : IsCarved g picks (i + 1) (grid new)
    carved_more =
        record {
          others = λ s f. ap (λ h. h s) (one.left ∙ ap (without (among cluster.sections.items)) at) ∙ ap (λ b. cond b None (rest s)) (mine s ∙ false_from_ne_true (picks i s) (f i (omega arith))) ∙ carved.others s (λ n u. f n (omega (arith, u)));
        }

-- what some first parts leave, all of them leave
pub carved_first : (g : Grid) (picks : ℕ → SectionPos → Bool) (all seen left : List Cluster) → all ≡ seen ++ left → (n : ℕ) → n ≡ length all → (rest : Grid) → IsCarved g picks (length seen) rest → IsCarved g picks n rest
carved_first g picks all seen left e n count rest c =
    let long = ap length e ∙ length-append seen left in
    record { others = λ s f. c.others s (λ k u. f k (omega (arith, u, long, count))) }

-- the element in the middle of a list
pub at_middle : {X : Type 0} (all ys : List X) (x : X) (zs : List X) → all ≡ ys ++ x ∷ zs → (length ys < length all) × (x ≡ get_or all (length ys) x)
at_middle {X} all ys x zs e = subst (λ l. (length ys < length l) × (x ≡ get_or l (length ys) x)) (sym e) (by ys) where
  by : (ys : List X) → (length ys < length (ys ++ x ∷ zs)) × (x ≡ get_or (ys ++ x ∷ zs) (length ys) x)
  by [] = (omega arith, refl)
  by (y ∷ ys) = let r = by ys in (omega (arith, r.0), r.1)

pub parts_more : (v w : World) (js : List Job) (j : Job) → HaveParts v js → IsSameButBlocks v w → IsPartIn w j.parcel → HaveParts w (js ++ j ∷ [])
parts_more v w js j h s p = All-push (λ j. IsPartIn w j.parcel) js j (λ k d u. part_in_same v w (slice_index_or js k d).parcel s (h k d u)) p

pub refused_more : (ds : List Done) (d : Done) → list_any (λ d. is_some d.fault) (ds ++ d ∷ []) ≡ (list_any (λ d. is_some d.fault) ds || is_some d.fault)
refused_more ds d = list_any-append (λ (x : Done). is_some x.fault) ds (d ∷ []) ∙ ap (λ b. list_any (λ (x : Done). is_some x.fault) ds || b) (or-false (is_some d.fault))

-- where memory was refused to no worker, no answer has a fault
pub none_refused : (ds : List Done) → list_any (λ d. is_some d.fault) ds ≡ false → All (λ d. d.fault ≡ None) ds
none_refused ds h = All-from_recursion (λ d. d.fault ≡ None) ds (each ds h) where
  by : (f : Option Fault) (b : Bool) → (is_some f || b) ≡ false → (f ≡ None) × (b ≡ false)
  by None b e = (refl, e)
  by (Some f) b e = absurd (true≢false e)

  each : (ds : List Done) → list_any (λ d. is_some d.fault) ds ≡ false → AllByRecursion (λ d. d.fault ≡ None) ds
  each [] e = tt
  each (d ∷ ds) e = let p = by d.fault (list_any (λ x. is_some x.fault) ds) e in (p.0, each ds p.1)
