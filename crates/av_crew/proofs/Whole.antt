-- All parts of a tick together.
use Rattle.std.proofs.Common.{◌≡◌, ℕ, suc, ◌<◌, Bool, true, false, cond, List, [], ◌∷◌, length, take, refl, sym, ap, subst, ◌∙◌, IsTrue, None, All}
use Rattle.std.proofs.lemmas.Bool.{true≢false}
use Rattle.std.proofs.lemmas.List.Elements.{recursion_from_All, All-from_recursion}
use Rattle.std.proofs.lemmas.List.Sorted.{All-permutation}
use Rattle.std.specs.List.{AllByRecursion, AllZip, flat_map}
use Rattle.std.proofs.Math.Seq.{take-length}
use Rattle.av_world.proofs.Corners.{reach_self}
use Rattle.av_types.proofs.Each.{each_then}
use Rattle.av_types.specs.Positions.{section_of, place_of}
use Rattle.av_types.specs.declared.position.Pos.{Pos}
use Rattle.av_types.specs.declared.position.SectionPos.{SectionPos}
use Rattle.av_types.specs.declared.tick.Entry.{Entry}
use Rattle.av_types.specs.declared.tick.Made.{Made}
use Rattle.av_ticks.specs.Entries.{made_order}
use Rattle.av_types.specs.Order.{ordered}
use Rattle.av_rules.specs.declared.kinds.Kinds.{Kinds}
use Rattle.av_rules.specs.Kinds.{kind_count}
use Rattle.av_cells.specs.declared.kind.Kind.{Kind}
use Rattle.av_cells.specs.Rule.{HasKinds}
use Rattle.av_cells.specs.World as cells
use Rattle.av_cells.specs.World.{Lists}
use Rattle.av_cells.specs.Grid.{Grid, is_here, number_in, cells_of, only}
use Rattle.av_play.specs.declared.event.DueEntry.{DueEntry}
use Rattle.av_play.specs.Parts.{numbered, part_at, count_of}
use Rattle.av_play.specs.Play.{world_after, made_after, entries_of}
use Rattle.av_play.specs.Laws.{IsOfPart}
use Rattle.av_play.specs.Waiting.{AreNew, appended}
use Rattle.av_play.proofs.Lists.{each_chosen}
use Rattle.av_play.proofs.Trace.{known_all}
use Rattle.av_play.proofs.Settled.{settled_whole, settled_new}
use Rattle.av_world.specs.Lawful.{IsTied}
use Rattle.av_world.specs.Views.{lists}
use Rattle.av_world.specs.ParcelViews.{blocks as parcel_blocks}
use Rattle.av_world.specs.declared.worlds.World.{World}
use Rattle.av_crew.specs.declared.jobs.Job.{Job}
use Rattle.av_crew.specs.declared.jobs.Done.{Done}
use Rattle.av_cluster.specs.declared.cluster_part.Cluster.{Cluster}
use Rattle.av_crew.specs.Work.{CanWork, IsDoneOf}
use Rattle.av_crew.specs.Jobs.{IsJob, AreJobs, world_of, made_of, mended_all, IsCarved}
use Rattle.av_cluster.specs.Clusters.{parts_of}
use Rattle.av_crew.specs.Parts.{picks_of, IsCut, IsPartIn, HaveParts}
use Rattle.av_crew.specs.Answer.{AnswersAll}
use Rattle.av_crew.specs.Gathered.{AreBroughtTogether}
use Rattle.av_crew.proofs.MadeInside.{AllMadeIn, made_inside, flat_inside, ordered_all}
use Rattle.av_crew.proofs.Staying.{done_stays}
use Rattle.av_crew.proofs.Totals.{flat_zip}
use Rattle.av_crew.proofs.Mending.{mended_zip}
use Rattle.av_crew.proofs.Settling.{each_is, settled}

each_both : {X : Type 0} (P Q : X → Type 0) (xs : List X) → AllByRecursion P xs → AllByRecursion Q xs → AllByRecursion (λ x. P x × Q x) xs
each_both P Q [] h k = tt
each_both P Q (x ∷ xs) h k = ((h.0, k.0), each_both P Q xs h.1 k.1)

each_numbered : (P : Entry → Type 0) (es : List Entry) (n : ℕ) → AllByRecursion P es → AllByRecursion (λ x. P x.entry) (numbered n es)
each_numbered P [] n h = tt
each_numbered P (e ∷ es) n h = (h.0, each_numbered P es (suc n) h.1)

count_is : (cs : List Cluster) → count_of (parts_of cs) ≡ length cs
count_is [] = refl
count_is (c ∷ cs) = ap suc (count_is cs)

-- ---- jobs can be worked off

module _ (kinds : Kinds) (g : Grid) (entries : List Entry) (clusters : List Cluster) (cut : IsCut g entries clusters) (known : HasKinds (kind_count kinds) (cells_of g)) (loaded : All (λ e. IsTrue ((cells_of g).loaded e.pos)) entries) where
  abbrev picks : ℕ → SectionPos → Bool
  picks = picks_of clusters

  known_only : (m : ℕ) → HasKinds (kind_count kinds) (cells_of (only (picks m) g))
  known_only m p = by (picks m (section_of p)) where
    by : (b : Bool) → is_here (cond b (g (section_of p)) None) ≡ true → number_in (cond b (g (section_of p)) None) (place_of p) < kind_count kinds
    by true t = known p t
    by false t = absurd (true≢false (sym t))

  loaded_part : (m : ℕ) → AllByRecursion (λ x. IsTrue ((cells_of (only (picks m) g)).loaded x.entry.pos)) (part_at (parts_of clusters) m)
  loaded_part m =
      let P : DueEntry → Type 0 = λ x. IsTrue ((cells_of g).loaded x.entry.pos) in
      let all : AllByRecursion P (part_at (parts_of clusters) m) =
      subst (AllByRecursion P) (sym (cut.plan.each m)) (each_then _ _ (λ x c. c.1) _ (each_chosen P _ (numbered 0 entries) (each_numbered (λ e. IsTrue ((cells_of g).loaded e.pos)) entries 0 (recursion_from_All _ entries loaded)))) in
      each_then _ _ (λ x c.
      let s : SectionPos = section_of x.entry.pos in
      let o : IsOfPart (cells_of g) (part_at (parts_of clusters) m) s = record { owner = x; there = c.0; territory = record { block = x.entry.pos; in_reach = reach_self x.entry.pos; loaded = c.1; lies = refl } } in
      ap (λ b. is_here (cond b (g s) None)) ((cut.exact m s).1 o) ∙ c.1) (part_at (parts_of clusters) m) (each_both _ P _ (known_all (part_at (parts_of clusters) m)) all)

  able : (j : Job) → ((m : ℕ) × IsJob g (parts_of clusters) picks m j) → CanWork kinds j
  able j i =
      record {
        known = subst (HasKinds (kind_count kinds)) (sym i.1.blocks_are) (known_only i.0);
        loaded = All-from_recursion (λ x. IsTrue ((parcel_blocks j.parcel).loaded x.entry.pos)) j.entries.items
            (subst (λ w. AllByRecursion (λ x. IsTrue (w.loaded x.entry.pos)) j.entries.items) (sym i.1.blocks_are)
            (subst (AllByRecursion (λ x. IsTrue ((cells_of (only (picks i.0) g)).loaded x.entry.pos))) (sym i.1.entries) (loaded_part i.0)));
      }

  pub jobs_able : (jobs : List Job) → AreJobs g (parts_of clusters) picks 0 jobs → All (CanWork kinds) jobs
  jobs_able jobs are = All-from_recursion (CanWork kinds) jobs (each_then _ _ able jobs (each_is g (parts_of clusters) picks 0 jobs are))

-- ---- what comes back can be mended

zip_parts : (w : World) (k : ℕ → Kind) (now : ℕ) (order : List Job) (dones : List Done) → AllByRecursion (λ j. IsPartIn w j.parcel) order → AllZip (IsDoneOf k now) order dones → AllByRecursion (λ d. IsPartIn w d.parcel) dones
zip_parts w k now [] [] h z = tt
zip_parts w k now [] (d ∷ ds) h z = absurd z
zip_parts w k now (j ∷ js) [] h z = absurd z
zip_parts w k now (j ∷ js) (d ∷ ds) h z = (done_stays w.height w.positions.items (lists w) k now j d z.0 h.0, zip_parts w k now js ds h.1 z.1)

pub dones_in : (w : World) (k : ℕ → Kind) (now : ℕ) (jobs : List Job) (dones : List Done) → HaveParts w jobs → AnswersAll k now jobs dones → All (λ d. IsPartIn w d.parcel) dones
dones_in w k now jobs dones h a =
    All-from_recursion (λ d. IsPartIn w d.parcel) dones (zip_parts w k now a.order dones (recursion_from_All (λ j. IsPartIn w j.parcel) a.order (All-permutation (λ j. IsPartIn w j.parcel) jobs a.order a.permuted h)) a.answered)

-- ---- together

-- a block of some sections of a grid is a block of the grid
of_only : (b : SectionPos → Bool) (g : Grid) (q : Pos) → (cells_of (only b g)).loaded q ≡ true → (cells_of g).loaded q ≡ true
of_only b g q h = by (b (section_of q)) h where
  by : (c : Bool) → is_here (cond c (g (section_of q)) None) ≡ true → is_here (g (section_of q)) ≡ true
  by true h = h
  by false h = absurd (true≢false (sym h))

record IsWholeOf (k : ℕ → Kind) (now : ℕ) (j : Job) (d : Done) : Type 0 where
  world : parcel_blocks d.parcel ≡ world_of k now j
  made : d.made.items ≡ made_of k now j

zip_whole : (k : ℕ → Kind) (now : ℕ) (order : List Job) (dones : List Done) → AllZip (IsDoneOf k now) order dones → AllByRecursion (λ d. d.fault ≡ None) dones → AllZip (IsWholeOf k now) order dones
zip_whole k now [] [] z f = tt
zip_whole k now [] (d ∷ ds) z f = absurd z
zip_whole k now (j ∷ js) [] z f = absurd z
zip_whole k now (j ∷ js) (d ∷ ds) z f =
    let t = z.0.whole f.0 in
    let all : take (length j.entries.items) j.entries.items ≡ j.entries.items = take-length j.entries.items in
    (record { world = t.world ∙ ap (λ (xs : List DueEntry). world_after k now xs (parcel_blocks j.parcel)) all; made = t.put_aside ∙ ap (λ (xs : List DueEntry). made_after k now xs (parcel_blocks j.parcel)) all }, zip_whole k now js ds z.1 f.1)

-- what a job's turns make is of blocks of the whole grid
made_in : (k : ℕ → Kind) (now : ℕ) (g : Grid) (parts : List (List DueEntry)) (picks : ℕ → SectionPos → Bool) (L : Pos → Bool) → ((q : Pos) → L q ≡ (cells_of g).loaded q) → (j : Job) → ((m : ℕ) × IsJob g parts picks m j) → AllMadeIn L (made_of k now j)
made_in k now g parts picks L same j i =
    let P : Made → Type 0 = λ x. IsTrue ((parcel_blocks j.parcel).loaded x.entry.pos) in
    let Q : Made → Type 0 = λ x. IsTrue (L x.entry.pos) in
    each_then P Q (λ x t. same x.entry.pos ∙ of_only (picks i.0) g x.entry.pos (sym (ap (λ (w : cells.World). w.loaded x.entry.pos) i.1.blocks_are) ∙ t)) (made_of k now j) (made_inside k now j.entries.items (parcel_blocks j.parcel))

pub gathered : (k : ℕ → Kind) (now : ℕ) (g : Grid) (entries : List Entry) (clusters : List Cluster) → IsCut g entries clusters → (l : Lists) → IsTied (cells_of g) l → (rest : Grid) → IsCarved g (picks_of clusters) (length clusters) rest
    → (jobs : List Job) → AreJobs g (parts_of clusters) (picks_of clusters) 0 jobs → length jobs ≡ length clusters → (dones : List Done) → AnswersAll k now jobs dones → All (λ d. d.fault ≡ None) dones
    → (h : cells.World) → h ≡ mended_all (λ d. parcel_blocks d.parcel) l dones (cells_of rest) → (made : List Made) → made ≡ ordered made_order (flat_map (λ d. d.made.items) dones)
    → AreBroughtTogether k now entries (cells_of g) l h made
gathered k now g entries clusters cut l tied rest carved jobs are count dones a whole h mended made merged =
    let z : AllZip (IsWholeOf k now) a.order dones = zip_whole k now a.order dones a.answered (recursion_from_All (λ d. d.fault ≡ None) dones whole) in
    let hs : h ≡ mended_all (world_of k now) l a.order (cells_of rest) = mended ∙ mended_zip (IsWholeOf k now) (world_of k now) (λ d. parcel_blocks d.parcel) (λ j d e. e.world) l a.order dones (cells_of rest) z in
    let ms : made ≡ ordered made_order (flat_map (made_of k now) a.order) = merged ∙ ap (ordered made_order) (flat_zip (IsWholeOf k now) (made_of k now) (λ d. d.made.items) (λ j d e. e.made) a.order dones z) in
    let n : length clusters ≡ count_of (parts_of clusters) = sym (count_is clusters) in
    let s = settled g entries (parts_of clusters) cut.plan k now (picks_of clusters) cut.exact l tied rest (subst (λ m. IsCarved g (picks_of clusters) m rest) n carved) jobs a.order are (count ∙ n) a.permuted in
    let v : cells.World = mended_all (world_of k now) l a.order (cells_of rest) in
    let list : List Made = flat_map (made_of k now) a.order in
    let Is : Job → Type 0 = λ j. (m : ℕ) × IsJob g (parts_of clusters) (picks_of clusters) m j in
    let known : AllByRecursion Is a.order = recursion_from_All Is a.order (All-permutation Is jobs a.order a.permuted (All-from_recursion Is jobs (each_is g (parts_of clusters) (picks_of clusters) 0 jobs are))) in
    let inside : AllByRecursion (λ j. AllMadeIn h.loaded (made_of k now j)) a.order =
    each_then Is (λ j. AllMadeIn h.loaded (made_of k now j)) (λ j i. made_in k now g (parts_of clusters) (picks_of clusters) h.loaded (λ q. ap (λ (w : cells.World). w.loaded q) hs ∙ s.same_loaded q) j i) a.order known in
    record {
      whole = (λ t. appended (hs t) l (entries_of (ms t))) ∙ settled_whole g entries (parts_of clusters) cut.plan k now (picks_of clusters) v list s l;
      loaded = subst (AllMadeIn h.loaded) (sym ms) (ordered_all (λ m. IsTrue (h.loaded m.entry.pos)) made_order list (flat_inside h.loaded (made_of k now) a.order inside));
      fresh = subst (λ m. AreNew h (entries_of m)) (sym ms) (subst (λ w. AreNew w (entries_of (ordered made_order list))) (sym hs) (settled_new g entries (parts_of clusters) cut.plan k now (picks_of clusters) v list s));
    }
