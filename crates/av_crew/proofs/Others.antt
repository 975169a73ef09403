-- The blocks of no part, while parts are out and when they are back.
use Rattle.std.proofs.Common.{◌≡◌, ℕ, Bool, false, cond, List, [], ◌∷◌, length, take, Option, Some, None, refl, ap, ◌∙◌, IsTrue}
use Rattle.std.proofs.lemmas.List.Elements.{recursion_from_All, All-from_recursion}
use Rattle.std.proofs.lemmas.List.Sorted.{All-permutation}
use Rattle.std.specs.List.{AllByRecursion, AllZip}
use Rattle.std.proofs.lemmas.Bool.{false_from_ne_true}
use Rattle.av_types.proofs.Each.{each_then}
use Rattle.av_types.specs.Positions.{section_of, place_of}
use Rattle.av_types.specs.declared.position.Pos.{Pos}
use Rattle.av_types.specs.declared.position.SectionPos.{SectionPos}
use Rattle.av_types.specs.declared.fault.Fault.{Fault}
use Rattle.av_cells.specs.declared.kind.Kind.{Kind}
use Rattle.av_cells.specs.World.{World, Lists}
use Rattle.av_cells.specs.Grid.{Grid, is_here, number_in, pending_in, cells_of}
use Rattle.av_play.specs.declared.event.DueEntry.{DueEntry}
use Rattle.av_play.proofs.Projection.{after_loaded}
use Rattle.av_world.specs.ParcelViews.{blocks, lists}
use Rattle.av_crew.specs.declared.jobs.Job.{Job}
use Rattle.av_crew.specs.declared.jobs.Done.{Done}
use Rattle.av_crew.specs.Work.{AreTurned, IsDoneOf}
use Rattle.av_crew.specs.Answer.{AnswersAll}
use Rattle.av_crew.specs.Jobs.{IsJob, AreJobs, mended_all, IsCarved}
use Rattle.av_crew.specs.Parts.{AreOthersKept}
use Rattle.av_crew.proofs.Mending.{passed}
use Rattle.av_crew.proofs.Settling.{each_is}

pub kept_same : (picks : ℕ → SectionPos → Bool) (w : World) → AreOthersKept picks w w
kept_same picks w = record { same = λ p f. (refl, refl, refl) }

pub kept_carved : (g : Grid) (picks : ℕ → SectionPos → Bool) (count : ℕ) (rest : Grid) → IsCarved g picks count rest → AreOthersKept picks (cells_of g) (cells_of rest)
kept_carved g picks count rest c =
    record { same = λ p f. let e = c.others (section_of p) (λ n u. f n) in (ap is_here e, ap (λ o. number_in o (place_of p)) e, ap (λ o. pending_in o (place_of p)) e) }

-- turns load no block, and unload none
turned_loaded : (k : ℕ → Kind) (now count : ℕ) (j : Job) (d : Done) → AreTurned k now count j.entries.items (blocks j.parcel) (blocks d.parcel) (lists j.parcel) (lists d.parcel) d.made.items → (blocks d.parcel).loaded ≡ (blocks j.parcel).loaded
turned_loaded k now count j d t = ap (λ (w : World). w.loaded) t.world ∙ after_loaded k now (take count j.entries.items) (blocks j.parcel)

done_loaded : (k : ℕ → Kind) (now : ℕ) (j : Job) (d : Done) → IsDoneOf k now j d → (blocks d.parcel).loaded ≡ (blocks j.parcel).loaded
done_loaded k now j d i = by d.fault refl where
  by : (o : Option Fault) → d.fault ≡ o → (blocks d.parcel).loaded ≡ (blocks j.parcel).loaded
  by None e = turned_loaded k now (length j.entries.items) j d (i.whole e)
  by (Some f) e = let b = (i.begun f e).1 in turned_loaded k now b.count j d b.turned

zip_without : (k : ℕ → Kind) (now : ℕ) (q : Pos) (order : List Job) (dones : List Done) → AllByRecursion (λ j. (blocks j.parcel).loaded q ≡ false) order → AllZip (IsDoneOf k now) order dones → AllByRecursion (λ d. (blocks d.parcel).loaded q ≡ false) dones
zip_without k now q [] [] h z = tt
zip_without k now q [] (d ∷ ds) h z = absurd z
zip_without k now q (j ∷ js) [] h z = absurd z
zip_without k now q (j ∷ js) (d ∷ ds) h z = (ap (λ f. f q) (done_loaded k now j d z.0) ∙ h.0, zip_without k now q js ds h.1 z.1)

module _ (g : Grid) (parts : List (List DueEntry)) (picks : ℕ → SectionPos → Bool) where
  abbrev Is : Job → Type 0
  Is j = (m : ℕ) × IsJob g parts picks m j

  job_without : (q : Pos) → ((n : ℕ) → ¬ IsTrue (picks n (section_of q))) → (j : Job) → Is j → (blocks j.parcel).loaded q ≡ false
  job_without q f j i = ap (λ (w : World). w.loaded q) i.1.blocks_are ∙ ap (λ b. is_here (cond b (g (section_of q)) None)) (false_from_ne_true (picks i.0 (section_of q)) (f i.0))

  pub kept_mended : (k : ℕ → Kind) (now : ℕ) (l : Lists) (count : ℕ) (rest : Grid) → IsCarved g picks count rest → (jobs : List Job) → AreJobs g parts picks 0 jobs → (dones : List Done) → AnswersAll k now jobs dones
      → (h : World) → h ≡ mended_all (λ d. blocks d.parcel) l dones (cells_of rest) → AreOthersKept picks (cells_of g) h
  kept_mended k now l count rest c jobs are dones a h e =
      let known : AllByRecursion Is a.order = recursion_from_All Is a.order (All-permutation Is jobs a.order a.permuted (All-from_recursion Is jobs (each_is g parts picks 0 jobs are))) in
      record {
        same = λ p f.
            let out = zip_without k now p a.order dones (each_then Is (λ j. (blocks j.parcel).loaded p ≡ false) (job_without p f) a.order known) a.answered in
            let s = passed (λ (d : Done). blocks d.parcel) l p dones (cells_of rest) out in
            let r = (kept_carved g picks count rest c).same p f in
            (ap (λ (w : World). w.loaded p) e ∙ s.loaded ∙ r.0, ap (λ (w : World). w.number p) e ∙ s.number ∙ r.1, ap (λ (w : World). w.pending p) e ∙ s.pending ∙ r.2);
      }
