-- A part of a world is a part of it after turns.
use Rattle.std.proofs.Common.{◌≡◌, ℕ, Bool, true, false, cond, ◌||◌, List, [], ◌∷◌, length, take, Option, Some, None, refl, sym, ap, subst, ◌∙◌, IsTrue}
use Rattle.std.proofs.lemmas.Bool.{true≢false, or_parts}
use Rattle.av_play.proofs.LandTurns.{listed_pending}
use Rattle.av_types.specs.Positions.{chunk_of}
use Rattle.av_types.specs.declared.position.Pos.{Pos}
use Rattle.av_types.specs.declared.position.ChunkPos.{ChunkPos}
use Rattle.av_types.specs.declared.position.Height.{Height}
use Rattle.av_types.specs.declared.tick.Entry.{Entry}
use Rattle.av_types.specs.declared.tick.Made.{Made}
use Rattle.av_ticks.specs.Entries.{is_pending}
use Rattle.av_cells.specs.declared.kind.Kind.{Kind}
use Rattle.av_cells.specs.Positions.{same_pos}
use Rattle.av_cells.specs.World.{World, Lists, listed_all}
use Rattle.av_play.specs.declared.event.DueEntry.{DueEntry}
use Rattle.av_play.specs.Play.{world_after, made_after, entries_of}
use Rattle.av_play.specs.Waiting.{is_among, AreNew}
use Rattle.av_play.proofs.Projection.{after_loaded}
use Rattle.av_play.proofs.Waiting.{turns_wait, turns_fresh}
use Rattle.av_world.specs.OutOf.{IsPartOf}
use Rattle.av_types.specs.declared.fault.Fault.{Fault}
use Rattle.av_types.proofs.SamePositions.{same_pos_is}
use Rattle.av_world.specs.ParcelViews.{blocks, lists}
use Rattle.av_crew.specs.declared.jobs.Job.{Job}
use Rattle.av_crew.specs.declared.jobs.Done.{Done}
use Rattle.av_crew.specs.Work.{AreTurned, IsDoneOf}

new_among : (w : World) (p : Pos) (es : List Entry) → AreNew w es → is_among p es ≡ true → w.pending p ≡ false
new_among w p [] n h = absurd (true≢false (sym h))
new_among w p (e ∷ es) n h = by (same_pos p e.pos) refl h (new_among w p es n.2) where
  by : (s : Bool) → same_pos p e.pos ≡ s → cond s true (is_among p es) ≡ true → (is_among p es ≡ true → w.pending p ≡ false) → w.pending p ≡ false
  by true s h rest = ap w.pending (same_pos_is p e.pos s) ∙ n.0
  by false s h rest = rest h

module _ (h : Height) (ps : List ChunkPos) (l : Lists) (b : World) (aside : Lists) (i : IsPartOf h ps l b aside) (k : ℕ → Kind) (now : ℕ) (xs : List DueEntry) where
  abbrev made : List Entry
  made = entries_of (made_after k now xs b)

  loaded_is : (p : Pos) → (world_after k now xs b).loaded p ≡ b.loaded p
  loaded_is p = ap (λ f. f p) (after_loaded k now xs b)

  both : (m a c : Bool) → cond m true (a || c) ≡ a || cond m true c
  both true true c = refl
  both true false c = refl
  both false a c = refl

  pub part_after : IsPartOf h ps l (world_after k now xs b) (listed_all aside made)
  part_after =
      record {
        inside = λ p t. i.inside p (sym (loaded_is p) ∙ t);
        tied = λ p t. turns_wait k now xs b p ∙ ap (λ c. cond (is_among p made) true c) (i.tied p (sym (loaded_is p) ∙ t)) ∙ both (is_among p made) (is_pending p (l (chunk_of p))) (is_pending p (aside (chunk_of p)))
            ∙ ap (λ c. is_pending p (l (chunk_of p)) || c) (sym (listed_pending p made aside));
        apart = λ p t e. by p (sym (loaded_is p) ∙ t) (is_among p made) refl (sym (listed_pending p made aside) ∙ e);
      }
    where
      by : (p : Pos) → IsTrue (b.loaded p) → (m : Bool) → is_among p made ≡ m → cond m true (is_pending p (aside (chunk_of p))) ≡ true → is_pending p (l (chunk_of p)) ≡ false
      by p t true m e = (or_parts (is_pending p (l (chunk_of p))) (is_pending p (aside (chunk_of p))) (sym (i.tied p t) ∙ new_among b p made (turns_fresh k now xs b) m)).0
      by p t false m e = i.apart p t e

-- the same, of what was turned
pub stays_part : (h : Height) (ps : List ChunkPos) (l : Lists) (k : ℕ → Kind) (now count : ℕ) (entries : List DueEntry) (old new : World) (aside aside' : Lists) (ms : List Made)
    → AreTurned k now count entries old new aside aside' ms → IsPartOf h ps l old aside → IsPartOf h ps l new aside'
stays_part h ps l k now count entries old new aside aside' ms t i =
    subst (λ w. IsPartOf h ps l w aside') (sym t.world)
    (subst (λ s. IsPartOf h ps l (world_after k now (take count entries) old) s) (sym (t.listed ∙ ap (λ m. listed_all aside (entries_of m)) t.put_aside))
    (part_after h ps l old aside i k now (take count entries)))

-- the same, of a job that was worked off, or begun
pub done_stays : (h : Height) (ps : List ChunkPos) (l : Lists) (k : ℕ → Kind) (now : ℕ) (job : Job) (done : Done) → IsDoneOf k now job done → IsPartOf h ps l (blocks job.parcel) (lists job.parcel) → IsPartOf h ps l (blocks done.parcel) (lists done.parcel)
done_stays h ps l k now job done d i = by done.fault refl where
  by : (o : Option Fault) → done.fault ≡ o → IsPartOf h ps l (blocks done.parcel) (lists done.parcel)
  by None e = stays_part h ps l k now (length job.entries.items) job.entries.items (blocks job.parcel) (blocks done.parcel) (lists job.parcel) (lists done.parcel) done.made.items (d.whole e) i
  by (Some f) e = let b = (d.begun f e).1 in stays_part h ps l k now b.count job.entries.items (blocks job.parcel) (blocks done.parcel) (lists job.parcel) (lists done.parcel) done.made.items b.turned i
