-- Where a part is changes nothing else.
use Rattle.std.proofs.Common.{◌≡◌, ℕ, List, Option, Some, ◌⊎◌, inl, inr, sym, ap, ◌∙◌, length-set, slice_get, slice_set}
use Rattle.av_types.specs.declared.position.ChunkPos.{ChunkPos}
use Rattle.av_types.specs.declared.position.SectionPos.{SectionPos}
use Rattle.av_types.specs.declared.position.Height.{Height}
use Rattle.av_types.specs.declared.tick.Made.{Made}
use Rattle.av_cells.specs.World.{World, Lists}
use Rattle.av_play.specs.declared.event.DueEntry.{DueEntry}
use Rattle.av_play.specs.declared.event.Stage.{Stage}
use Rattle.av_play.proofs.Lists.{at_set}
use Rattle.av_inter.specs.Out.{Out}
use Rattle.av_inter.specs.Lawful.{is_home, is_ended, IsCore}

module _ (count : ℕ) (h : Height) (ps : List ChunkPos) (l : Lists) (rest : World) (secs : List (List SectionPos)) (parts : List (List DueEntry)) (stages : List Stage) (os : List (Option Out)) (made : List Made)
    (core : IsCore count h ps l rest secs parts stages os made) (n : ℕ) (old new : Stage) (at : slice_get stages n ≡ Some old) (same : is_ended (Some old) ≡ is_ended (Some new)) where
  pub core_stage : IsCore count h ps l rest secs parts (slice_set stages n new) os made
  core_stage =
      record {
        counted = core.counted ∙ sym (length-set stages n new);
        back = λ m. back_at m (at_set stages n m old new at);
        out = core.out;
        away = core.away;
        apart = core.apart;
        own = core.own;
        here = core.here;
        within = core.within;
        fresh = core.fresh;
      }
    where
      back_at : (m : ℕ) → ((m ≡ n) × (slice_get (slice_set stages n new) m ≡ Some new)) ⊎ ((¬ (m ≡ n)) × (slice_get (slice_set stages n new) m ≡ slice_get stages m)) → is_home (slice_get os m) ≡ is_ended (slice_get (slice_set stages n new) m)
      back_at m (inl g) = core.back m ∙ ap (λ j. is_ended (slice_get stages j)) g.0 ∙ ap is_ended at ∙ same ∙ sym (ap is_ended g.1)
      back_at m (inr g) = core.back m ∙ ap is_ended (sym g.1)
