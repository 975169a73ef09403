-- Entries turned in parts, brought together and appended: what turning them one after the other leaves.
use Rattle.std.proofs.Common.{◌≡◌, ◌∙◌, ℕ, ◌≤◌, List, Some, sym, ap}
use Rattle.av_types.specs.declared.tick.Entry.{Entry}
use Rattle.av_types.specs.declared.tick.Made.{Made}
use Rattle.av_cells.specs.declared.kind.Kind.{Kind}
use Rattle.av_cells.specs.Rule.{HasKinds}
use Rattle.av_cells.specs.World as cells
use Rattle.av_cells.specs.World.{listed_all}
use Rattle.av_cells.proofs.Wakes.{HasKinds-same}
use Rattle.av_land.specs.Tick.{turned_all}
use Rattle.av_play.specs.Play.{Outcome, in_order}
use Rattle.av_world.specs.Appended.{entries_made, with_entries}
use Rattle.av_world.specs.Views.{blocks, lists, site, IsSameButBlocks}
use Rattle.av_world.specs.Lands.{land_of, IsUncarved}
use Rattle.av_world.specs.declared.worlds.World.{World}
use Rattle.av_world.proofs.Whole.{cells_of_land, land_after}
use Rattle.av_crew.specs.Gathered.{AreBroughtTogether}
use Rattle.av_crew.proofs.Appended.{entries_are}
use Rattle.av_crew.proofs.LandOrder.{land_with, order_is, order_known, order_loaded}

pub same_site : (v w : World) → IsSameButBlocks v w → site w ≡ site v
same_site v w s = λ i. record { height = Some (s.height i); chunks = (s.positions i).items; broken = s.broken i }

module _ (k : ℕ → Kind) (now : ℕ) (es : List Entry) (mid h new : World) (ms : List Made) (same : IsSameButBlocks mid h) (g : AreBroughtTogether k now es (blocks mid) (lists mid) (blocks h) ms) (s : site new ≡ site h) (b : blocks new ≡ with_entries (blocks h) (entries_made ms)) (l : lists new ≡ listed_all (lists h) (entries_made ms)) where
  abbrev o : Outcome
  o = in_order k now es (blocks mid) (lists mid)

  number : (blocks new).number ≡ o.world.number
  number = ap (λ (w : cells.World). w.number) b ∙ ap (λ (x : Outcome). x.world.number) g.whole

  listed : lists new ≡ o.lists
  listed = l ∙ ap (λ v. listed_all v (entries_made ms)) same.lists_are ∙ ap (listed_all (lists mid)) (entries_are ms) ∙ ap (λ (x : Outcome). x.lists) g.whole

  outcome_loaded : (blocks new).loaded ≡ o.world.loaded
  outcome_loaded = ap (λ (w : cells.World). w.loaded) b ∙ ap (λ (x : Outcome). x.world.loaded) g.whole

  pub ticked_loaded : (blocks new).loaded ≡ (blocks mid).loaded
  ticked_loaded = outcome_loaded ∙ order_loaded k now es (blocks mid) (lists mid)

  pub ticked_known : (n : ℕ) → 10 ≤ n → HasKinds n (blocks mid) → HasKinds n (blocks new)
  ticked_known n ten known = HasKinds-same n o.world (blocks new) (record { loaded = outcome_loaded; number = number }) (order_known k now n es (blocks mid) (lists mid) ten known)

  pub ticked_land : IsUncarved mid → land_of new ≡ turned_all k now es (land_of mid)
  ticked_land whole =
      land_after mid new o.world.number o.lists (s ∙ same_site mid h same) number listed
      ∙ sym (order_is k now es (land_of mid) ∙ ap (λ v. land_with (land_of mid) (in_order k now es v (lists mid))) (cells_of_land mid whole))
