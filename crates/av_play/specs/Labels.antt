-- Labels by which a plan can be found: entries that share a section have one label, and entries of one label are linked.
use Rattle.std.specs.Prelude.{◌≡◌, ℕ, List}
use Rattle.std.specs.List.{Contains}
use Rattle.av_cells.specs.World.{World}
use Rattle.av_play.specs.declared.event.DueEntry.{DueEntry}
use Rattle.av_play.specs.Parts.{ShareSection, AreLinked}

pub record AreLabelled (w : World) (all : List DueEntry) (label : ℕ → ℕ) : Type 0 where
  pub same : (a b : DueEntry) → Contains all a → Contains all b → ShareSection w a.entry.pos b.entry.pos → label a.index ≡ label b.index
  pub linked : (a b : DueEntry) → Contains all a → Contains all b → label a.index ≡ label b.index → AreLinked w all a b
