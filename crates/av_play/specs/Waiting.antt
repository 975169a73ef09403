-- Which blocks wait after turns: those that waited before, and those of which an entry was made.
use Rattle.std.specs.Prelude.{◌≡◌, Bool, true, false, if◌then◌else◌, List, [], ◌∷◌}
use Rattle.av_types.specs.declared.position.Pos.{Pos}
use Rattle.av_types.specs.declared.tick.Entry.{Entry}
use Rattle.av_cells.specs.Positions.{same_pos}
use Rattle.av_cells.specs.World.{World, Lists, listed_all}
use Rattle.av_play.specs.Play.{Outcome}

-- an entry of the block is among these
abbrev pub is_among : Pos → List Entry → Bool
is_among q [] = false
is_among q (e ∷ es) = if same_pos q e.pos then true else is_among q es

-- the blocks of these entries pending too
abbrev pub with_entries : World → List Entry → World
with_entries w es =
    record {
      loaded = w.loaded;
      number = w.number;
      pending = λ q. if is_among q es then true else w.pending q;
    }

-- each is of a block that did not wait, and no two are of one block
abbrev pub AreNew : World → List Entry → Type 0
AreNew w [] = Unit {0}
AreNew w (e ∷ es) = (w.pending e.pos ≡ false) × (is_among e.pos es ≡ false) × AreNew w es

-- entries appended: their blocks are pending too, and they stand at the ends of their chunks' lists
abbrev pub appended : World → Lists → List Entry → Outcome
appended w lists es = record { world = with_entries w es; lists = listed_all lists es }
