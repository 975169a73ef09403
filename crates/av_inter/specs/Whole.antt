-- The whole that a world and the parcels out of it make.
use Rattle.std.specs.Prelude.{List, [], ◌∷◌, Option, Some, None, if◌then◌else◌}
use Rattle.av_types.specs.declared.position.Pos.{Pos}
use Rattle.av_types.specs.declared.tick.Made.{Made}
use Rattle.av_cells.specs.World.{World}
use Rattle.av_play.specs.Play.{entries_of}
use Rattle.av_play.specs.Waiting.{with_entries}
use Rattle.av_inter.specs.Out.{Out}

-- what is read of a block: in the parcel that has it, or else in the rest
abbrev pub read : {X : Type 0} → (World → Pos → X) → List (Option Out) → World → Pos → X
read f [] rest q = f rest q
read f (None ∷ os) rest q = read f os rest q
read f (Some o ∷ os) rest q = if o.blocks.loaded q then f o.blocks q else read f os rest q

-- the parcels over the rest
abbrev pub joined : List (Option Out) → World → World
joined os rest = record { loaded = read (λ w. w.loaded) os rest; number = read (λ w. w.number) os rest; pending = read (λ w. w.pending) os rest }

-- what was put aside is pending too, also when its parcel is back
abbrev pub whole : List (Option Out) → World → List Made → World
whole os rest made = with_entries (joined os rest) (entries_of made)
