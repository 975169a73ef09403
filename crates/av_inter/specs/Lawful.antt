-- What holds of every core.
use Rattle.std.specs.Prelude.{◌≡◌, ℕ, Bool, true, false, not, ◌&&◌, ◌||◌, List, [], ◌∷◌, Option, Some, None, length}
use Rattle.av_types.specs.declared.tick.Entry.{Entry}
use Rattle.std.specs.List.{slice_get, Contains}
use Rattle.av_types.specs.Positions.{chunk_of, section_of}
use Rattle.av_types.specs.declared.position.Pos.{Pos}
use Rattle.av_types.specs.declared.position.ChunkPos.{ChunkPos}
use Rattle.av_types.specs.declared.position.SectionPos.{SectionPos}
use Rattle.av_types.specs.declared.position.Height.{Height}
use Rattle.av_types.specs.declared.tick.Made.{Made}
use Rattle.av_ticks.specs.Entries.{is_pending}
use Rattle.av_cells.specs.Positions.{InReach}
use Rattle.av_cells.specs.Rule.{HasKinds}
use Rattle.av_cells.specs.World.{World, Lists}
use Rattle.av_cells.specs.Grid.{among}
use Rattle.av_world.specs.OutOf.{IsPartOf}
use Rattle.av_play.specs.declared.event.DueEntry.{DueEntry}
use Rattle.av_play.specs.declared.event.Stage.{Stage}
use Rattle.av_play.specs.declared.event.Stage.TheVariants.{Ended}
use Rattle.av_play.specs.Parts.{part_at}
use Rattle.av_play.specs.Play.{entries_of}
use Rattle.av_play.specs.Waiting.{is_among}
use Rattle.av_cluster.specs.Clusters.{sections_at}
use Rattle.av_inter.specs.Out.{Out}
use Rattle.av_inter.specs.Whole.{whole}

-- the n-th parcel is out
abbrev pub HasOut : List (Option Out) → ℕ → Out → Type 0
HasOut os n o = slice_get os n ≡ Some (Some o)

-- the parcel of a part is no longer out
abbrev pub is_home : Option (Option Out) → Bool
is_home (Some None) = true
is_home _ = false

-- the part is back
abbrev pub is_ended : Option Stage → Bool
is_ended (Some Ended) = true
is_ended _ = false

-- a block that is not loaded has no number and does not wait
pub record IsBlank (w : World) (q : Pos) : Type 0 where
  pub number : w.number q ≡ 0
  pub pending : w.pending q ≡ false

-- A parcel of these sections. What waits in it is what the world's lists have and what was put aside by any part.
pub record IsOut (count : ℕ) (h : Height) (ps : List ChunkPos) (l : Lists) (made : List Made) (sections : List SectionPos) (o : Out) : Type 0 where
  pub inside : (q : Pos) → o.blocks.loaded q ≡ among sections (section_of q)
  pub part : IsPartOf h ps l o.blocks o.aside
  pub waits : (q : Pos) → o.blocks.loaded q ≡ true → o.blocks.pending q ≡ is_pending q (l (chunk_of q)) || is_among q (entries_of made)
  pub blank : (q : Pos) → o.blocks.loaded q ≡ false → IsBlank o.blocks q
  pub known : HasKinds count o.blocks

-- a world whose blocks wait where the lists say so
abbrev pub listed : World → Lists → World
listed w l = record { loaded = w.loaded; number = w.number; pending = λ q. w.loaded q && is_pending q (l (chunk_of q)) }

-- each is of a block that does not wait, and no two are of one block
abbrev pub are_new : World → List Entry → Bool
are_new w [] = true
are_new w (e ∷ es) = not (w.pending e.pos) && not (is_among e.pos es) && are_new w es

-- The sections of each part are in a parcel until the part is back. No section is of two parts, and a part has all that its entries' turns can
-- reach. What was put aside is of loaded blocks that do not wait in the lists, and of each once.
pub record IsCore (count : ℕ) (h : Height) (ps : List ChunkPos) (l : Lists) (rest : World) (sections : List (List SectionPos)) (parts : List (List DueEntry)) (stages : List Stage) (os : List (Option Out)) (made : List Made) : Type 0 where
  pub counted : length os ≡ length stages
  pub back : (n : ℕ) → is_home (slice_get os n) ≡ is_ended (slice_get stages n)
  pub out : (n : ℕ) (o : Out) → HasOut os n o → IsOut count h ps l made (sections_at sections n) o
  pub away : (n : ℕ) (o : Out) (q : Pos) → HasOut os n o → among (sections_at sections n) (section_of q) ≡ true → rest.loaded q ≡ false
  pub apart : (m n : ℕ) (s : SectionPos) → among (sections_at sections m) s ≡ true → among (sections_at sections n) s ≡ true → m ≡ n
  pub own : (n : ℕ) (x : DueEntry) (q : Pos) → Contains (part_at parts n) x → InReach x.entry.pos q → (whole os rest made).loaded q ≡ true → among (sections_at sections n) (section_of q) ≡ true
  pub here : (n : ℕ) (x : DueEntry) → Contains (part_at parts n) x → (whole os rest made).loaded x.entry.pos ≡ true
  pub within : (q : Pos) → is_among q (entries_of made) ≡ true → (whole os rest made).loaded q ≡ true
  pub fresh : are_new (listed (whole os rest made) l) (entries_of made) ≡ true
