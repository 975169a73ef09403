-- What a tick asks of a world, and keeps.
use Rattle.std.specs.Borrow.{Bor, MutBor}
use Rattle.std.specs.Prelude.{◌≡◌, ℕ, ◌<◌, ◌≤◌, IsTrue, List, All, true, false, Result, OnOk, OnErr, IfOk, IfErr}
use Rattle.av_types.specs.declared.position.ChunkPos.{ChunkPos}
use Rattle.av_types.specs.declared.position.SectionPos.{SectionPos}
use Rattle.av_types.specs.declared.fault.Fault.{Fault}
use Rattle.av_types.specs.declared.fault.Fault.TheVariants.{OutOfMemory}
use Rattle.av_rules.specs.Kinds.{kind_count}
use Rattle.av_rules.specs.declared.kinds.Kinds.{Kinds}
use Rattle.av_cells.specs.Kinds.{kinds_of}
use Rattle.av_cells.specs.Rule.{HasKinds}
use Rattle.av_land.specs.Tick.{ticked, tick_count}
use Rattle.av_world.specs.Views.{blocks, site, is_broken, room, CanSetAt}
use Rattle.av_world.specs.Lands.{IsUncarved, land_of}
use Rattle.av_world.specs.declared.worlds.World.{World}
use Rattle.av_edits.specs.declared.edit.Edit.{Edit}
use Rattle.av_edits.specs.Numbered.{number_sets}

-- no section is out, and each block's number has a kind
pub record IsReady (kinds : ℕ) (w : World) : Type 0 where
  pub whole : IsUncarved w
  pub numbers : HasKinds kinds (blocks w)

-- the same chunks are there and the same blocks are loaded
pub record HasSameChunks (old new : World) : Type 0 where
  pub site_is : site new ≡ site old
  pub loaded_is : (blocks new).loaded ≡ (blocks old).loaded

-- each list has room for no fewer entries, and what a section was prepared for, it still is
pub record IsStillPrepared (old new : World) : Type 0 where
  pub room_grows : (c : ChunkPos) → room old c ≤ room new c
  pub prepared : (s : SectionPos) (n : ℕ) → CanSetAt old s n → CanSetAt new s n

-- an edit of a loaded block, to a number that has a kind
pub record CanApply (kinds : ℕ) (w : World) (e : Edit) : Type 0 where
  pub loaded : IsTrue ((blocks w).loaded e.pos)
  pub number : e.number < kinds

-- a tick with these edits can be taken
pub record CanTick (k : Kinds) (w : World) (edits : List Edit) : Type 0 where
  pub ready : IsReady (kind_count k) w
  pub sound : is_broken w ≡ false
  pub edits_fit : All (CanApply (kind_count k) w) edits

-- tick now of a world that is not broken: its edits and then what is due, of which it answers how much; or want of memory, and then the
-- world is broken
pub record IsTick (k : Kinds) (now : ℕ) (edits : List Edit) (old new : World) (answer : Result ℕ Fault) : Type 0 where
  pub done : OnOk answer (land_of new ≡ ticked (kinds_of k) now (number_sets edits) (land_of old))
  pub count : IfOk answer (λ n. n ≡ tick_count (kinds_of k) now (number_sets edits) (land_of old))
  pub ready : OnOk answer (IsReady (kind_count k) new)
  pub chunks : OnOk answer (HasSameChunks old new)
  pub broken : OnErr answer (is_broken new ≡ true)
  pub fault : IfErr answer (λ e. e ≡ OutOfMemory)

-- a function may be called for each tick that can be taken
abbrev pub AcceptsTicks : Kinds → (MutBor World → ℕ → Bor (List Edit) → Type 0) → Type 0
AcceptsTicks k pre = (w : MutBor World) (now : ℕ) (edits : Bor (List Edit)) → CanTick k w.now edits.now → pre w now edits

-- and its calls then take the tick
abbrev pub TakesTicks : Kinds → (MutBor World → ℕ → Bor (List Edit) → Result ℕ Fault → MutBor World → Type 0) → Type 0
TakesTicks k post =
    (w : MutBor World) (now : ℕ) (edits : Bor (List Edit)) (answer : Result ℕ Fault) (left : MutBor World) → CanTick k w.now edits.now → post w now edits answer left → IsTick k now edits.now w.now left.now answer
