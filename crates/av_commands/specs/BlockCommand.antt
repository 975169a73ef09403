-- What `block` answers for a file: its line, or why there is none.
use Rattle.std.specs.Prelude.{◌≡◌, ◌⊎◌, ℕ, List, Option, Some, None, codes}
use Rattle.std.specs.Io.KnownBytes.{Appends}
use Rattle.av_types.specs.Positions.{IsInLimits}
use Rattle.av_types.specs.declared.position.Pos.{Pos}
use Rattle.av_types.specs.declared.position.RegionPos.{RegionPos}
use Rattle.av_types.specs.declared.position.Height.{Height}
use Rattle.av_types.specs.declared.fault.Fault.TheVariants.{OutOfMemory, RegionRange}
use Rattle.av_state.specs.BlockState.{BlockState}
use Rattle.av_state.specs.Words.{state_text}
use Rattle.av_codec.specs.Block.{IsFound, IsBlockRefused}
use Rattle.av_commands.specs.declared.block.refusal.Refusal.{Refusal}
use Rattle.av_commands.specs.declared.block.refusal.Refusal.TheVariants as refusal
use Rattle.av_region_files.specs.Names.{region_name_of}
use Rattle.av_reports.specs.Names.{FitsRegion, IsFileNameOf}
use Rattle.av_reports.specs.Output.{HasBegun, line}

-- the line for a block, or for one that is not loaded
abbrev pub answer_line : Option BlockState → List ℕ
answer_line None = line (codes "unloaded")
answer_line (Some s) = line (state_text s)

-- the path ends in the name of this region, whose coordinates are numbers of 32 bits
pub record IsPathOf (path : List ℕ) (region : RegionPos) : Type 0 where
  pub fits : FitsRegion region
  pub name : List ℕ
  pub file_name : IsFileNameOf path name
  pub named : name ≡ region_name_of region

-- the path ends in no region's name
pub record IsPathOfNone (path : List ℕ) : Type 0 where
  pub name : List ℕ
  pub file_name : IsFileNameOf path name
  pub unnamed : (region : RegionPos) → FitsRegion region → name ≡ region_name_of region → ⊥

-- why a path gives no region
abbrev pub IsPathRefused : List ℕ → Refusal → Type 0
IsPathRefused path refusal.Name = IsPathOfNone path
IsPathRefused path (refusal.Fault e) = (e ≡ OutOfMemory) ⊎ ((e ≡ RegionRange) × (region : RegionPos) × IsPathOf path region × (IsInLimits region → ⊥))

-- the line for the block at a position of a region's file
pub record IsBlockLine (path file : List ℕ) (at : Pos) (h : Height) (text : List ℕ) : Type 0 where
  pub region : RegionPos
  pub path_of : IsPathOf path region
  pub in_limits : IsInLimits region
  pub found : Option BlockState
  pub there : IsFound file region h at found
  pub printed : text ≡ answer_line found

-- why there is no line
abbrev pub IsBlockRefusal : List ℕ → List ℕ → Pos → Height → Refusal → Type 0
IsBlockRefusal path file at h refusal.Name = IsPathOfNone path
IsBlockRefusal path file at h (refusal.Fault e) = IsPathRefused path (refusal.Fault e)
    ⊎ ((region : RegionPos) × IsPathOf path region × IsInLimits region × IsBlockRefused file region h at e)

-- the status after a refusal
abbrev pub status_of : Refusal → ℕ
status_of refusal.Name = 2
status_of (refusal.Fault e) = 1

-- what a call has written to its output, and its status: the line; its beginning and 1 where a write was refused; or nothing and
-- a refusal's status
pub data HasAnswered (path file : List ℕ) (at : Pos) (h : Height) (before after : Option (List ℕ)) (status : ℕ) : Type 0 where
  written : (text : List ℕ) → IsBlockLine path file at h text → Appends before after text → status ≡ 0 → HasAnswered path file at h before after status
  unwritten : (text : List ℕ) → IsBlockLine path file at h text → HasBegun before after text → status ≡ 1 → HasAnswered path file at h before after status
  refused : (r : Refusal) → IsBlockRefusal path file at h r → after ≡ before → status ≡ status_of r → HasAnswered path file at h before after status
