-- What a run of the whole program answers.
use Rattle.std.specs.Prelude.{◌≡◌, ℕ, List, length, Some, None}
use Rattle.av_types.specs.declared.position.Height.{Height}
use Rattle.av_types.specs.declared.position.ChunkPos.{ChunkPos}
use Rattle.av_types.specs.declared.fault.Fault.{Fault}
use Rattle.av_types.specs.declared.fault.Fault.TheVariants.{ChunkTooLarge}
use Rattle.av_state.specs.BlockState.{BlockState}
use Rattle.av_rules.specs.Rows.{BlockTable}
use Rattle.av_land.specs.Land.{Land}
use Rattle.av_files.specs.Files.{File}
use Rattle.av_files.specs.Denotes.{Rest, Denotes}
use Rattle.av_files.specs.Layout.{Lights, layout, too_large}
use Rattle.av_land.specs.Resumed.{shifted}
use Rattle.av_files.specs.Light.{IsLit}
use Rattle.av_edits.specs.Edits.{edits_of}
use Rattle.av_files.specs.FirstFault.{IsAccepted, IsFirstFault}
use Rattle.av_files.specs.Run.{IsRun}

-- an accepted input, the world that it denotes and the rest, the world that the rule reaches, and its light
pub record Reaches (files : List File) (table edits : List ℕ) (n k : ℕ) (rest : Rest) (rules : BlockTable) (height : Height) (reached : Land BlockState) (light : Lights) (turns chunks : ℕ) : Type 0 where
  pub world : Land BlockState
  pub accepted : IsAccepted files table edits n k rules height world rest
  pub runs : IsRun rules world (edits_of edits) n reached turns
  pub lit : IsLit rules reached light
  pub loaded : chunks ≡ length world.chunks

-- The input is accepted; the files written decode to the world that the rule reaches, sooner by the ticks that were run, with the same
-- rest, and they are just the files that these are laid out as, with the light of the brightest paths.
pub record Headline (files : List File) (table edits : List ℕ) (n k : ℕ) (out : List File) (turns chunks : ℕ) : Type 0 where
  pub rules : BlockTable
  pub height : Height
  pub rest : Rest
  pub reached : Land BlockState
  pub light : Lights
  pub reaches : Reaches files table edits n k rest rules height reached light turns chunks
  pub decodes : Denotes height out (shifted n reached) rest
  pub bytes : out ≡ layout rules reached rest light n
  pub fits : too_large rules reached rest light n ≡ None

-- the input is accepted, and of what is to be written this chunk is the first that is too large
pub record IsTooLarge (files : List File) (table edits : List ℕ) (n k : ℕ) (c : ChunkPos) : Type 0 where
  pub rules : BlockTable
  pub height : Height
  pub rest : Rest
  pub reached : Land BlockState
  pub light : Lights
  pub turns : ℕ
  pub chunks : ℕ
  pub reaches : Reaches files table edits n k rest rules height reached light turns chunks
  pub first : too_large rules reached rest light n ≡ Some c

-- why a run is refused, but for want of memory
pub data IsRunRefused (files : List File) (table edits : List ℕ) (n k : ℕ) (e : Fault) : Type 0 where
  input : IsFirstFault files table edits n k e → IsRunRefused files table edits n k e
  output : (c : ChunkPos) → e ≡ ChunkTooLarge c → IsTooLarge files table edits n k c → IsRunRefused files table edits n k e
