-- Worlds that can be written.
use Rattle.std.specs.Prelude.{◌≡◌, ℕ, ℤ, List, [], true, false, length, slice_get, Some}
use Rattle.std.specs.List.{AllByRecursion}
use Rattle.av_types.specs.Positions.{is_section_of}
use Rattle.av_types.specs.declared.position.ChunkPos.{ChunkPos}
use Rattle.av_types.specs.declared.position.Height.{Height}
use Rattle.av_types.specs.declared.position.Pos.{Pos}
use Rattle.av_state.specs.BlockState.{BlockState, air, is_storable}
use Rattle.av_document.specs.Law.{IsLawful, HasInts}
use Rattle.av_land.specs.Land.{Land, has_chunk, is_loaded}
use Rattle.av_files.specs.Layout.{Lights}

-- after so many ticks
pub record IsLawfulLand (w : Land BlockState) (n : ℕ) : Type 0 where
  pub chunks : (c : ChunkPos) → has_chunk w.chunks c ≡ true → IsLawful c w.height w.at (w.lists c)
  pub ints : (c : ChunkPos) → has_chunk w.chunks c ≡ true → AllByRecursion (HasInts n) (w.lists c)
  pub air_elsewhere : (p : Pos) → is_loaded w p ≡ false → w.at p ≡ air
  pub none_elsewhere : (c : ChunkPos) → has_chunk w.chunks c ≡ false → w.lists c ≡ []

abbrev pub AreLights : Height → Lights → Type 0
AreLights h light = (c : ChunkPos) (y : ℤ) → is_section_of h y ≡ true → length (light c y) ≡ 2048

-- the states of a table can be held by a file
abbrev pub AreStorable : List BlockState → Type 0
AreStorable states = (i : ℕ) (s : BlockState) → slice_get states i ≡ Some s → is_storable s ≡ true
