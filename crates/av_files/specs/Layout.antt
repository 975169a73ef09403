-- The files that a world and a rest are written as.
use Rattle.std.specs.Prelude.{ℕ, ℤ, List, [], ◌∷◌, Option, Some, None, Bool, if◌then◌else◌, map, option_map}
use Rattle.std.specs.List.{range_with_len}
use Rattle.av_types.specs.Positions.{chunk_at}
use Rattle.av_types.specs.Water.{is_source}
use Rattle.av_types.specs.declared.position.Pos.{Pos}
use Rattle.av_types.specs.declared.position.ChunkPos.{ChunkPos}
use Rattle.av_types.specs.declared.position.RegionPos.{RegionPos}
use Rattle.av_nbt.specs.Writing.{written_document}
use Rattle.av_region.specs.Layout.{region_bytes, first_too_large}
use Rattle.av_state.specs.BlockState.{BlockState}
use Rattle.av_rules.specs.Rows.{BlockTable, wet_in}
use Rattle.av_document.specs.Layout.{chunk_layout}
use Rattle.av_land.specs.Land.{Land, has_chunk}
use Rattle.av_files.specs.Files.{File}
use Rattle.av_files.specs.Denotes.{Rest}

-- the light of a chunk's section, by its number, 2,048 bytes
abbrev pub Lights : Type 0
Lights = ChunkPos → ℤ → List ℕ

-- which blocks hold a source, by a block table
abbrev pub sources_of : BlockTable → Land BlockState → Pos → Bool
sources_of t w p = is_source (wet_in t (w.at p))

-- a loaded chunk, after so many ticks
abbrev pub chunk_bytes : (Pos → Bool) → Land BlockState → Rest → Lights → ℕ → ChunkPos → List ℕ
chunk_bytes sources w r light n c = written_document (chunk_layout c w.height w.at (w.lists c) sources (r.chunk c) (light c) n)

-- what is written at a chunk's index
abbrev pub payload_of : (Pos → Bool) → Land BlockState → Rest → Lights → ℕ → ChunkPos → Option (List ℕ)
payload_of sources w r light n c = if has_chunk w.chunks c then Some (chunk_bytes sources w r light n c) else r.kept c

-- the indices of a region
abbrev pub indices : List ℕ
indices = range_with_len 0 1024

abbrev pub payloads : (Pos → Bool) → Land BlockState → Rest → Lights → ℕ → RegionPos → List (Option (List ℕ))
payloads sources w r light n region = map (λ i. payload_of sources w r light n (chunk_at region i)) indices

abbrev pub stamps : Rest → RegionPos → List ℕ
stamps r region = map (r.stamp region) indices

abbrev pub file_layout : (Pos → Bool) → Land BlockState → Rest → Lights → ℕ → RegionPos → File
file_layout sources w r light n region = record { pos = region; bytes = region_bytes (payloads sources w r light n region) (stamps r region) }

abbrev pub layout_by : (Pos → Bool) → Land BlockState → Rest → Lights → ℕ → List File
layout_by sources w r light n = map (file_layout sources w r light n) r.regions

-- The files of a world, its rest and its light after so many ticks, by the table that says which states hold a source.
abbrev pub layout : BlockTable → Land BlockState → Rest → Lights → ℕ → List File
layout t w r light n = layout_by (sources_of t w) w r light n

abbrev pub first_or : Option ChunkPos → Option ChunkPos → Option ChunkPos
first_or None o = o
first_or (Some c) o = Some c

-- the first chunk of some regions that is too large for a file
abbrev pub too_large_in : (Pos → Bool) → Land BlockState → Rest → Lights → ℕ → List RegionPos → Option ChunkPos
too_large_in sources w r light n [] = None
too_large_in sources w r light n (region ∷ regions) = first_or (option_map (chunk_at region) (first_too_large (payloads sources w r light n region))) (too_large_in sources w r light n regions)

abbrev pub too_large_by : (Pos → Bool) → Land BlockState → Rest → Lights → ℕ → Option ChunkPos
too_large_by sources w r light n = too_large_in sources w r light n r.regions

-- The first chunk that is too large, by (z, x) of its region and then its index.
abbrev pub too_large : BlockTable → Land BlockState → Rest → Lights → ℕ → Option ChunkPos
too_large t w r light n = too_large_by (sources_of t w) w r light n
