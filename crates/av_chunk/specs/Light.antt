-- The block light of a chunk's sections: 2,048 bytes for each, the lowest section first (minecraft.wiki, "Chunk format").
use Rattle.std.specs.Prelude.{ℕ, ◌*◌, ◌+◌, List, slice_range}
use Rattle.av_chunk.specs.declared.light.ChunkLight.{ChunkLight}

-- how many sections there are
abbrev pub section_count : ChunkLight → ℕ
section_count l = l.sections

-- the bytes of all sections, one after the other
abbrev pub light_bytes : ChunkLight → List ℕ
light_bytes l = l.bytes.items

-- the bytes of one section, counted from 0
abbrev pub light_section : ChunkLight → ℕ → List ℕ
light_section l index = slice_range (light_bytes l) (2048 * index) (2048 * index + 2048)
