-- What ties reading and writing.
use Rattle.std.specs.Prelude.{◌≡◌, ℕ, ◌≤◌, ℤ, pos, ◌-ℤ◌, FitsSigned, List, length, map, Some, Bool, true}
use Rattle.std.specs.Int.{w32}
use Rattle.std.specs.List.{AllByRecursion}
use Rattle.av_types.specs.Positions.{is_section_of}
use Rattle.av_types.specs.declared.position.Pos.{Pos}
use Rattle.av_types.specs.declared.position.ChunkPos.{ChunkPos}
use Rattle.av_types.specs.declared.position.Height.{Height}
use Rattle.av_types.specs.declared.tick.Entry.{Entry}
use Rattle.av_tags.specs.Nbt.{Document}
use Rattle.av_nbt.specs.Spelling.{SpellsDocument}
use Rattle.av_nbt.specs.Writing.{IsWellFormed, written_document}
use Rattle.av_state.specs.BlockState.{BlockState, meant, is_storable}
use Rattle.av_ticks.specs.Entries.{are_apart}
use Rattle.av_document.specs.Ticks.{lies_in}
use Rattle.av_document.specs.Chunk.{RestOfChunk, DenotesChunk}
use Rattle.av_document.specs.Layout.{chunk_layout}

-- an entry with so many ticks less until it is due
abbrev pub sooner : ℕ → Entry → Entry
sooner n e = record { pos = e.pos; due = e.due -ℤ pos n; priority = e.priority }

-- a state that a file can hold, in the form that it takes when it is read
pub record IsMeant (s : BlockState) : Type 0 where
  pub same : meant s ≡ Some s
  pub storable : is_storable s ≡ true

-- cells and water entries that a loaded chunk can have
pub record IsLawful (c : ChunkPos) (h : Height) (cells : Pos → BlockState) (water : List Entry) : Type 0 where
  pub meant_states : (p : Pos) → lies_in c h p ≡ true → IsMeant (cells p)
  pub within : AllByRecursion (λ e. lies_in c h e.pos ≡ true) water
  pub apart : are_apart water ≡ true

-- What is written for a rest that was read from a well-formed document, with cells and entries that a loaded chunk can have, denotes
-- the same cells, the entries sooner by the ticks that were run, and the same rest.
abbrev pub WrittenDenotes : Type 0
WrittenDenotes = (c : ChunkPos) (h : Height) (d : Document) (cells now : Pos → BlockState) (water then : List Entry) (sources : Pos → Bool) (rest : RestOfChunk) (light : ℤ → List ℕ) (n : ℕ)
    → IsWellFormed d → DenotesChunk c h d cells water rest → IsLawful c h now then → DenotesChunk c h (chunk_layout c h now then sources rest light n) now (map (sooner n) then) rest

-- the same chunk: its blocks, its water entries and its rest, as far as a document says them
pub record IsSameChunk (c : ChunkPos) (h : Height) (cells now : Pos → BlockState) (water then : List Entry) (rest other : RestOfChunk) : Type 0 where
  pub same_cells : (p : Pos) → lies_in c h p ≡ true → cells p ≡ now p
  pub same_water : water ≡ then
  pub same_name : rest.name ≡ other.name
  pub same_tags : rest.tags ≡ other.tags
  pub same_foreign : rest.foreign ≡ other.foreign
  pub same_outside : (y : ℤ) → rest.outside y ≡ other.outside y
  pub same_section : (y : ℤ) → is_section_of h y ≡ true → rest.section y ≡ other.section y

-- A document denotes one chunk at most.
abbrev pub DenotesOne : Type 0
DenotesOne = (c : ChunkPos) (h : Height) (d : Document) (cells now : Pos → BlockState) (water then : List Entry) (rest other : RestOfChunk)
    → DenotesChunk c h d cells water rest → DenotesChunk c h d now then other → IsSameChunk c h cells now water then rest other

-- an entry whose numbers are Ints, once so many ticks were run
pub record HasInts (n : ℕ) (e : Entry) : Type 0 where
  pub int_x : FitsSigned w32 e.pos.x
  pub int_y : FitsSigned w32 e.pos.y
  pub int_z : FitsSigned w32 e.pos.z
  pub int_due : FitsSigned w32 (e.due -ℤ pos n)
  pub int_priority : FitsSigned w32 e.priority

-- What is written for a rest that was read from a document of at most 1,044,475 bytes has a spelling, with cells and entries that a
-- loaded chunk can have, entries whose numbers fit an Int with the ticks run, and 2,048 bytes of light for each section of the height.
abbrev pub WrittenIsWellFormed : Type 0
WrittenIsWellFormed = (c : ChunkPos) (h : Height) (d : Document) (bytes : List ℕ) (cells now : Pos → BlockState) (water then : List Entry) (sources : Pos → Bool) (rest : RestOfChunk) (light : ℤ → List ℕ) (n : ℕ)
    → SpellsDocument d bytes → length bytes ≤ 1044475 → DenotesChunk c h d cells water rest → IsLawful c h now then
    → AllByRecursion (HasInts n) then → ((y : ℤ) → is_section_of h y ≡ true → length (light y) ≡ 2048)
    → IsWellFormed (chunk_layout c h now then sources rest light n)

-- bytes that spell a document of a loaded chunk
pub record SpellsChunk (c : ChunkPos) (h : Height) (bytes : List ℕ) (cells : Pos → BlockState) (water : List Entry) (rest : RestOfChunk) : Type 0 where
  pub read : Document
  pub spelled : SpellsDocument read bytes
  pub denotes : DenotesChunk c h read cells water rest

-- From bytes to values and back: the bytes that are written for a rest that was read from at most 1,044,475 bytes spell the same
-- rest, with the cells of now, and the entries of now sooner by the ticks that were run; under the conditions of the law above.
abbrev pub WrittenComesBack : Type 0
WrittenComesBack = (c : ChunkPos) (h : Height) (bytes : List ℕ) (cells now : Pos → BlockState) (water then : List Entry) (sources : Pos → Bool) (rest : RestOfChunk) (light : ℤ → List ℕ) (n : ℕ)
    → SpellsChunk c h bytes cells water rest → length bytes ≤ 1044475 → IsLawful c h now then
    → AllByRecursion (HasInts n) then → ((y : ℤ) → is_section_of h y ≡ true → length (light y) ≡ 2048)
    → SpellsChunk c h (written_document (chunk_layout c h now then sources rest light n)) now (map (sooner n) then) rest

-- Read and written with no ticks run, the bytes of a loaded chunk, at most 1,044,475, spell the same chunk, whatever light of 2,048
-- bytes a section.
abbrev pub ReadThenWritten : Type 0
ReadThenWritten = (c : ChunkPos) (h : Height) (bytes : List ℕ) (cells : Pos → BlockState) (water : List Entry) (sources : Pos → Bool) (rest : RestOfChunk) (light : ℤ → List ℕ)
    → SpellsChunk c h bytes cells water rest → length bytes ≤ 1044475 → ((y : ℤ) → is_section_of h y ≡ true → length (light y) ≡ 2048)
    → SpellsChunk c h (written_document (chunk_layout c h cells water sources rest light 0)) cells water rest

-- What is written of a chunk goes by its own blocks, by whether the blocks of its entries hold sources, and by the light of the
-- height's sections: what these functions say elsewhere makes no difference.
abbrev pub LooksInside : Type 0
LooksInside = (c : ChunkPos) (h : Height) (cells now : Pos → BlockState) (water : List Entry) (sources then : Pos → Bool) (rest : RestOfChunk) (light later : ℤ → List ℕ) (n : ℕ)
    → ((p : Pos) → lies_in c h p ≡ true → cells p ≡ now p) → AllByRecursion (λ e. sources e.pos ≡ then e.pos) water → ((y : ℤ) → is_section_of h y ≡ true → light y ≡ later y)
    → chunk_layout c h cells water sources rest light n ≡ chunk_layout c h now water then rest later n
