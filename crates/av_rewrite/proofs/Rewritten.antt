-- A chunk that was read, and written again with no tick run.
use Rattle.std.proofs.Common.{◌≡◌, ◌++◌, ◌∷◌, ◌∙◌, [], List, Option, Some, None, ℕ, zero, suc, ℤ, pos, ◌-ℤ◌, true, map, refl, sym, subst, ap, ap₂, arith, IsSome, slice_get}
use Rattle.std.proofs.lemmas.Int.{ints}
use Rattle.av_types.specs.declared.position.Pos.{Pos}
use Rattle.av_types.specs.declared.position.ChunkPos.{ChunkPos}
use Rattle.av_types.specs.declared.position.Height.{Height}
use Rattle.av_types.specs.declared.tick.Entry.{Entry}
use Rattle.av_tags.specs.Nbt.{Document}
use Rattle.av_types.specs.Options.{◌>>=◌}
use Rattle.av_tags.specs.Shape.{or_else}
use Rattle.av_nbt.specs.Writing.{IsWellFormed, written_document}
use Rattle.av_nbt.proofs.Written.{written_document_spells}
use Rattle.av_state.specs.BlockState.{BlockState, air}
use Rattle.av_ticks.specs.Ticks.{entries}
use Rattle.av_document.specs.Chunk.{DenotesChunk}
use Rattle.av_document.specs.Law.{sooner, SpellsChunk}
use Rattle.av_document.specs.Ticks.{lies_in}
use Rattle.av_chunk.specs.Views.{cells_of, number_in, rest_of, state_in}
use Rattle.av_chunk.specs.Reading.{IsLoaded}
use Rattle.av_chunk.specs.declared.chunk.Chunk.{Chunk}
use Rattle.av_chunk.specs.declared.rest.ChunkRest.{ChunkRest}
use Rattle.av_rewrite.specs.Regions.{IsMadeOf}
use Rattle.av_rewrite.specs.Rewriting.{IsReadAt, IsRewritten, loaded, at_index}

-- entries that are sooner by no tick

less_none : (due : ℤ) → due -ℤ pos 0 ≡ due
less_none due = omega (arith, ints)

sooner_none : (es : List Entry) → map (sooner 0) es ≡ es
sooner_none [] = refl
sooner_none (e ∷ es) = ap₂ (λ x xs. x ∷ xs) (ap (λ d. record { pos = e.pos; due = d; priority = e.priority }) (less_none e.due)) (sooner_none es)

-- a state keeps its number while the table grows

get_same : (xs ys : List BlockState) (n : ℕ) → IsSome (slice_get xs n) → slice_get xs n ≡ slice_get (xs ++ ys) n
get_same [] ys n h = absurd cc
get_same (x ∷ xs) ys zero h = refl
get_same (x ∷ xs) ys (suc n) h = get_same xs ys n h

found_same : (o : Option ℕ) (old more : List BlockState) → IsSome (o >>= λ n. slice_get old n) → (o >>= λ n. slice_get old n) ≡ (o >>= λ n. slice_get (old ++ more) n)
found_same None old more h = refl
found_same (Some n) old more h = get_same old more n h

cells_same : (c : ChunkPos) (h : Height) (old more : List BlockState) (chunk : Chunk) → ((p : Pos) → lies_in c h p ≡ true → IsSome (state_in old h chunk p))
    → (p : Pos) → lies_in c h p ≡ true → cells_of old h chunk p ≡ cells_of (old ++ more) h chunk p
cells_same c h old more chunk numbered p inside = ap (or_else air) (found_same (number_in h chunk p) old more (numbered p inside))

-- what is written denotes the cells of the table that the chunk was read with
same_chunk : (c : ChunkPos) (h : Height) (d written : Document) (old new table : List BlockState) (chunk : Chunk) (rest : ChunkRest)
    → IsLoaded c h d old new chunk rest → (more : List BlockState) → table ≡ new ++ more
    → DenotesChunk rest.pos rest.height written (cells_of table rest.height chunk) (map (sooner 0) (entries chunk.ticks)) (rest_of rest)
    → DenotesChunk c h written (cells_of new h chunk) (entries chunk.ticks) (rest_of rest)
same_chunk c h d written old new table chunk rest l more grown x =
    let at_own = subst (λ (k : ChunkPos). DenotesChunk k rest.height written (cells_of table rest.height chunk) (map (sooner 0) (entries chunk.ticks)) (rest_of rest)) l.pos_is x in
    let of_height = subst (λ (k : Height). DenotesChunk c k written (cells_of table k chunk) (map (sooner 0) (entries chunk.ticks)) (rest_of rest)) l.height_is at_own in
    let of_table = subst (λ (t : List BlockState). DenotesChunk c h written (cells_of t h chunk) (map (sooner 0) (entries chunk.ticks)) (rest_of rest)) grown of_height in
    let of_entries = subst (λ (es : List Entry). DenotesChunk c h written (cells_of (new ++ more) h chunk) es (rest_of rest)) (sooner_none (entries chunk.ticks)) of_table in
    record {
      no_fault = of_entries.no_fault;
      full = of_entries.full;
      cells_are = λ p inside. cells_same c h new more chunk l.numbered p inside ∙ of_entries.cells_are p inside;
      water_is = of_entries.water_is;
      name_is = of_entries.name_is;
      tags_are = of_entries.tags_are;
      foreign_are = of_entries.foreign_are;
      outside_is = of_entries.outside_is;
      section_is = of_entries.section_is;
    }

pub rewritten : (h : Height) (region : List ℕ) (table : List BlockState) (index : ℕ) (chunk : Chunk) (rest : ChunkRest) (written : Document) (bytes : List ℕ)
    → IsReadAt h region table index chunk rest → IsWellFormed written
    → DenotesChunk rest.pos rest.height written (cells_of table rest.height chunk) (map (sooner 0) (entries chunk.ticks)) (rest_of rest)
    → bytes ≡ written_document written → IsMadeOf (IsRewritten h) region index (Some bytes)
rewritten h region table index chunk rest written bytes s good denotes is =
    let before : SpellsChunk (at_index index) h s.payload (cells_of s.new h chunk) (entries chunk.ticks) (rest_of rest) = record {
      read = s.document;
      spelled = s.spelled;
      denotes = s.loaded.denotes;
    } in
    let after : SpellsChunk (at_index index) h (written_document written) (cells_of s.new h chunk) (entries chunk.ticks) (rest_of rest) = record {
      read = written;
      spelled = written_document_spells written good;
      denotes = same_chunk (at_index index) h s.document written s.old s.new table chunk rest s.loaded s.grown.more s.grown.grown denotes;
    } in (
      s.payload,
      s.held,
      loaded (cells_of s.new h chunk) (entries chunk.ticks) (rest_of rest) before
          (subst (λ (b : List ℕ). SpellsChunk (at_index index) h b (cells_of s.new h chunk) (entries chunk.ticks) (rest_of rest)) (sym is) after),
    )
