-- What a world's sections are, by where their chunks stand.
use Rattle.std.proofs.Common.{◌≡◌, ◌≤◌, length, slice_get, Option, None, sym, ap, ◌∙◌, arith}
use Rattle.std.proofs.lemmas.Option.{slice_get_past}
use Rattle.av_types.specs.Positions.{chunk_of_section}
use Rattle.av_types.specs.declared.position.SectionPos.{SectionPos}
use Rattle.av_section.specs.declared.section.Section.{Section}
use Rattle.av_chunk.specs.declared.chunk.Chunk.{Chunk}
use Rattle.av_world.specs.Index.{slot}
use Rattle.av_world.specs.Sections.{layer_in, layer_at}
use Rattle.av_world.specs.Views.{height_of, positions_of, chunks_of, grid}
use Rattle.av_world.specs.Chunks.{IsChunkOf}
use Rattle.av_world.specs.declared.worlds.World.{World}
use Rattle.av_section_light.specs.Sections.{filling_in}

-- none of a chunk that is not loaded
pub not_there : (w : World) (s : SectionPos) → length (positions_of w) ≤ slot (positions_of w) (chunk_of_section s) → None ≡ grid w s
not_there w s past =
    let none : slice_get (chunks_of w) (slot (positions_of w) (chunk_of_section s)) ≡ None =
    slice_get_past (chunks_of w) (slot (positions_of w) (chunk_of_section s)) (omega (arith, past, w.lawful.parallel)) in
    sym (ap (λ o. filling_in (layer_in (height_of w) o s.y)) none)

-- one of a chunk that is
pub there : (w : World) (s : SectionPos) (x : Chunk) (o : Option Section) → IsChunkOf w (chunk_of_section s) x → o ≡ layer_at (height_of w) x.sections.items s.y → filling_in o ≡ grid w s
there w s x o of is = ap filling_in is ∙ sym (of.sections s (λ i. chunk_of_section s))
