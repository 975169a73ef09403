-- A chunk that was just read can be written after so many ticks, where the times of its entries fit.
use Rattle.std.proofs.Common.{◌≡◌, [], List, ℕ, sym, subst, ◌∙◌}
use Rattle.std.specs.Int.{w32}
use Rattle.std.specs.Int.RustNames.{FitsSigned}
use Rattle.std.specs.Prelude.{All, pos, ◌-ℤ◌}
use Rattle.std.proofs.lemmas.List.{append-nil}
use Rattle.av_types.specs.declared.position.ChunkPos.{ChunkPos}
use Rattle.av_types.specs.declared.position.Height.{Height}
use Rattle.av_types.specs.declared.tick.Entry.{Entry}
use Rattle.av_tags.specs.Nbt.{Document}
use Rattle.av_state.specs.BlockState.{BlockState}
use Rattle.av_rules.specs.declared.kinds.Kinds.{Kinds}
use Rattle.av_chunk.specs.Light.{section_count}
use Rattle.av_chunk.specs.Reading.{IsLoaded, IsReading}
use Rattle.av_codec.specs.Writing.{CanWrite, states_of_kinds}
use Rattle.av_chunk.specs.declared.chunk.Chunk.{Chunk}
use Rattle.av_chunk.specs.declared.chunk.Reading.{Reading}
use Rattle.av_chunk.specs.declared.chunk.Reading.TheVariants.{Full}
use Rattle.av_chunk.specs.declared.rest.ChunkRest.{ChunkRest}
use Rattle.av_chunk.specs.declared.light.ChunkLight.{ChunkLight}
use Rattle.av_codec.proofs.Rewriting.{loaded-can_write}
use Rattle.av_ticks.specs.Ticks.{entries}
use Rattle.av_chunk_tests.proofs.documents.rewritten_after.Goals as goal

read-can_write : (c : ChunkPos) (h : Height) (d : Document) (old new : List BlockState) (reading : Reading) (chunk : Chunk) (rest : ChunkRest) (kinds : Kinds) (light : ChunkLight) (ticks : ℕ)
    → reading ≡ Full chunk rest → IsReading c h d old new reading → states_of_kinds kinds ≡ new → section_count light ≡ h.sections
    → All (λ e. FitsSigned w32 (e.due -ℤ pos ticks)) (entries chunk.ticks) → CanWrite chunk rest kinds light ticks
read-can_write c h d old new reading chunk rest kinds light ticks is reads same lit due =
    let loaded : IsLoaded c h d old new chunk rest = rw is at reads in
    let at_once = loaded-can_write c h d old new chunk rest kinds light loaded (record { more = []; grown = same ∙ sym (append-nil new) }) lit in
    record { whole = at_once.whole; numbered = at_once.numbered; within = at_once.within; due = due; lit = at_once.lit }

pub written_by-requires : goal.written_by-requires
written_by-requires c kinds same =
    read-can_write _ _ _ _ _ c.in_ok-reading.reading c.in-Full.chunk c.in-Full.rest kinds c.args.light.now c.args.ticks
    c.in-Full.is c.in_ok-reading.ensures.ok same (sym c.len-sections.ensures)
    (subst (All (λ (e : Entry). FitsSigned w32 (e.due -ℤ pos c.args.ticks))) c.as_slice.ensures (c.fit_after.ensures c.if-not-fit_after.false))
