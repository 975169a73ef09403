use Rattle.std.proofs.Common.{◌≡◌, ◌∙◌, ◌<◌, ℕ, List, length, Some, refl, ap, sym, subst, arith}
use Rattle.std.specs.Prelude.{slice_get, slice_index_or}
use Rattle.std.proofs.lemmas.Option.{slice_get_within, slice_get_read}
use Rattle.av_types.specs.declared.position.ChunkPos.{ChunkPos}
use Rattle.av_nbt.specs.Writing.{written_document}
use Rattle.av_rules.specs.declared.kinds.Kinds.{Kinds}
use Rattle.av_chunk.specs.Light.{section_count}
use Rattle.av_chunk.specs.declared.light.ChunkLight.{ChunkLight}
use Rattle.av_codec.proofs.Found.{if_ok_then}
use Rattle.av_world.specs.Index.{slot}
use Rattle.av_world.specs.Views.{height_of, positions_of}
use Rattle.av_world.specs.declared.worlds.World.{World}
use Rattle.av_image.specs.Saving.{CanSave}
use Rattle.av_image.proofs.OneChunk.{slot_is_index, can_write, written_is}
use Rattle.av_image.proofs.writing.payloads.loaded_payload.Goals as goal

below : (w : World) (k : Kinds) (ls : List ChunkLight) (n i : ℕ) (c : ChunkPos) → CanSave w k ls n → slice_get (positions_of w) i ≡ Some c → i < length ls
below w k ls n i c can at = let lt = slice_get_within (positions_of w) i c at in let e = can.lights in omega (arith, lt, e)

lit : (w : World) (k : Kinds) (ls : List ChunkLight) (n i : ℕ) (l : ChunkLight) → CanSave w k ls n → i < length ls → l ≡ slice_index_or ls i l → section_count l ≡ (height_of w).sections
lit w k ls n i l can less is = subst (λ (y : ChunkLight). section_count y ≡ (height_of w).sections) (sym is) (can.lit i l less)

here : (w : World) (ls : List ChunkLight) (i : ℕ) (c : ChunkPos) (l : ChunkLight) → slice_get (positions_of w) i ≡ Some c → i < length ls → l ≡ slice_index_or ls i l → slice_get ls (slot (positions_of w) c) ≡ Some l
here w ls i c l at less is = ap (slice_get ls) (slot_is_index w i c at) ∙ slice_get_read ls (length ls) i l refl less is

pub bounds-lights-index : goal.bounds-lights-index
bounds-lights-index c = below c.args.world.now c.args.kinds.now c.args.lights.now c.args.elapsed c.in-Some.index c.args.at c.requires.can c.in-Some.ensures.found

pub written_chunk-requires : goal.written_chunk-requires
written_chunk-requires c =
    let less = below c.args.world.now c.args.kinds.now c.args.lights.now c.args.elapsed c.in-Some.index c.args.at c.requires.can c.in-Some.ensures.found in
    can_write c.args.world.now c.args.kinds.now c.args.lights.now c.args.elapsed c.requires.can c.args.at c.chunk.result.now c.requires.there (c.chunk.ensures.contents c.args.at c.in-Some.ensures.found)
    c.args.rest.now c.index-lights-index.result c.requires.own c.requires.height
    (lit c.args.world.now c.args.kinds.now c.args.lights.now c.args.elapsed c.in-Some.index c.index-lights-index.result c.requires.can less c.index-lights-index.is)

pub returns : goal.returns
returns c =
    let less = below c.args.world.now c.args.kinds.now c.args.lights.now c.args.elapsed c.in-Some.index c.args.at c.requires.can c.in-Some.ensures.found in
    if_ok_then c.written_chunk.result c.written_chunk.ensures (λ bytes is. is ∙ ap written_document
    (written_is c.args.world.now c.args.kinds.now c.args.lights.now c.args.elapsed c.requires.can c.args.at c.chunk.result.now c.requires.there (c.chunk.ensures.contents c.args.at c.in-Some.ensures.found)
    c.args.rest.now c.index-lights-index.result c.requires.own c.requires.height
    (lit c.args.world.now c.args.kinds.now c.args.lights.now c.args.elapsed c.in-Some.index c.index-lights-index.result c.requires.can less c.index-lights-index.is)
    (here c.args.world.now c.args.lights.now c.in-Some.index c.args.at c.index-lights-index.result c.in-Some.ensures.found less c.index-lights-index.is)))
