-- One index, as a slot of the world and the rest.
use Rattle.std.proofs.Common.{◌≡◌, ◌∙◌, ℕ, List, [], ◌∷◌, ◌++◌, true, ◌&&◌, cond, Option, Some, None, refl, ap, sym, IsSome}
use Rattle.std.specs.Prelude.{slice_get, slice_index_or}
use Rattle.std.specs.Ordering.{int_eq}
use Rattle.std.proofs.lemmas.Bool.{and_parts, true≢false}
use Rattle.std.proofs.lemmas.Bool.Decides.{Decides-int_eq}
use Rattle.av_types.specs.Division.{divided}
use Rattle.av_types.specs.Faults.{least}
use Rattle.av_types.specs.Positions.{section_of, place_of, is_block_of, chunk_of_section}
use Rattle.av_types.specs.declared.position.Height.{Height}
use Rattle.av_types.specs.declared.position.Pos.{Pos}
use Rattle.av_types.specs.declared.position.ChunkPos.{ChunkPos}
use Rattle.av_tags.specs.Nbt.{Document, NamedTag}
use Rattle.av_types.specs.Options.{◌>>=◌}
use Rattle.av_tags.specs.Shape.{or_else}
use Rattle.av_state.specs.BlockState.{BlockState, air}
use Rattle.av_section.specs.Section.{number_at}
use Rattle.av_section.specs.declared.section.Section.{Section}
use Rattle.av_section.specs.Reading.{OnlyGrows}
use Rattle.av_section.specs.BlockStates.{when}
use Rattle.av_ticks.specs.Ticks.{entries}
use Rattle.av_document.specs.Ticks.{lies_in}
use Rattle.av_document.specs.Chunk.{faults, first_fault, has_too_many, root_tags}
use Rattle.av_document.proofs.Faults.{least_none}
use Rattle.av_chunk.specs.Views.{section_in, cells_of as chunk_cells, rest_of}
use Rattle.av_chunk.specs.Reading.{IsLoaded}
use Rattle.av_chunk.specs.declared.chunk.Chunk.{Chunk}
use Rattle.av_chunk.specs.declared.rest.ChunkRest.{ChunkRest}
use Rattle.av_cells.specs.Grid.{number_in as number_in_filling}
use Rattle.av_world.specs.Sections.{filling_in, layer_at}
use Rattle.av_world.specs.declared.worlds.World.{World}
use Rattle.av_files.specs.Run.{stated}
use Rattle.av_files.specs.Denotes.{Rest, IsSlot, absent, kept, full}
use Rattle.av_files.proofs.Loading.{denotes_kept, state_stays}
use Rattle.av_image.specs.declared.reading.stored.Stored.{Stored}
use Rattle.av_image.specs.declared.reading.stored.Stored.TheVariants.{Absent, Kept, Full}
use Rattle.av_image.specs.RegionsRead.{WasReadAt}
use Rattle.av_world.specs.Lands.{land_of}
use Rattle.av_image.specs.Views.{kept_in, chunk_rest_in}
use Rattle.av_image.specs.Splits.{HasAt, slot_of}
use Rattle.av_image.proofs.Back.{chunk_in}

none_first : (xs ys : List ℕ) → xs ++ ys ≡ [] → xs ≡ []
none_first [] ys e = refl
none_first (x ∷ xs) ys e = cc

no_chunk_fault : (h : Height) (c : ChunkPos) (old : List BlockState) (root : List NamedTag) → first_fault h c old root ≡ None → least (faults h c root) ≡ None
no_chunk_fault h c old root e =
    ap least (none_first (faults h c root) (when (has_too_many h old root) 18) (least_none (faults h c root ++ when (has_too_many h old root) 18) e))

pub chunk_of_position : (c : ChunkPos) (h : Height) (p : Pos) → lies_in c h p ≡ true → (chunk_of_section (section_of p) ≡ c) × (is_block_of h p.y ≡ true)
chunk_of_position c h p e =
    let a = and_parts (int_eq (divided p.x 16) c.x && int_eq (divided p.z 16) c.z) (is_block_of h p.y) e in
    let b = and_parts (int_eq (divided p.x 16) c.x) (int_eq (divided p.z 16) c.z) a.0 in
    let x = (Decides-int_eq (divided p.x 16) c.x).0 b.0 in
    let z = (Decides-int_eq (divided p.z 16) c.z).0 b.1 in
    ((λ i. record { x = x i; z = z i }), a.1)

-- the state that a chunk has at a block is that of the number that its grid has there
pub state_found : (new table : List BlockState) (o : Option Section) (i : ℕ) → OnlyGrows new table → IsSome ((o >>= λ s. Some (number_at s i)) >>= λ n. slice_get new n)
    → or_else air ((o >>= λ s. Some (number_at s i)) >>= λ n. slice_get new n) ≡ slice_index_or table (number_in_filling (filling_in o) i) air
state_found new table None i more h = absurd (true≢false (sym h))
state_found new table (Some s) i more h = by (slice_get new (number_at s i)) refl h where
  by : (o : Option BlockState) → slice_get new (number_at s i) ≡ o → IsSome o → or_else air o ≡ slice_index_or table (number_at s i) air
  by None e k = absurd (true≢false (sym k))
  by (Some x) e k = sym (ap (λ t. slice_index_or t (number_at s i) air) more.grown ∙ state_stays new more.more (number_at s i) x e)

pub layer_is : (h : Height) (chunk : Chunk) (p : Pos) → is_block_of h p.y ≡ true → layer_at h chunk.sections.items (divided p.y 16) ≡ section_in h chunk (divided p.y 16)
layer_is h chunk p e = ap (λ b. cond b (section_in h chunk (divided p.y 16)) None) e

cells_same : (h : Height) (c : ChunkPos) (d : Document) (old new table : List BlockState) (chunk : Chunk) (rest : ChunkRest) (w : World) → IsLoaded c h d old new chunk rest → OnlyGrows new table → HasAt h w c (Some chunk)
    → (p : Pos) → lies_in c h p ≡ true → chunk_cells new h chunk p ≡ (stated table (land_of w)).at p
cells_same h c d old new table chunk rest w l more has p inside =
    let parts = chunk_of_position c h p inside in
    let s = section_of p in
    state_found new table (section_in h chunk (divided p.y 16)) (place_of p) more (l.numbered p inside)
    ∙ sym (ap (λ f. slice_index_or table (number_in_filling f (place_of p)) air) (has.1 s parts.0 ∙ ap filling_in (layer_is h chunk p parts.1)))

pub slot_is : (h : Height) (table : List BlockState) (file : List ℕ) (c : ChunkPos) (i : ℕ) (p : Stored) (w : World) (r : Rest) → WasReadAt h table file c i p
    → HasAt h w c (chunk_in (Some p)) → r.kept c ≡ kept_in (Some (slot_of p)) → r.chunk c ≡ chunk_rest_in (Some (slot_of p)) → IsSlot h (stated table (land_of w)) r file c i
slot_is h table file c i Absent w r was has k e = absent was.read.nothing has.0 k
slot_is h table file c i (Kept same) w r was has k e =
    let x = was.read.read in
    kept was.read.payload x.document was.read.holds x.spelled (no_chunk_fault h c was.old (root_tags x.document) x.kept.no_fault) x.kept.not_full has.0 (k ∙ ap (λ b. Some b) x.copied)
slot_is h table file c i (Full chunk rest) w r was has k e =
    let x = was.read.read in
    let l = x.loaded in
    full was.read.payload x.document was.read.holds x.spelled
    (denotes_kept h c x.document (chunk_cells was.new h chunk) (stated table (land_of w)).at (entries chunk.ticks) ((land_of w).lists c) (rest_of rest) (r.chunk c)
    (cells_same h c x.document was.old was.new table chunk rest w l was.grown has) (sym has.2) (sym e) l.denotes)
    has.0 k
