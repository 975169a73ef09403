-- A chunk in memory shows what its document denotes.
use Rattle.std.proofs.Common.{◌≡◌, ℕ, ◌+◌, ◌*◌, ◌/◌, ◌%◌, ◌<◌, ◌≤◌, ℤ, pos, ◌+ℤ◌, List, map, length, get_or, Option, Some, None, option_map, Bool, true, false, true≢false, nat_lt, cond, refl, sym, ap, ◌∙◌, subst, arith}
use Rattle.std.specs.Prelude.{slice_get, IsSome}
use Rattle.std.specs.List.{range_with_len}
use Rattle.std.proofs.lemmas.Option.{slice_get-map, get_or_from_slice_get}
use Rattle.std.proofs.lemmas.List.{get_or_past}
use Rattle.av_document.proofs.Inside.{map_range_agree}
use Rattle.av_types.specs.Positions.{place_of}
use Rattle.av_types.specs.declared.position.ChunkPos.{ChunkPos}
use Rattle.av_types.specs.declared.position.Height.{Height}
use Rattle.av_tags.specs.Nbt.{Document, NamedTag}
use Rattle.av_types.specs.Options.{◌>>=◌}
use Rattle.av_tags.specs.Shape.{or_else}
use Rattle.av_state.specs.BlockState.{BlockState, air}
use Rattle.av_state.specs.StateList.{first_states}
use Rattle.av_section.specs.Section.{number_at}
use Rattle.av_section.specs.declared.section.Section.{Section}
use Rattle.av_document.specs.Chunk.{root_tags}
use Rattle.av_document.specs.Layout.{block_at}
use Rattle.av_document.proofs.Positions.{lies_in-block_at, section-of_block, place-of_block, section_inside}
use Rattle.av_chunk.specs.Reading.{IsLoaded}
use Rattle.av_chunk.specs.Views.{section_in, state_in, cells_of}
use Rattle.av_chunk.proofs.Heights.{offset_at}
use Rattle.av_chunk.specs.declared.chunk.Chunk.{Chunk}
use Rattle.av_chunk.specs.declared.rest.ChunkRest.{ChunkRest}
use Rattle.av_map.specs.Colours.{NamedColour}
use Rattle.av_map.specs.Columns.{block_sight, light_sight}
use Rattle.av_map.specs.Light.{level_in, level_of, light_array}
use Rattle.av_map.specs.Looks.{look_of}
use Rattle.av_map.specs.Patches.{looks_in, sight_in, sights_in}
use Rattle.av_map.specs.Sections.{AreLights, AreLightsFor, air_look, level_at, look_at, section_look, sight_by}
use Rattle.av_map.specs.declared.view.View.{View}
use Rattle.av_map.specs.declared.view.View.TheVariants.{Blocks, Light}
use Rattle.av_map.proofs.Alike.{block_sight_same, light_sight_same}

-- ---- where a block of a section lies

-- the state that an optional section has at a place
abbrev state_there : List BlockState → Option Section → ℕ → Option BlockState
state_there table o i = (o >>= λ (s : Section). Some (number_at s i)) >>= λ n. slice_get table n

state-in_block : (table : List BlockState) (c : ChunkPos) (h : Height) (chunk : Chunk) (y : ℤ) (i n : ℕ) → i < 4096 → y ≡ h.min_section +ℤ pos n
    → state_in table h chunk (block_at c y i) ≡ state_there table (get_or chunk.sections.items n None) i
state-in_block table c h chunk y i n low e =
    ap (λ v. state_there table (section_in h chunk v) (place_of (block_at c y i))) (section-of_block c y i low)
    ∙ ap (λ k. state_there table (get_or chunk.sections.items k None) (place_of (block_at c y i))) (offset_at h y n e)
    ∙ ap (λ k. state_there table (get_or chunk.sections.items n None) k) (place-of_block c y i low)

-- ---- looks

look_there : (named : List NamedColour) (table : List BlockState) (o : Option Section) (i : ℕ) (st : Option BlockState) → state_there table o i ≡ st → IsSome st
    → section_look (map (look_of named) table) o i ≡ look_of named (or_else air st)
look_there named table None i st e some = absurd (true≢false (sym (subst IsSome (sym e) some)))
look_there named table (Some s) i None e some = absurd (true≢false (sym some))
look_there named table (Some s) i (Some x) e some =
    get_or_from_slice_get (map (look_of named) table) (number_at s i) (look_of named x) air_look
    (slice_get-map (look_of named) table (number_at s i) ∙ ap (option_map (look_of named)) e)

pub look_is : (named : List NamedColour) (c : ChunkPos) (h : Height) (d : Document) (new : List BlockState) (chunk : Chunk) (rest : ChunkRest) → IsLoaded c h d first_states new chunk rest
    → (column k : ℕ) → column < 256 → k < 16 * h.sections
    → look_at chunk.sections.items (map (look_of named) new) column k ≡ looks_in named (cells_of new h chunk) c h column k
look_is named c h d new chunk rest l column k narrow low =
    let y = h.min_section +ℤ pos (k / 16) in
    let i = 256 * (k % 16) + column in
    let small : i < 4096 = omega arith in
    let n : k / 16 < h.sections = omega arith in
    let is = state-in_block new c h chunk y i (k / 16) small refl in
    look_there named new (get_or chunk.sections.items (k / 16) None) i (state_in new h chunk (block_at c y i)) (sym is)
    (l.numbered (block_at c y i) (lies_in-block_at c h y i (section_inside h (k / 16) n) small))

-- ---- light

level_is : (root : List NamedTag) (h : Height) (lights : List (Option (List ℕ))) → AreLights root h lights → (column k : ℕ) → level_at lights column k ≡ level_of root h column k
level_is root h lights are column k = by_test (nat_lt k (16 * h.sections)) refl
  where
    by_test : (b : Bool) → nat_lt k (16 * h.sections) ≡ b → level_at lights column k ≡ cond b (level_in (light_array root (h.min_section +ℤ pos (k / 16))) (256 * (k % 16) + column)) 0
    by_test true e = let low : k / 16 < h.sections = grind (arith, e) in ap (λ o. level_in o (256 * (k % 16) + column)) (are.each (k / 16) low)
    by_test false e = let past : length lights ≤ k / 16 = grind (arith, e, are.count) in ap (λ o. level_in o (256 * (k % 16) + column)) (get_or_past lights (k / 16) None past)

-- ---- all columns

pub sights_are : (view : View) (named : List NamedColour) (c : ChunkPos) (h : Height) (d : Document) (new : List BlockState) (chunk : Chunk) (rest : ChunkRest) (lights : List (Option (List ℕ)))
    → IsLoaded c h d first_states new chunk rest → AreLightsFor view (root_tags d) h lights
    → map (sight_by view chunk.sections.items (map (look_of named) new) lights) (range_with_len 0 256) ≡ sights_in view named (cells_of new h chunk) (root_tags d) c h
sights_are view named c h d new chunk rest lights l are = map_range_agree _ _ 0 256 (λ column narrow. one view are column narrow)
  where
    count : 16 * length chunk.sections.items ≡ 16 * h.sections
    count = ap (λ n. 16 * n) l.whole.count

    one : (view : View) → AreLightsFor view (root_tags d) h lights → (column : ℕ) → column < 256
        → sight_by view chunk.sections.items (map (look_of named) new) lights column ≡ sight_in view named (cells_of new h chunk) (root_tags d) c h column
    one Blocks are column narrow =
        ap (block_sight (look_at chunk.sections.items (map (look_of named) new) column)) count
        ∙ block_sight_same _ _ (16 * h.sections) (λ k low. look_is named c h d new chunk rest l column k narrow low)
    one Light are column narrow =
        ap (light_sight (look_at chunk.sections.items (map (look_of named) new) column) (level_at lights column)) count
        ∙ light_sight_same _ _ _ _ (16 * h.sections) (λ k low. look_is named c h d new chunk rest l column k narrow low) (λ k. level_is (root_tags d) h lights are column k)
