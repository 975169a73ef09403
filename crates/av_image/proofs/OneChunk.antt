-- One chunk of a world, as it is written.
use Rattle.std.proofs.Common.{◌≡◌, ◌∙◌, ℕ, zero, suc, ◌<◌, ℤ, List, [], ◌∷◌, length, Bool, true, Option, Some, None, IsSome, refl, ap, sym, subst, arith}
use Rattle.std.specs.Int.{w32}
use Rattle.std.specs.Int.RustNames.{FitsSigned}
use Rattle.std.specs.Prelude.{slice_get, slice_index_or, pos, ◌-ℤ◌}
use Rattle.std.specs.List.{All, AllByRecursion}
use Rattle.std.proofs.lemmas.Bool.{and_from, false≢true, true≢false}
use Rattle.std.proofs.lemmas.Option.{slice_get_within, get_or_from_slice_get}
use Rattle.std.proofs.lemmas.List.Elements.{recursion_from_All}
use Rattle.av_types.specs.Division.{divided}
use Rattle.av_types.specs.Water.{is_source}
use Rattle.av_types.specs.Positions.{section_of, place_of, chunk_of, is_block_of, is_section_of}
use Rattle.av_types.specs.declared.position.Pos.{Pos}
use Rattle.av_types.specs.declared.position.ChunkPos.{ChunkPos}
use Rattle.av_types.specs.declared.position.Height.{Height}
use Rattle.av_types.specs.declared.tick.Entry.{Entry}
use Rattle.av_types.specs.Options.{◌>>=◌}
use Rattle.av_state.specs.BlockState.{BlockState, air}
use Rattle.av_state.specs.Table.{states}
use Rattle.av_rules.specs.Kinds.{table_in, wet_at, kind_count}
use Rattle.av_rules.specs.declared.kinds.Kinds.{Kinds}
use Rattle.av_section.specs.Section.{number_at}
use Rattle.av_section.specs.declared.section.Section.{Section}
use Rattle.av_ticks.specs.Ticks.{entries}
use Rattle.av_document.specs.Ticks.{lies_in}
use Rattle.av_document.specs.Layout.{chunk_layout, block_at}
use Rattle.av_document.proofs.Positions.{lies_in-block_at, divided-coordinate}
use Rattle.av_chunk.specs.Views.{section_in, state_in, cells_of as chunk_cells, rest_of}
use Rattle.av_chunk.specs.Reading as reading
use Rattle.av_chunk.specs.Light.{section_count}
use Rattle.av_codec.specs.Writing.{CanWrite, written, sources_of, is_source_number, light_of}
use Rattle.av_chunk.specs.declared.chunk.Chunk.{Chunk}
use Rattle.av_chunk.specs.declared.rest.ChunkRest.{ChunkRest}
use Rattle.av_chunk.specs.declared.light.ChunkLight.{ChunkLight}
use Rattle.av_cells.specs.Grid.{number_in as number_in_filling, is_here}
use Rattle.av_land.specs.Land.{has_chunk, is_loaded}
use Rattle.av_world.specs.Chunks.{IsChunkOf}
use Rattle.av_world.specs.Index.{slot, before}
use Rattle.av_world.specs.Lands.{land_of}
use Rattle.av_world.specs.Sections.{filling_in}
use Rattle.av_world.specs.Views.{height_of, positions_of, grid, lists}
use Rattle.av_world.specs.declared.worlds.World.{World}
use Rattle.av_world.proofs.Search.{slot_found, not_before_self}
use Rattle.av_image.specs.Saving.{CanSave, states_in, sources_in, section_light, lights_in}
use Rattle.av_image.proofs.OneSlot.{chunk_of_position, state_found, layer_is}
use Rattle.av_document.proofs.Inside.{layout_same}
use Rattle.av_image.proofs.Ways.{grows_nothing}

-- ---- where a chunk stands

pub slot_is_index : (w : World) (i : ℕ) (c : ChunkPos) → slice_get (positions_of w) i ≡ Some c → slot (positions_of w) c ≡ i
slot_is_index w i c e =
    let lt = slice_get_within (positions_of w) i c e in
    let at : slice_index_or (positions_of w) i c ≡ c = get_or_from_slice_get (positions_of w) i c c e in
    slot_found (positions_of w) c c i lt at (λ j less same.
    true≢false (sym (w.lawful.rising j i c less lt) ∙ ((λ k. before (same k) (at k)) ∙ not_before_self c)))

-- ---- what a section has at a place

here_some : (o : Option Section) → is_here (filling_in o) ≡ true → IsSome o
here_some None e = absurd (false≢true e)
here_some (Some s) e = refl

some_at : (t : List BlockState) (n : ℕ) → n < length t → IsSome (slice_get t n)
some_at [] n lt = absurd (omega (arith, lt))
some_at (x ∷ t) zero lt = refl
some_at (x ∷ t) (suc n) lt = some_at t n (omega (arith, lt))

state_there : (t : List BlockState) (o : Option Section) (i : ℕ) → IsSome o → number_in_filling (filling_in o) i < length t → IsSome ((o >>= λ s. Some (number_at s i)) >>= λ n. slice_get t n)
state_there t None i h lt = absurd (true≢false (sym h))
state_there t (Some s) i h lt = some_at t (number_at s i) lt

source_found : (k : Kinds) (o : Option Section) (i : ℕ) → IsSome o → is_source_number k (o >>= λ s. Some (number_at s i)) ≡ is_source (wet_at k (number_in_filling (filling_in o) i))
source_found k None i h = absurd (true≢false (sym h))
source_found k (Some s) i h = refl

-- ---- the chunk at a position of a world that can be written

module _ (w : World) (k : Kinds) (ls : List ChunkLight) (n : ℕ) (can : CanSave w k ls n) (c : ChunkPos) (x : Chunk) (there : has_chunk (positions_of w) c ≡ true) (own : IsChunkOf w c x) where
  loaded_there : (p : Pos) → lies_in c (height_of w) p ≡ true → is_loaded (land_of w) p ≡ true
  loaded_there p e =
      let q = chunk_of_position c (height_of w) p e in
      and_from (has_chunk (positions_of w) (chunk_of p)) (is_block_of (height_of w) p.y) (ap (has_chunk (positions_of w)) q.0 ∙ there) q.1

  grid_at : (p : Pos) → lies_in c (height_of w) p ≡ true → grid w (section_of p) ≡ filling_in (section_in (height_of w) x (divided p.y 16))
  grid_at p e =
      let q = chunk_of_position c (height_of w) p e in
      own.sections (section_of p) q.0 ∙ ap filling_in (layer_is (height_of w) x p q.1)

  section_there : (p : Pos) → lies_in c (height_of w) p ≡ true → IsSome (section_in (height_of w) x (divided p.y 16))
  section_there p e =
      here_some (section_in (height_of w) x (divided p.y 16)) (ap is_here (sym (grid_at p e)) ∙ (ap (λ (f : Pos → Bool). f p) can.whole ∙ loaded_there p e))

  each_there : (y : ℤ) → is_section_of (height_of w) y ≡ true → IsSome (section_in (height_of w) x y)
  each_there y inside =
      let level : divided (block_at c y 0).y 16 ≡ y = divided-coordinate y 0 (omega arith) in
      subst (λ z. IsSome (section_in (height_of w) x z)) level (section_there (block_at c y 0) (lies_in-block_at c (height_of w) y 0 inside (omega arith)))

  numbered : (p : Pos) → lies_in c (height_of w) p ≡ true → IsSome (state_in (states (table_in k)) (height_of w) x p)
  numbered p e =
      let low : number_in_filling (grid w (section_of p)) (place_of p) < kind_count k = can.numbered p (loaded_there p e) in
      let here : number_in_filling (filling_in (section_in (height_of w) x (divided p.y 16))) (place_of p) < length (states (table_in k)) =
      subst (λ m. number_in_filling (filling_in (section_in (height_of w) x (divided p.y 16))) (place_of p) < m) k.listed.a_row_each (subst (λ f. number_in_filling f (place_of p) < kind_count k) (grid_at p e) low) in
      state_there (states (table_in k)) (section_in (height_of w) x (divided p.y 16)) (place_of p) (section_there p e) here

  cells_same : (p : Pos) → lies_in c (height_of w) p ≡ true → chunk_cells (states (table_in k)) (height_of w) x p ≡ (states_in k w).at p
  cells_same p e =
      state_found (states (table_in k)) (states (table_in k)) (section_in (height_of w) x (divided p.y 16)) (place_of p) (grows_nothing (states (table_in k))) (numbered p e)
      ∙ sym (ap (λ f. slice_index_or (states (table_in k)) (number_in_filling f (place_of p)) air) (grid_at p e))

  sources_same : (p : Pos) → lies_in c (height_of w) p ≡ true → sources_of k (height_of w) x p ≡ sources_in k w p
  sources_same p e =
      source_found k (section_in (height_of w) x (divided p.y 16)) (place_of p) (section_there p e)
      ∙ sym (ap (λ f. is_source (wet_at k (number_in_filling f (place_of p)))) (grid_at p e))

  within : All (λ e. lies_in c (height_of w) e.pos ≡ true) (entries x.ticks)
  within = subst (λ (es : List Entry). All (λ e. lies_in c (height_of w) e.pos ≡ true) es) own.entries_are (w.lawful.within c)

  sources_all : (es : List Entry) → AllByRecursion (λ e. lies_in c (height_of w) e.pos ≡ true) es → AllByRecursion (λ e. sources_of k (height_of w) x e.pos ≡ sources_in k w e.pos) es
  sources_all [] a = tt
  sources_all (e ∷ es) a = (sources_same e.pos a.0, sources_all es a.1)

  module _ (r : ChunkRest) (l : ChunkLight) (at : r.pos ≡ c) (tall : r.height ≡ height_of w) (lit : section_count l ≡ (height_of w).sections) where
    pub can_write : CanWrite x r k l n
    can_write = record {
      whole = subst (λ b. reading.HasAllSections b x) (sym tall) (record { count = own.count; each_there = each_there });
      numbered = λ p e. subst (λ b. IsSome (state_in (states (table_in k)) b x p)) (sym tall) (numbered p (subst (λ b. lies_in c b p ≡ true) tall (subst (λ a. lies_in a r.height p ≡ true) at e)));
      within = subst (λ a. All (λ e. lies_in a r.height e.pos ≡ true) (entries x.ticks)) (sym at) (subst (λ b. All (λ e. lies_in c b e.pos ≡ true) (entries x.ticks)) (sym tall) within);
      due = subst (λ (es : List Entry). All (λ e. FitsSigned w32 (e.due -ℤ pos n)) es) own.entries_are (can.due c);
      lit = lit ∙ ap (λ (b : Height). b.sections) (sym tall);
    }

    pub written_is : slice_get ls (slot (positions_of w) c) ≡ Some l
        → written x r k l n ≡ chunk_layout c (height_of w) (states_in k w).at (lists w c) (sources_in k w) (rest_of r) (lights_in w ls c) n
    written_is light =
        let moved : written x r k l n ≡ chunk_layout c (height_of w) (chunk_cells (states (table_in k)) (height_of w) x) (entries x.ticks) (sources_of k (height_of w) x) (rest_of r) (light_of l (height_of w)) n =
        λ i. chunk_layout (at i) (tall i) (chunk_cells (states (table_in k)) (tall i) x) (entries x.ticks) (sources_of k (tall i) x) (rest_of r) (light_of l (tall i)) n in
        let same = layout_same c (height_of w) (chunk_cells (states (table_in k)) (height_of w) x) (states_in k w).at (entries x.ticks) (sources_of k (height_of w) x) (sources_in k w) (rest_of r) (light_of l (height_of w)) (light_of l (height_of w)) n
        cells_same (sources_all (entries x.ticks) (recursion_from_All (λ e. lies_in c (height_of w) e.pos ≡ true) (entries x.ticks) within)) (λ y inside. refl) in
        moved ∙ (same
        ∙ (ap (λ (es : List Entry). chunk_layout c (height_of w) (states_in k w).at es (sources_in k w) (rest_of r) (light_of l (height_of w)) n) (sym own.entries_are)
        ∙ ap (λ (o : Option ChunkLight). chunk_layout c (height_of w) (states_in k w).at (lists w c) (sources_in k w) (rest_of r) (λ y. section_light (height_of w) o y) n) (sym light)))
