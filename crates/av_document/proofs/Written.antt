-- What is written of a chunk denotes the same cells, entries and rest.
use Rattle.std.proofs.Common.{◌≡◌, ℕ, ◌<◌, List, [], ◌∷◌, ◌++◌, ℤ, negsuc, Bool, true, false, ◌||◌, not, Some, None, Option, cond, map, refl, sym, ap, ◌∙◌, subst}
use Rattle.std.specs.Prelude.{codes, is_some}
use Rattle.std.specs.List.{flat_map, list_any}
use Rattle.std.specs.Ordering.{int_eq}
use Rattle.std.specs.Str.{bytes_eq}
use Rattle.std.proofs.lemmas.Bool.{true≢false, or_parts, or_from}
use Rattle.std.proofs.lemmas.Option.{same_Some}
use Rattle.av_types.specs.Division.{divided}
use Rattle.av_types.specs.Positions.{is_section_of, place_of}
use Rattle.av_types.specs.Faults.{least}
use Rattle.av_types.specs.declared.position.Pos.{Pos}
use Rattle.av_types.specs.declared.position.ChunkPos.{ChunkPos}
use Rattle.av_types.specs.declared.position.Height.{Height}
use Rattle.av_types.specs.declared.tick.Entry.{Entry}
use Rattle.av_tags.specs.Nbt.{Nbt, byte, NamedTag, Document}
use Rattle.av_tags.specs.ByName.{tag_of, with_tag, blank, emptied}
use Rattle.av_types.specs.Options.{◌>>=◌}
use Rattle.av_tags.specs.Shape.{text_of, int_of, compound_of, compounds_of, lacks, or_else}
use Rattle.av_nbt.specs.Writing.{IsWellFormed}
use Rattle.av_tags.proofs.Trees.{members_in_of}
use Rattle.av_state.specs.BlockState.{BlockState}
use Rattle.av_section.specs.BlockStates.{when}
use Rattle.av_document.specs.Ticks.{lies_in, is_bad_tick, int_at, with_water, foreign}
use Rattle.av_document.specs.Chunk.{root_tags, has_level, status_of, is_full, sections_of, sections, ticks, section_number, is_in_height, numbered, tags_at, is_other, is_bad_list, is_bad_chunk, is_at, is_elsewhere, block_faults, section_faults, loaded_faults, faults, block_cell, block_states_of, cell_of, section_rest, RestOfChunk, outside_at, DenotesChunk}
use Rattle.av_document.specs.Layout.{compounds, section_layout, section_numbers, block_at, section_at, all_of, ticks_layout, chunk_layout}
use Rattle.av_document.specs.Law.{sooner, IsMeant, IsLawful, WrittenDenotes}
use Rattle.av_document.proofs.Judged.{judged}
use Rattle.av_document.proofs.Tags.{tag_of-place_same, tag_of-place_other, two_places}
use Rattle.av_document.proofs.Rows.{compounds_of-compounds, numbered-all_of, numbered-number, GivesNumbered}
use Rattle.av_document.proofs.Numbers.{byte_number, height_number, section_numbers-rise}
use Rattle.av_document.proofs.Sections.{GivesShaped, are_good_sections, no_section_faults}
use Rattle.av_document.proofs.Positions.{within_from, lies_in-block_at, block_at-of, place_of-lt}
use Rattle.av_document.proofs.WrittenTicks.{no_bad_ticks, with_water-ticks, foreign-ticks, entry_tags}
use Rattle.av_document.proofs.WrittenSection.{section_number-row, shaped-row, section_rest-row, block_faults-row, block_cell-row}
use Rattle.av_document.proofs.Spelled.{number_fits}
use Rattle.av_document.proofs.Faults.{least_none, no_parts, when_not}

abbrev ticks_key : List ℕ
ticks_key = codes "fluid_ticks"

abbrev sections_key : List ℕ
sections_key = codes "sections"

none_either : {A : Type 0} (b : Bool) → let none : Option A = None in cond b none none ≡ none
none_either true = refl
none_either false = refl

-- ---- what no fault of a chunk says

pub record IsGood (h : Height) (c : ChunkPos) (root : List NamedTag) : Type 0 where
  pub level : has_level root ≡ false
  pub status : lacks (status_of root) ≡ false
  pub place_x : lacks (int_at (codes "xPos") root) ≡ false
  pub place_z : lacks (int_at (codes "zPos") root) ≡ false
  pub section_list : is_bad_list h (sections_of root) ≡ false
  pub tick_list : is_other compounds_of (tag_of (codes "fluid_ticks") root) ≡ false
  pub here : is_elsewhere c root ≡ false
  pub section_states : flat_map (section_faults h) (sections root) ≡ []
  pub tick_states : list_any (is_bad_tick c h) (ticks root) ≡ false

pub good_from : (h : Height) (c : ChunkPos) (root : List NamedTag) → is_full root ≡ true → least (faults h c root) ≡ None → IsGood h c root
good_from h c root full none =
    let all : faults h c root ≡ [] = least_none (faults h c root) none in
    let first = no_parts (when (has_level root) 11 ++ when (lacks (status_of root)) 12) (cond (is_full root) (loaded_faults h c root) []) all in
    let second = no_parts (when (has_level root) 11) (when (lacks (status_of root)) 12) first.0 in
    let loaded : loaded_faults h c root ≡ [] = sym (ap (λ b. cond b (loaded_faults h c root) []) full) ∙ first.1 in
    let third = no_parts (when (is_bad_chunk h root) 12 ++ when (is_elsewhere c root) 13 ++ flat_map (section_faults h) (sections root)) (when (list_any (is_bad_tick c h) (ticks root)) 16) loaded in
    let fourth = no_parts (when (is_bad_chunk h root) 12 ++ when (is_elsewhere c root) 13) (flat_map (section_faults h) (sections root)) third.0 in
    let fifth = no_parts (when (is_bad_chunk h root) 12) (when (is_elsewhere c root) 13) fourth.0 in
    let bad : is_bad_chunk h root ≡ false = when_not (is_bad_chunk h root) 12 fifth.0 in
    let one = or_parts (lacks (int_at (codes "xPos") root) || lacks (int_at (codes "zPos") root) || is_bad_list h (sections_of root)) (is_other compounds_of (tag_of (codes "fluid_ticks") root)) bad in
    let two = or_parts (lacks (int_at (codes "xPos") root) || lacks (int_at (codes "zPos") root)) (is_bad_list h (sections_of root)) one.0 in
    let three = or_parts (lacks (int_at (codes "xPos") root)) (lacks (int_at (codes "zPos") root)) two.0 in
    record {
      level = when_not (has_level root) 11 second.0;
      status = when_not (lacks (status_of root)) 12 second.1;
      place_x = three.0;
      place_z = three.1;
      section_list = two.1;
      tick_list = one.1;
      here = when_not (is_elsewhere c root) 13 fifth.1;
      section_states = fourth.1;
      tick_states = when_not (list_any (is_bad_tick c h) (ticks root)) 16 third.1;
    }

good_is : (h : Height) (c : ChunkPos) (root : List NamedTag) → is_full root ≡ true → IsGood h c root → least (faults h c root) ≡ None
good_is h c root full g =
    let bad : is_bad_chunk h root ≡ false =
    or_from (lacks (int_at (codes "xPos") root) || lacks (int_at (codes "zPos") root) || is_bad_list h (sections_of root)) (is_other compounds_of (tag_of (codes "fluid_ticks") root))
    (or_from (lacks (int_at (codes "xPos") root) || lacks (int_at (codes "zPos") root)) (is_bad_list h (sections_of root))
    (or_from (lacks (int_at (codes "xPos") root)) (lacks (int_at (codes "zPos") root)) g.place_x g.place_z) g.section_list) g.tick_list in
    ap (λ b. least (when b 11 ++ when (lacks (status_of root)) 12 ++ cond (is_full root) (loaded_faults h c root) [])) g.level
    ∙ ap (λ b. least (when b 12 ++ cond (is_full root) (loaded_faults h c root) [])) g.status
    ∙ ap (λ b. least (cond b (loaded_faults h c root) [])) full
    ∙ ap (λ b. least (when b 12 ++ when (is_elsewhere c root) 13 ++ flat_map (section_faults h) (sections root) ++ when (list_any (is_bad_tick c h) (ticks root)) 16)) bad
    ∙ ap (λ b. least (when b 13 ++ flat_map (section_faults h) (sections root) ++ when (list_any (is_bad_tick c h) (ticks root)) 16)) g.here
    ∙ ap (λ l. least (l ++ when (list_any (is_bad_tick c h) (ticks root)) 16)) g.section_states
    ∙ ap (λ b. least (when b 16)) g.tick_states

-- ---- a root with its two places filled

module _ (filled_ticks filled_sections : Nbt) (root : List NamedTag) where
  abbrev emptied_root : List NamedTag
  emptied_root = emptied ticks_key (emptied sections_key root)

  abbrev filled_root : List NamedTag
  filled_root = with_tag ticks_key filled_ticks (with_tag sections_key filled_sections emptied_root)

  root_stays : (k : List ℕ) → bytes_eq k ticks_key ≡ false → bytes_eq k sections_key ≡ false → tag_of k filled_root ≡ tag_of k root
  root_stays k ticks_differ sections_differ =
      tag_of-place_other k ticks_key filled_ticks (with_tag sections_key filled_sections emptied_root) ticks_differ
      ∙ tag_of-place_other k sections_key filled_sections emptied_root sections_differ
      ∙ tag_of-place_other k ticks_key blank (emptied sections_key root) ticks_differ
      ∙ tag_of-place_other k sections_key blank root sections_differ

  ticks_there : tag_of ticks_key filled_root ≡ Some filled_ticks
  ticks_there = tag_of-place_same ticks_key filled_ticks (with_tag sections_key filled_sections emptied_root)

  sections_there : tag_of sections_key filled_root ≡ Some filled_sections
  sections_there =
      tag_of-place_other sections_key ticks_key filled_ticks (with_tag sections_key filled_sections emptied_root) refl
      ∙ tag_of-place_same sections_key filled_sections emptied_root

  rest_stays : emptied ticks_key (emptied sections_key filled_root) ≡ emptied_root
  rest_stays = two_places ticks_key sections_key blank blank filled_ticks filled_sections root refl

  full_stays : is_full filled_root ≡ is_full root
  full_stays = ap (λ o. bytes_eq (or_else [] (o >>= text_of)) (codes "full") || bytes_eq (or_else [] (o >>= text_of)) (codes "minecraft:full")) (root_stays (codes "Status") refl refl)

-- ---- the chunk that was written

module _ (c : ChunkPos) (h : Height) (d : Document) (cells now : Pos → BlockState) (water then : List Entry) (sources : Pos → Bool) (rest : RestOfChunk) (light : ℤ → List ℕ) (n : ℕ)
    (well : IsWellFormed d) (denotes : DenotesChunk c h d cells water rest) (lawful : IsLawful c h now then) where
  abbrev old : List NamedTag
  old = root_tags d

  -- the section of a number
  abbrev row_at : ℤ → Option (List NamedTag)
  row_at y = section_at c h now rest light y

  abbrev rows : List (List NamedTag)
  rows = all_of row_at section_numbers

  abbrev cell_in : ℤ → ℕ → BlockState
  cell_in y i = now (block_at c y i)

  good : IsGood h c old
  good = good_from h c old denotes.full denotes.no_fault

  numbered_tags : (y : ℤ) → section_number (tags_at y old) ≡ Some y
  numbered_tags y = by (numbered y (sections old)) refl where
    by : (o : Option (List NamedTag)) → numbered y (sections old) ≡ o → section_number (or_else (record { name = codes "Y"; tag = byte y } ∷ []) o) ≡ Some y
    by None e = refl
    by (Some ms) e = numbered-number y (sections old) ms e

  row_inside : (y : ℤ) → is_section_of h y ≡ true → row_at y ≡ Some (section_layout (section_rest (tags_at y old)) (cell_in y) (light y))
  row_inside y inside =
      ap (λ b. cond b (Some (section_layout (rest.section y) (cell_in y) (light y))) (rest.outside y)) inside
      ∙ ap (λ r. Some (section_layout r (cell_in y) (light y))) (denotes.section_is y inside)

  row_outside : (y : ℤ) → is_section_of h y ≡ false → row_at y ≡ numbered y (sections old)
  row_outside y out =
      ap (λ b. cond b (Some (section_layout (rest.section y) (cell_in y) (light y))) (rest.outside y)) out
      ∙ denotes.outside_is y
      ∙ ap (λ b. cond b None (numbered y (sections old))) out

  -- what holds of the rows in the height and of those out of it holds of each
  by_row : (P : ℤ → List NamedTag → Type 0) → ((y : ℤ) → is_section_of h y ≡ true → P y (section_layout (section_rest (tags_at y old)) (cell_in y) (light y)))
      → ((y : ℤ) (ms : List NamedTag) → is_section_of h y ≡ false → numbered y (sections old) ≡ Some ms → P y ms) → (y : ℤ) (ms : List NamedTag) → row_at y ≡ Some ms → P y ms
  by_row P inner outer y ms e = by (is_section_of h y) refl where
    by : (b : Bool) → is_section_of h y ≡ b → P y ms
    by true inside = subst (P y) (same_Some (section_layout (section_rest (tags_at y old)) (cell_in y) (light y)) ms (sym (row_inside y inside) ∙ e)) (inner y inside)
    by false out = outer y ms out (sym (row_outside y out) ∙ e)

  gives_numbered : GivesNumbered row_at
  gives_numbered = by_row (λ y ms. section_number ms ≡ Some y)
      (λ y inside. section_number-row (tags_at y old) (cell_in y) (light y) ∙ numbered_tags y)
      (λ y ms out e. numbered-number y (sections old) ms e)

  gives_shaped : GivesShaped h row_at
  gives_shaped = by_row (λ y ms. is_section_of h y ≡ true → is_other compound_of (tag_of (codes "block_states") ms) ≡ false)
      (λ y inside _. shaped-row (tags_at y old) (cell_in y) (light y))
      (λ y ms out e inside. absurd (true≢false (sym inside ∙ out)))

  meant_cells : (y : ℤ) → is_section_of h y ≡ true → (i : ℕ) → i < 4096 → IsMeant (cell_in y i)
  meant_cells y inside i lt = lawful.meant_states (block_at c y i) (lies_in-block_at c h y i inside lt)

  gives_no_faults : (y : ℤ) (ms : List NamedTag) → row_at y ≡ Some ms → section_faults h ms ≡ []
  gives_no_faults = by_row (λ y ms. section_faults h ms ≡ [])
      (λ y inside.
      let r : List NamedTag = section_layout (section_rest (tags_at y old)) (cell_in y) (light y) in
      ap (λ o. cond (is_in_height h o) (block_faults (block_states_of r)) []) (section_number-row (tags_at y old) (cell_in y) (light y) ∙ numbered_tags y)
      ∙ ap (λ b. cond b (block_faults (block_states_of r)) []) inside
      ∙ block_faults-row (tags_at y old) (cell_in y) (light y) (meant_cells y inside))
      (λ y ms out e.
      ap (λ o. cond (is_in_height h o) (block_faults (block_states_of ms)) []) (numbered-number y (sections old) ms e)
      ∙ ap (λ b. cond b (block_faults (block_states_of ms)) []) out)

  -- each section is found by its number
  found : (y : ℤ) → list_any (int_eq y) section_numbers ≡ true → numbered y rows ≡ row_at y
  found y among = numbered-all_of row_at gives_numbered y section_numbers ∙ ap (λ b. cond b (row_at y) None) among

  found_inside : (y : ℤ) → is_section_of h y ≡ true → numbered y rows ≡ Some (section_layout (section_rest (tags_at y old)) (cell_in y) (light y))
  found_inside y inside = found y (height_number h y inside) ∙ row_inside y inside

  found_outside : (y : ℤ) → is_section_of h y ≡ false → numbered y rows ≡ numbered y (sections old)
  found_outside y out = numbered-all_of row_at gives_numbered y section_numbers ∙ ap (λ o. cond (list_any (int_eq y) section_numbers) o None) (row_outside y out) ∙ by (numbered y (sections old)) refl where
    by : (o : Option (List NamedTag)) → numbered y (sections old) ≡ o → cond (list_any (int_eq y) section_numbers) o None ≡ o
    by None e = none_either (list_any (int_eq y) section_numbers)
    by (Some ms) e = ap (λ b. cond b (Some ms) None) (byte_number y (number_fits d y ms well e))

  -- ---- the new root

  abbrev all_ticks : List (List NamedTag)
  all_ticks = foreign (ticks old) ++ map (entry_tags sources n) then

  abbrev new : List NamedTag
  new = filled_root (compounds all_ticks) (compounds rows) old

  new_is : root_tags (chunk_layout c h now then sources rest light n) ≡ new
  new_is =
      members_in_of (with_tag ticks_key (ticks_layout sources rest.foreign then n) (with_tag sections_key (compounds rows) rest.tags))
      ∙ ap (λ ts. with_tag ticks_key (compounds (ts ++ map (entry_tags sources n) then)) (with_tag sections_key (compounds rows) rest.tags)) denotes.foreign_are
      ∙ ap (λ tags. with_tag ticks_key (compounds all_ticks) (with_tag sections_key (compounds rows) tags)) denotes.tags_are

  stays : (k : List ℕ) → bytes_eq k ticks_key ≡ false → bytes_eq k sections_key ≡ false → tag_of k new ≡ tag_of k old
  stays k e f = root_stays (compounds all_ticks) (compounds rows) old k e f

  new_sections : sections_of new ≡ Some rows
  new_sections = ap (λ o. o >>= compounds_of) (sections_there (compounds all_ticks) (compounds rows) old) ∙ compounds_of-compounds rows

  new_ticks : ticks new ≡ all_ticks
  new_ticks = ap (λ o. or_else [] (o >>= compounds_of)) (ticks_there (compounds all_ticks) (compounds rows) old) ∙ ap (or_else []) (compounds_of-compounds all_ticks)

  new_full : is_full new ≡ true
  new_full = full_stays (compounds all_ticks) (compounds rows) old ∙ denotes.full

  new_good : IsGood h c new
  new_good = record {
    level = ap is_some (stays (codes "Level") refl refl) ∙ good.level;
    status = ap (λ o. lacks (o >>= text_of)) (stays (codes "Status") refl refl) ∙ good.status;
    place_x = ap (λ o. lacks (o >>= int_of)) (stays (codes "xPos") refl refl) ∙ good.place_x;
    place_z = ap (λ o. lacks (o >>= int_of)) (stays (codes "zPos") refl refl) ∙ good.place_z;
    section_list = ap (is_bad_list h) new_sections ∙ judged h rows ∙ are_good_sections h row_at gives_numbered gives_shaped (negsuc 200) [] section_numbers tt section_numbers-rise;
    tick_list = ap (is_other compounds_of) (ticks_there (compounds all_ticks) (compounds rows) old) ∙ ap lacks (compounds_of-compounds all_ticks);
    here =
        ap (λ o. not (is_at c (o >>= int_of) (int_at (codes "zPos") new))) (stays (codes "xPos") refl refl)
        ∙ ap (λ o. not (is_at c (int_at (codes "xPos") old) (o >>= int_of))) (stays (codes "zPos") refl refl)
        ∙ good.here;
    section_states = ap (λ o. flat_map (section_faults h) (or_else [] o)) new_sections ∙ no_section_faults h row_at gives_no_faults section_numbers;
    tick_states = ap (list_any (is_bad_tick c h)) new_ticks ∙ no_bad_ticks sources n c h (ticks old) then good.tick_states lawful.within;
  }

  new_tags_at : (y : ℤ) → is_section_of h y ≡ true → tags_at y new ≡ section_layout (section_rest (tags_at y old)) (cell_in y) (light y)
  new_tags_at y inside =
      ap (λ o. or_else (record { name = codes "Y"; tag = byte y } ∷ []) (numbered y (or_else [] o))) new_sections
      ∙ ap (or_else (record { name = codes "Y"; tag = byte y } ∷ [])) (found_inside y inside)

  new_cell : (p : Pos) → lies_in c h p ≡ true → now p ≡ cell_of new p
  new_cell p inside =
      let y : ℤ = divided p.y 16 in
      let height : is_section_of h (divided p.y 16) ≡ true = (within_from c h p inside).height in
      sym (
      ap (λ ms. block_cell (block_states_of ms) (place_of p)) (new_tags_at (divided p.y 16) height)
      ∙ block_cell-row (tags_at (divided p.y 16) old) (cell_in (divided p.y 16)) (light (divided p.y 16)) (meant_cells (divided p.y 16) height) (place_of p) (place_of-lt p)
      ∙ ap now (block_at-of c h p inside))

  new_outside : (y : ℤ) → rest.outside y ≡ outside_at h y new
  new_outside y = denotes.outside_is y ∙ by (is_section_of h y) refl where
    by : (b : Bool) → is_section_of h y ≡ b → cond b None (numbered y (sections old)) ≡ cond b None (numbered y (sections new))
    by true e = refl
    by false e = sym (ap (λ o. numbered y (or_else [] o)) new_sections ∙ found_outside y e)

  pub written : DenotesChunk c h (chunk_layout c h now then sources rest light n) now (map (sooner n) then) rest
  written =
      let root : List NamedTag = root_tags (chunk_layout c h now then sources rest light n) in
      record {
        no_fault = ap (λ r. least (faults h c r)) new_is ∙ good_is h c new new_full new_good;
        full = ap is_full new_is ∙ new_full;
        cells_are = λ p inside. new_cell p inside ∙ ap (λ r. cell_of r p) (sym new_is);
        water_is = sym (ap (λ r. with_water [] (ticks r)) new_is ∙ ap (with_water []) new_ticks ∙ with_water-ticks sources n (ticks old) then lawful.apart);
        name_is = refl;
        tags_are = denotes.tags_are ∙ sym (rest_stays (compounds all_ticks) (compounds rows) old) ∙ ap (λ r. emptied ticks_key (emptied sections_key r)) (sym new_is);
        foreign_are = denotes.foreign_are ∙ sym (ap (λ r. foreign (ticks r)) new_is ∙ ap foreign new_ticks ∙ foreign-ticks sources n (ticks old) then);
        outside_is = λ y. new_outside y ∙ ap (outside_at h y) (sym new_is);
        section_is = λ y inside.
            denotes.section_is y inside
            ∙ sym (ap section_rest (new_tags_at y inside) ∙ section_rest-row (tags_at y old) (cell_in y) (light y))
            ∙ ap (λ r. section_rest (tags_at y r)) (sym new_is);
      }

pub written_is_denoted : WrittenDenotes
written_is_denoted c h d cells now water then sources rest light n well denotes lawful = written c h d cells now water then sources rest light n well denotes lawful
