-- What is written of a chunk has a spelling.
use Rattle.std.proofs.Common.{◌≡◌, ℕ, zero, suc, ◌+◌, ◌<◌, ◌≤◌, ◌^◌, List, [], ◌∷◌, ◌++◌, ℤ, pos, w8, Bool, true, false, Some, None, Option, cond, map, length, nat_lt, refl, sym, ap, ◌∙◌, subst, arith, lit<, length-append}
use Rattle.std.specs.Prelude.{codes, FitsSigned, All}
use Rattle.std.specs.Int.{w16, to_be_bytes}
use Rattle.std.specs.List.{AllByRecursion, range_with_len}
use Rattle.std.proofs.lemmas.Option.{none-some, same_Some}
use Rattle.std.proofs.lemmas.List.{length-map}
use Rattle.std.proofs.lemmas.List.FromFn.{length-map-range_with_len}
use Rattle.av_types.specs.Positions.{is_section_of}
use Rattle.av_types.specs.declared.position.Pos.{Pos}
use Rattle.av_types.specs.declared.position.ChunkPos.{ChunkPos}
use Rattle.av_types.specs.declared.position.Height.{Height}
use Rattle.av_types.specs.declared.tick.Entry.{Entry}
use Rattle.av_tags.specs.Nbt.{Nbt, byte, byte_array, list, compound, long_array, NamedTag, Document, members_of, items_of, LacksMember}
use Rattle.av_tags.specs.declared.tag.TagType.TheVariants as tag_type
use Rattle.av_tags.specs.TagTypes.{type_number}
use Rattle.av_tags.specs.ByName.{tag_of, with_tag, without, blank, emptied}
use Rattle.av_types.specs.Options.{◌>>=◌}
use Rattle.av_tags.specs.Shape.{compound_of, compounds_of, lacks, or_else}
use Rattle.av_nbt.specs.Spelling.{SpellsDocument}
use Rattle.av_nbt.specs.Writing.{IsWellFormed}
use Rattle.av_state.specs.BlockState.{BlockState}
use Rattle.av_section.specs.BlockStates.{palette_states, palette_tag, data_tag}
use Rattle.av_pack.specs.Packing.{bits_for, packed}
use Rattle.av_pack.proofs.Packed.{length-packed}
use Rattle.av_pack.proofs.Laws.{bits_for-enough}
use Rattle.av_document.specs.Ticks.{water_entry, foreign}
use Rattle.av_document.specs.Chunk.{root_tags, sections, ticks, numbered, tags_at, is_number, section_number, block_states_of, section_rest, RestOfChunk, DenotesChunk}
use Rattle.av_document.specs.Layout.{compounds, data_tags, states_layout, states_of, section_layout, section_numbers, block_at, section_at, all_of, kept_section, ticks_layout, chunk_layout}
use Rattle.av_document.specs.Law.{IsMeant, IsLawful, HasInts, WrittenIsWellFormed}
use Rattle.av_document.proofs.Numbers.{height_fits}
use Rattle.av_document.proofs.Positions.{lies_in-block_at}
use Rattle.av_document.proofs.WrittenTicks.{entry_tags}
use Rattle.av_document.proofs.WrittenSection.{written_states}
use Rattle.av_document.proofs.WrittenPalette.{AreOfPalette, is_filled, indices, indices_all}
use Rattle.av_document.proofs.Good.{IsGood, IsGoodNamed, AreGood, byte_good, byte_array_good, long_array_good, compound_good, compounds_good, compound_parts, compounds_parts}
use Rattle.av_document.proofs.GoodNames.{differs, absent_without, absent_kept, place_good, without_good, found_good}
use Rattle.av_document.proofs.GoodStates.{same_rows, palette_good, longs_fit, few_longs, entry_tags_good}
use Rattle.av_document.proofs.GoodCounts.{few_entries, few_rows, few_foreign, few_compounds, tag_bytes}

blank_good : (k : ℕ) → IsGood k blank
blank_good k = byte_good k (pos 0) (record { sfits = lit< tt })

-- ---- block states

each_from : (P : BlockState → Type 0) (f : ℕ → BlockState) (a n : ℕ) → ((i : ℕ) → i < a + n → P (f i)) → AllByRecursion P (map f (range_with_len a n))
each_from P f a zero h = tt
each_from P f a (suc n) h = (h a (omega arith), each_from P f (a + 1) n (λ i lt. h i (omega arith)))

palette_tag_good : (k : ℕ) (states : List BlockState) → AreOfPalette states (palette_states states) → IsGood (suc (suc (suc k))) (palette_tag states)
palette_tag_good k states filled =
    let few : length (palette_states states) < 2 ^ 31 = omega (arith, filled.few) in
    subst (λ l. IsGood (suc (suc (suc k))) (list tag_type.Compound (items_of l))) (sym (same_rows (palette_states states))) (palette_good k (palette_states states) filled.meant_states few)

data_good : (k : ℕ) (states : List BlockState) → AreOfPalette states (palette_states states) → AllByRecursion (IsGoodNamed k) (data_tags (data_tag states))
data_good k states filled = by (nat_lt 1 (length (palette_states states))) where
  palette : List BlockState
  palette = palette_states states

  b : ℕ
  b = bits_for (length (palette_states states))

  fit : All (λ n. n < 2 ^ bits_for (length (palette_states states))) (indices (palette_states states) states)
  fit = indices_all (palette_states states) states (bits_for (length (palette_states states))) filled.numbered (bits_for-enough (length (palette_states states)) (omega (arith, filled.few)))

  few : length (packed (bits_for (length (palette_states states))) (indices (palette_states states) states)) < 2 ^ 31
  few = omega (arith, length-packed (bits_for (length (palette_states states))) (indices (palette_states states) states), few_longs (bits_for (length (palette_states states))))

  by : (v : Bool) → AllByRecursion (IsGoodNamed k) (data_tags (cond v (Some (long_array (packed (bits_for (length (palette_states states))) (indices (palette_states states) states)))) None))
  by true = (record { short = lit< tt; good = long_array_good k (packed (bits_for (length (palette_states states))) (indices (palette_states states) states)) few (longs_fit (bits_for (length (palette_states states))) (indices (palette_states states) states) fit) }, tt)
  by false = tt

states_tags_good : (k : ℕ) (palette : Nbt) (o : Option Nbt) (others : List NamedTag) → IsGood k palette → AllByRecursion (IsGoodNamed k) (data_tags o) → AreGood k others
    → LacksMember (codes "palette") (members_of others) → LacksMember (codes "data") (members_of others) → AreGood k (record { name = codes "palette"; tag = palette } ∷ data_tags o ++ others)
states_tags_good k palette None others good data_are h no_palette no_data = record {
  each_good = (record { short = lit< tt; good = good }, h.each_good);
  distinct = (no_palette, h.distinct);
}
states_tags_good k palette (Some t) others good data_are h no_palette no_data = record {
  each_good = (record { short = lit< tt; good = good }, (data_are.0, h.each_good));
  distinct = ((differs (codes "palette") (codes "data") refl, no_palette), (no_data, h.distinct));
}

-- ---- sections

nothing_good : (k : ℕ) → AreGood k []
nothing_good k = record { each_good = tt; distinct = tt }

old_states_good : (k : ℕ) (ms : List NamedTag) → AreGood (suc k) ms → AreGood k (or_else [] (block_states_of ms))
old_states_good k ms h = by (tag_of (codes "block_states") ms) refl where
  by : (o : Option Nbt) → tag_of (codes "block_states") ms ≡ o → AreGood k (or_else [] (o >>= compound_of))
  by None e = nothing_good k
  by (Some t) e = parts (compound_of t) refl where
    parts : (os : Option (List NamedTag)) → compound_of t ≡ os → AreGood k (or_else [] os)
    parts None f = nothing_good k
    parts (Some inner) f = compound_parts k t inner (found_good (suc k) (codes "block_states") t ms h.each_good e) f

row_good : (j : ℕ) (ms : List NamedTag) (cell : ℕ → BlockState) (light : List ℕ) → AreGood (suc (suc (suc (suc j)))) ms → ((i : ℕ) → i < 4096 → IsMeant (cell i))
    → length light ≡ 2048 → AreGood (suc (suc (suc (suc j)))) (section_layout (section_rest ms) cell light)
row_good j ms cell light h meant_cells lit =
    let k : ℕ = suc (suc (suc j)) in
    let x : List NamedTag = or_else [] (block_states_of ms) in
    let old : AreGood (suc (suc (suc j))) (or_else [] (block_states_of ms)) = old_states_good (suc (suc (suc j))) ms h in
    let others : AreGood (suc (suc (suc j))) (section_rest ms).states = without_good (suc (suc (suc j))) (codes "data") (without (codes "palette") (or_else [] (block_states_of ms))) (without_good (suc (suc (suc j))) (codes "palette") (or_else [] (block_states_of ms)) old) in
    let no_palette : LacksMember (codes "palette") (members_of (section_rest ms).states) = absent_kept (codes "palette") (codes "data") (without (codes "palette") (or_else [] (block_states_of ms))) (absent_without (codes "palette") (or_else [] (block_states_of ms))) in
    let no_data : LacksMember (codes "data") (members_of (section_rest ms).states) = absent_without (codes "data") (without (codes "palette") (or_else [] (block_states_of ms))) in
    let states : List BlockState = states_of cell in
    let count : length (states_of cell) ≡ 4096 = length-map-range_with_len cell 0 4096 in
    let filled : AreOfPalette (states_of cell) (palette_states (states_of cell)) = is_filled (states_of cell) count (each_from IsMeant cell 0 4096 (λ i lt. meant_cells i (omega arith))) in
    let written : AreGood (suc (suc (suc j))) (written_states (section_rest ms).states (states_of cell)) =
    states_tags_good (suc (suc (suc j))) (palette_tag (states_of cell)) (data_tag (states_of cell)) (section_rest ms).states (palette_tag_good j (states_of cell) filled) (data_good (suc (suc (suc j))) (states_of cell) filled) others no_palette no_data in
    let block_states : IsGood (suc (suc (suc (suc j)))) (states_layout (section_rest ms).states (states_of cell)) = compound_good (suc (suc (suc j))) (written_states (section_rest ms).states (states_of cell)) written in
    let few : length light < 2 ^ 31 = omega (arith, lit) in
    let emptied_good : AreGood (suc (suc (suc (suc j)))) (section_rest ms).tags =
    place_good (suc (suc (suc (suc j)))) (codes "BlockLight") blank (emptied (codes "block_states") ms) (lit< tt) (blank_good (suc (suc (suc (suc j)))))
    (place_good (suc (suc (suc (suc j)))) (codes "block_states") blank ms (lit< tt) (blank_good (suc (suc (suc (suc j))))) h) in
    place_good (suc (suc (suc (suc j)))) (codes "BlockLight") (byte_array light) (with_tag (codes "block_states") (states_layout (section_rest ms).states (states_of cell)) (section_rest ms).tags) (lit< tt) (byte_array_good (suc (suc (suc (suc j)))) light few)
    (place_good (suc (suc (suc (suc j)))) (codes "block_states") (states_layout (section_rest ms).states (states_of cell)) (section_rest ms).tags (lit< tt) block_states emptied_good)

-- ---- the chunk

numbered_good : (k : ℕ) (y : ℤ) (rows : List (List NamedTag)) (ms : List NamedTag) → AllByRecursion (AreGood k) rows → numbered y rows ≡ Some ms → AreGood k ms
numbered_good k y [] ms h e = absurd (none-some ms e)
numbered_good k y (r ∷ rows) ms h e = by (is_number y (section_number r)) e (numbered_good k y rows ms h.1) where
  by : (b : Bool) → cond b (Some r) (numbered y rows) ≡ Some ms → (numbered y rows ≡ Some ms → AreGood k ms) → AreGood k ms
  by true l more = subst (AreGood k) (same_Some r ms l) h.0
  by false l more = more l

number_tag_good : (k : ℕ) (y : ℤ) → FitsSigned w8 y → AreGood k (record { name = codes "Y"; tag = byte y } ∷ [])
number_tag_good k y fits = record { each_good = (record { short = lit< tt; good = byte_good k y fits }, tt); distinct = (tt, tt) }

foreign_good : (k : ℕ) (ts : List (List NamedTag)) → AllByRecursion (AreGood k) ts → AllByRecursion (AreGood k) (foreign ts)
foreign_good k [] h = tt
foreign_good k (ms ∷ ts) h = by (lacks (water_entry ms)) (foreign_good k ts h.1) where
  by : (b : Bool) → AllByRecursion (AreGood k) (foreign ts) → AllByRecursion (AreGood k) (cond b (ms ∷ foreign ts) (foreign ts))
  by true more = (h.0, more)
  by false more = more

append_good : (k : ℕ) (xs ys : List (List NamedTag)) → AllByRecursion (AreGood k) xs → AllByRecursion (AreGood k) ys → AllByRecursion (AreGood k) (xs ++ ys)
append_good k [] ys h g = g
append_good k (x ∷ xs) ys h g = (h.0, append_good k xs ys h.1 g)

entries_good : (k : ℕ) (sources : Pos → Bool) (n : ℕ) (es : List Entry) → AllByRecursion (HasInts n) es → AllByRecursion (AreGood k) (map (entry_tags sources n) es)
entries_good k sources n [] h = tt
entries_good k sources n (e ∷ es) h = (entry_tags_good k (sources e.pos) n e h.0, entries_good k sources n es h.1)

rows_good : (k : ℕ) (f : ℤ → Option (List NamedTag)) → ((y : ℤ) (ms : List NamedTag) → f y ≡ Some ms → AreGood k ms) → (ys : List ℤ) → AllByRecursion (AreGood k) (all_of f ys)
rows_good k f good [] = tt
rows_good k f good (y ∷ ys) = by (f y) refl (rows_good k f good ys) where
  by : (o : Option (List NamedTag)) → f y ≡ o → AllByRecursion (AreGood k) (all_of f ys) → AllByRecursion (AreGood k) (kept_section o ++ all_of f ys)
  by None e more = more
  by (Some ms) e more = (good y ms e, more)

-- a List of Compounds in a root
list_rows : (n : List ℕ) (root : List NamedTag) → AreGood 511 root → AllByRecursion (AreGood 509) (or_else [] (tag_of n root >>= compounds_of))
list_rows n root h = by (tag_of n root) refl where
  by : (o : Option Nbt) → tag_of n root ≡ o → AllByRecursion (AreGood 509) (or_else [] (o >>= compounds_of))
  by None e = tt
  by (Some t) e = rows (compounds_of t) refl where
    rows : (os : Option (List (List NamedTag))) → compounds_of t ≡ os → AllByRecursion (AreGood 509) (or_else [] os)
    rows None f = tt
    rows (Some all) f = compounds_parts 509 t all (found_good 511 n t root h.each_good e) f

list_count : (n : List ℕ) (d : Document) (bytes : List ℕ) → SpellsDocument d bytes → length (or_else [] (tag_of n (root_tags d) >>= compounds_of)) ≤ length bytes
list_count n d bytes spelled = by (tag_of n (root_tags d)) refl where
  by : (o : Option Nbt) → tag_of n (root_tags d) ≡ o → length (or_else [] (o >>= compounds_of)) ≤ length bytes
  by None e = omega arith
  by (Some t) e = rows (compounds_of t) refl where
    rows : (os : Option (List (List NamedTag))) → compounds_of t ≡ os → length (or_else [] os) ≤ length bytes
    rows None f = omega arith
    rows (Some all) f =
        let found = tag_bytes n d.members spelled.body t spelled.tags.1 e in
        omega (arith, few_compounds t found.bytes all found.spelled f, found.few, ap length spelled.parts, length-append spelled.name spelled.body)

module _ (c : ChunkPos) (h : Height) (d : Document) (bytes : List ℕ) (cells now : Pos → BlockState) (water then : List Entry) (sources : Pos → Bool) (rest : RestOfChunk) (light : ℤ → List ℕ) (n : ℕ)
    (spelled : SpellsDocument d bytes) (small : length bytes ≤ 1044475) (denotes : DenotesChunk c h d cells water rest) (lawful : IsLawful c h now then)
    (ints : AllByRecursion (HasInts n) then) (lit : (y : ℤ) → is_section_of h y ≡ true → length (light y) ≡ 2048) where
  old_good : AreGood 511 (root_tags d)
  old_good = compound_parts 511 (compound d.members) (root_tags d) (record { bytes = spelled.body; spelled = spelled.tags; shallow = spelled.shallow }) refl

  old_sections : AllByRecursion (AreGood 509) (sections (root_tags d))
  old_sections = list_rows (codes "sections") (root_tags d) old_good

  tags_at_good : (y : ℤ) → is_section_of h y ≡ true → AreGood 509 (tags_at y (root_tags d))
  tags_at_good y inside = by (numbered y (sections (root_tags d))) refl where
    by : (o : Option (List NamedTag)) → numbered y (sections (root_tags d)) ≡ o → AreGood 509 (or_else (record { name = codes "Y"; tag = byte y } ∷ []) o)
    by None e = number_tag_good 509 y (height_fits h y inside)
    by (Some ms) e = numbered_good 509 y (sections (root_tags d)) ms old_sections e

  row_inside : (y : ℤ) → is_section_of h y ≡ true → AreGood 509 (section_layout (rest.section y) (λ i. now (block_at c y i)) (light y))
  row_inside y inside =
      subst (λ r. AreGood 509 (section_layout r (λ i. now (block_at c y i)) (light y))) (sym (denotes.section_is y inside))
      (row_good 505 (tags_at y (root_tags d)) (λ i. now (block_at c y i)) (light y) (tags_at_good y inside)
      (λ i lt. lawful.meant_states (block_at c y i) (lies_in-block_at c h y i inside lt))
      (lit y inside))

  row : (y : ℤ) (ms : List NamedTag) → section_at c h now rest light y ≡ Some ms → AreGood 509 ms
  row y ms e = by (is_section_of h y) refl e where
    by : (b : Bool) → is_section_of h y ≡ b → cond b (Some (section_layout (rest.section y) (λ i. now (block_at c y i)) (light y))) (rest.outside y) ≡ Some ms → AreGood 509 ms
    by true inside k = subst (AreGood 509) (same_Some (section_layout (rest.section y) (λ i. now (block_at c y i)) (light y)) ms k) (row_inside y inside)
    by false out k = numbered_good 509 y (sections (root_tags d)) ms old_sections (sym (denotes.outside_is y ∙ ap (λ b. cond b None (numbered y (sections (root_tags d)))) out) ∙ k)

  new_sections : IsGood 511 (compounds (all_of (section_at c h now rest light) section_numbers))
  new_sections =
      let few : length (all_of (section_at c h now rest light) section_numbers) ≤ 256 = few_rows (section_at c h now rest light) section_numbers in
      compounds_good 509 (all_of (section_at c h now rest light) section_numbers) (omega arith) (rows_good 509 (section_at c h now rest light) row section_numbers)

  new_ticks : IsGood 511 (ticks_layout sources rest.foreign then n)
  new_ticks =
      let kept : AllByRecursion (AreGood 509) rest.foreign = subst (AllByRecursion (AreGood 509)) (sym denotes.foreign_are) (foreign_good 509 (ticks (root_tags d)) (list_rows (codes "fluid_ticks") (root_tags d) old_good)) in
      let all : AllByRecursion (AreGood 509) (rest.foreign ++ map (entry_tags sources n) then) = append_good 509 rest.foreign (map (entry_tags sources n) then) kept (entries_good 509 sources n then ints) in
      let foreign_count : length rest.foreign ≤ length (ticks (root_tags d)) = subst (λ l. length l ≤ length (ticks (root_tags d))) (sym denotes.foreign_are) (few_foreign (ticks (root_tags d))) in
      let tick_count : length (ticks (root_tags d)) ≤ length bytes = list_count (codes "fluid_ticks") d bytes spelled in
      let entry_count : length then ≤ 524288 = few_entries c h then lawful.within lawful.apart in
      let whole : length (rest.foreign ++ map (entry_tags sources n) then) ≡ length rest.foreign + length then = length-append rest.foreign (map (entry_tags sources n) then) ∙ ap (λ k. length rest.foreign + k) (length-map then (entry_tags sources n)) in
      compounds_good 509 (rest.foreign ++ map (entry_tags sources n) then) (omega arith) all

  new_root : AreGood 511 (with_tag (codes "fluid_ticks") (ticks_layout sources rest.foreign then n) (with_tag (codes "sections") (compounds (all_of (section_at c h now rest light) section_numbers)) rest.tags))
  new_root =
      let empty : AreGood 511 rest.tags = subst (AreGood 511) (sym denotes.tags_are)
      (place_good 511 (codes "fluid_ticks") blank (emptied (codes "sections") (root_tags d)) (lit< tt) (blank_good 511) (place_good 511 (codes "sections") blank (root_tags d) (lit< tt) (blank_good 511) old_good)) in
      place_good 511 (codes "fluid_ticks") (ticks_layout sources rest.foreign then n) (with_tag (codes "sections") (compounds (all_of (section_at c h now rest light) section_numbers)) rest.tags) (lit< tt) new_ticks
      (place_good 511 (codes "sections") (compounds (all_of (section_at c h now rest light) section_numbers)) rest.tags (lit< tt) new_sections empty)

  pub well_formed : IsWellFormed (chunk_layout c h now then sources rest light n)
  well_formed =
      let good = compound_good 511 (with_tag (codes "fluid_ticks") (ticks_layout sources rest.foreign then n) (with_tag (codes "sections") (compounds (all_of (section_at c h now rest light) section_numbers)) rest.tags)) new_root in
      let name : List ℕ = to_be_bytes w16 (length rest.name) ++ rest.name in
      record {
        bytes = type_number tag_type.Compound ∷ (name ++ good.bytes);
        spelled = record {
          name = name;
          body = good.bytes;
          parts = refl;
          named = record { short = subst (λ s. length s < 2 ^ 16) (sym denotes.name_is) spelled.named.short; is = refl };
          tags = good.spelled;
          shallow = good.shallow;
        };
      }

pub written_is_well_formed : WrittenIsWellFormed
written_is_well_formed c h d bytes cells now water then sources rest light n spelled small denotes lawful ints lit =
    well_formed c h d bytes cells now water then sources rest light n spelled small denotes lawful ints lit
