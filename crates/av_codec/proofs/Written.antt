-- The states of a section, as the layout of a chunk has them and as the section has them.
use Rattle.std.proofs.Common.{◌≡◌, ℕ, zero, suc, ◌+◌, ◌<◌, ℤ, List, [], ◌∷◌, ◌++◌, map, length, get_or, take, add-one, append_assoc, Option, Some, None, true, true≢false, refl, sym, ap, ◌∙◌, subst, arith, false, if◌then◌else◌}
use Rattle.std.specs.Prelude.{slice_get, slice_index_or, IsSome, IfSome}
use Rattle.std.specs.List.{All}
use Rattle.std.proofs.lemmas.List.{map-append, append-nil}
use Rattle.std.proofs.lemmas.List.Concat.{flat_map-append}
use Rattle.std.proofs.Math.Seq.{take-suc}
use Rattle.std.proofs.lemmas.List.FromFn.{map-range_with_len_more}
use Rattle.std.proofs.lemmas.Simd.{map-map}
use Rattle.av_document.proofs.Inside.{map_range_agree}
use Rattle.av_types.specs.Division.{divided}
use Rattle.av_types.specs.Positions.{is_section_of, place_of}
use Rattle.av_types.specs.declared.position.Pos.{Pos}
use Rattle.av_types.specs.declared.position.ChunkPos.{ChunkPos}
use Rattle.av_types.specs.declared.position.Height.{Height}
use Rattle.av_types.specs.declared.tick.Entry.{Entry}
use Rattle.av_tags.specs.declared.tag.TagType.TheVariants as tag_type
use Rattle.av_tags.specs.Nbt.{Nbt, NamedTag, list, items_of}
use Rattle.av_tags.specs.View.{view, views}
use Rattle.av_tags.specs.declared.tag.Tag.{Tag}
use Rattle.av_ticks.specs.Ticks.{entries}
use Rattle.av_rules.specs.Kinds.{kind_count}
use Rattle.av_types.specs.Options.{◌>>=◌}
use Rattle.av_tags.specs.Shape.{or_else}
use Rattle.av_state.specs.BlockState.{BlockState, air}
use Rattle.av_section.specs.Section.{number_at, HasNumbersBelow, section_states}
use Rattle.av_section.specs.declared.section.Section.{Section}
use Rattle.av_document.specs.Ticks.{lies_in}
use Rattle.av_document.specs.Chunk.{SectionRest}
use Rattle.av_rules.specs.declared.kinds.Kinds.{Kinds}
use Rattle.av_document.specs.Layout.{block_at, states_of, section_layout, section_numbers, compound_with, kept_section, all_of, compounds, entry_layout, section_at, ticks_layout}
use Rattle.av_document.proofs.Positions.{lies_in-block_at, within_from, section-of_block, place-of_block}
use Rattle.av_chunk.specs.Rest.{opened, found_outside}
use Rattle.av_chunk.specs.Views.{section_in, number_in, state_in, cells_of, rest_of}
use Rattle.av_codec.specs.Writing.{CanWrite, states_of_kinds, sources_of, light_of}
use Rattle.av_codec.specs.WritingSteps.{CanWriteSections, CanWriteEntry, first_numbers, first_sections, written_entry, section_with, inside_layout, written_section}
use Rattle.av_codec.specs.WritingSteps as steps
use Rattle.av_chunk.specs.declared.chunk.Chunk.{Chunk}
use Rattle.av_chunk.specs.declared.rest.ChunkRest.{ChunkRest}
use Rattle.av_chunk.specs.declared.light.ChunkLight.{ChunkLight}

-- a block's state, by its section and its place there
state-of_block : (table : List BlockState) (c : ChunkPos) (h : Height) (chunk : Chunk) (y : ℤ) (i : ℕ) (s : Section) → i < 4096 → section_in h chunk y ≡ Some s
    → state_in table h chunk (block_at c y i) ≡ slice_get table (number_at s i)
state-of_block table c h chunk y i s low e =
    ap (λ v. (section_in h chunk v >>= λ (t : Section). Some (number_at t (place_of (block_at c y i)))) >>= λ n. slice_get table n) (section-of_block c y i low)
    ∙ ap (λ (o : Option Section). (o >>= λ (t : Section). Some (number_at t (place_of (block_at c y i)))) >>= λ n. slice_get table n) e
    ∙ ap (λ p. slice_get table (number_at s p)) (place-of_block c y i low)

or_air : (table : List BlockState) (n : ℕ) → or_else air (slice_get table n) ≡ slice_index_or table n air
or_air [] n = refl
or_air (s ∷ table) zero = refl
or_air (s ∷ table) (suc n) = or_air table n

below : (table : List BlockState) (n : ℕ) → IsSome (slice_get table n) → n < length table
below [] n h = absurd (true≢false (sym h))
below (s ∷ table) zero h = omega arith
below (s ∷ table) (suc n) h = let p = below table n h in omega arith

-- the states of a section in the height are those that the section has ..
pub states-of_section : (table : List BlockState) (c : ChunkPos) (h : Height) (chunk : Chunk) (y : ℤ) (s : Section) → section_in h chunk y ≡ Some s
    → section_states table s ≡ states_of (λ i. cells_of table h chunk (block_at c y i))
unfolding section_states
states-of_section table c h chunk y s e =
    map_range_agree (λ i. slice_index_or table (number_at s i) air) (λ i. cells_of table h chunk (block_at c y i)) 0 4096
    (λ i low. sym (ap (or_else air) (state-of_block table c h chunk y i s (omega arith) e) ∙ or_air table (number_at s i)))

-- .. and each of them is in the table.
pub numbers-of_section : (table : List BlockState) (c : ChunkPos) (h : Height) (chunk : Chunk) (y : ℤ) (s : Section) → is_section_of h y ≡ true → section_in h chunk y ≡ Some s
    → ((p : Pos) → lies_in c h p ≡ true → IsSome (state_in table h chunk p)) → HasNumbersBelow s (length table)
numbers-of_section table c h chunk y s inside e all i low =
    below table (number_at s i) (subst (λ (o : Option BlockState). IsSome o) (state-of_block table c h chunk y i s low e) (all (block_at c y i) (lies_in-block_at c h y i inside low)))

-- ---- the numbers of all sections

pub first_numbers-more : (n : ℕ) → first_numbers (n + 1) ≡ first_numbers n ++ steps.number_at n ∷ []
unfolding first_numbers
first_numbers-more n = map-range_with_len_more steps.number_at 0 n n (omega arith)

pub first_numbers-none : first_numbers 0 ≡ []
unfolding first_numbers
first_numbers-none = refl

pub first_numbers-all : first_numbers 256 ≡ section_numbers
unfolding first_numbers
first_numbers-all = refl

-- one number more
pub more_sections : (f : ℤ → Option (List NamedTag)) (n : ℕ) → map compound_with (all_of f (first_numbers (n + 1))) ≡ map compound_with (all_of f (first_numbers n)) ++ map compound_with (kept_section (f (steps.number_at n)))
more_sections f n = rw (first_numbers-more, flat_map-append, map-append) (simp append-nil)

-- ---- the section of a number

pub inside_layout-is : (chunk : Chunk) (rest : ChunkRest) (kinds : Kinds) (light : ChunkLight) (y : ℤ) (s : Section) (kept : SectionRest) (bytes : List ℕ) → section_in rest.height chunk y ≡ Some s
    → kept ≡ (rest_of rest).section y → bytes ≡ light_of light rest.height y → section_with kept (section_states (states_of_kinds kinds) s) bytes ≡ inside_layout chunk rest kinds light y
unfolding inside_layout
inside_layout-is chunk rest kinds light y s kept bytes there same_kept same_light =
    ap (λ k. section_with k (section_states (states_of_kinds kinds) s) bytes) same_kept
    ∙ ap (λ b. section_with ((rest_of rest).section y) (section_states (states_of_kinds kinds) s) b) same_light
    ∙ ap (λ states. section_with ((rest_of rest).section y) states (light_of light rest.height y)) (states-of_section (states_of_kinds kinds) rest.pos rest.height chunk y s there)

pub written_section-inside : (chunk : Chunk) (rest : ChunkRest) (kinds : Kinds) (light : ChunkLight) (y : ℤ) → is_section_of rest.height y ≡ true → written_section chunk rest kinds light y ≡ Some (inside_layout chunk rest kinds light y)
unfolding inside_layout written_section
written_section-inside chunk rest kinds light y e =
    ap (λ b. if b then Some (section_layout ((rest_of rest).section y) (λ i. cells_of (states_of_kinds kinds) rest.height chunk (block_at rest.pos y i)) (light_of light rest.height y)) else (rest_of rest).outside y) e

pub written_section-outside : (chunk : Chunk) (rest : ChunkRest) (kinds : Kinds) (light : ChunkLight) (y : ℤ) → is_section_of rest.height y ≡ false → written_section chunk rest kinds light y ≡ found_outside y rest.outside.items
unfolding written_section
written_section-outside chunk rest kinds light y e =
    ap (λ b. if b then Some (section_layout ((rest_of rest).section y) (λ i. cells_of (states_of_kinds kinds) rest.height chunk (block_at rest.pos y i)) (light_of light rest.height y)) else (rest_of rest).outside y) e
    ∙ ap (λ b. if b then None else found_outside y rest.outside.items) e

-- ---- entries

pub number_in-there : (h : Height) (chunk : Chunk) (p : Pos) (s : Section) → section_in h chunk (divided p.y 16) ≡ Some s → number_in h chunk p ≡ Some (number_at s (place_of p))
number_in-there h chunk p s e = ap (λ (o : Option Section). o >>= λ (t : Section). Some (number_at t (place_of p))) e

number_below : (o : Option ℕ) (table : List BlockState) (count : ℕ) → length table ≡ count → IsSome (o >>= λ n. slice_get table n) → IfSome o (λ n. n < count)
number_below None table count same h = tt
number_below (Some n) table count same h = let low = below table n h in omega arith

pub can_write-sections : (chunk : Chunk) (rest : ChunkRest) (kinds : Kinds) (light : ChunkLight) (elapsed : ℕ) → CanWrite chunk rest kinds light elapsed → CanWriteSections chunk rest kinds light
can_write-sections chunk rest kinds light elapsed can = record { whole = can.whole; numbered = can.numbered; lit = can.lit }

pub can_write-entries : (chunk : Chunk) (rest : ChunkRest) (kinds : Kinds) (light : ChunkLight) (elapsed : ℕ) → CanWrite chunk rest kinds light elapsed → All (CanWriteEntry chunk rest kinds elapsed) (entries chunk.ticks)
can_write-entries chunk rest kinds light elapsed can k d low =
    let e = slice_index_or (entries chunk.ticks) k d in
    let lies = can.within k d low in
    record {
      inside = (within_from rest.pos rest.height (slice_index_or (entries chunk.ticks) k d).pos lies).height;
      below = number_below (number_in rest.height chunk (slice_index_or (entries chunk.ticks) k d).pos) (states_of_kinds kinds) (kind_count kinds) (sym kinds.listed.a_row_each) (can.numbered (slice_index_or (entries chunk.ticks) k d).pos lies);
      due = can.due k d low;
    }

-- one entry more was written
pub one_more-written : (f : Entry → Nbt) (before : List Nbt) (es : List Entry) (n : ℕ) (d : Entry) (ticks new : List Tag) (tick : Tag) → n < length es
    → views ticks ≡ before ++ map f (take n es) → view tick ≡ f (get_or es n d) → new ≡ ticks ++ tick ∷ [] → views new ≡ before ++ map f (take (n + 1) es)
one_more-written f before es n d ticks new tick low so_far is step =
    let last : map f (take (n + 1) es) ≡ map f (take n es) ++ f (get_or es n d) ∷ [] = ap (map f) (rw add-one (take-suc es n d low)) ∙ map-append f (take n es) (get_or es n d ∷ []) in
    ap views step ∙ map-append view ticks (tick ∷ [])
    ∙ ap (λ v. v ++ view tick ∷ []) so_far ∙ append_assoc before (map f (take n es)) (view tick ∷ [])
    ∙ ap (λ t. before ++ (map f (take n es) ++ t ∷ [])) is ∙ ap (λ v. before ++ v) (sym last)

-- ---- the whole

pub ticks-written : (chunk : Chunk) (rest : ChunkRest) (kinds : Kinds) (elapsed : ℕ) (ticks : List Nbt)
    → ticks ≡ map compound_with (opened (views rest.foreign.items)) ++ map (written_entry chunk rest kinds elapsed) (entries chunk.ticks)
    → list tag_type.Compound (items_of ticks) ≡ ticks_layout (sources_of kinds rest.height chunk) (rest_of rest).foreign (entries chunk.ticks) elapsed
ticks-written chunk rest kinds elapsed ticks e =
    ap (λ ts. list tag_type.Compound (items_of ts)) (e
    ∙ ap (λ ts. map compound_with (opened (views rest.foreign.items)) ++ ts) (sym (map-map compound_with (λ e. entry_layout (sources_of kinds rest.height chunk e.pos) elapsed e) (entries chunk.ticks)))
    ∙ sym (map-append compound_with (opened (views rest.foreign.items)) (map (λ e. entry_layout (sources_of kinds rest.height chunk e.pos) elapsed e) (entries chunk.ticks))))

pub sections-written : (chunk : Chunk) (rest : ChunkRest) (kinds : Kinds) (light : ChunkLight) (sections : List Nbt)
    → sections ≡ first_sections chunk rest kinds light 256
    → list tag_type.Compound (items_of sections)
    ≡ compounds (all_of (section_at rest.pos rest.height (cells_of (states_of_kinds kinds) rest.height chunk) (rest_of rest) (light_of light rest.height)) section_numbers)
unfolding written_section
sections-written chunk rest kinds light sections e =
    ap (λ ts. list tag_type.Compound (items_of ts)) (e ∙ ap (λ ys. map compound_with (all_of (written_section chunk rest kinds light) ys)) first_numbers-all)
