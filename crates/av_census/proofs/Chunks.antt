-- The blocks of a chunk in memory are those of its document.
use Rattle.std.proofs.Common.{◌≡◌, ℕ, zero, suc, ◌+◌, ◌*◌, ◌<◌, ◌≤◌, ℤ, pos, ◌+ℤ◌, List, [], ◌∷◌, length, length-append, Bool, true, false, true≢false, cond, Option, Some, None, refl, sym, ap, ◌∙◌, subst, arith}
use Rattle.std.specs.Prelude.{slice_index_or, IsSome}
use Rattle.std.proofs.lemmas.List.FromFn.{length-map-range_with_len}
use Rattle.std.proofs.lemmas.List.Sums.{count_by-le-length}
use Rattle.std.proofs.Common.{Vec, Global, is_some}
use Rattle.av_document.proofs.Inside.{map_range_agree}
use Rattle.av_types.specs.declared.fault.Fault.{Fault}
use Rattle.av_types.specs.declared.position.ChunkPos.{ChunkPos}
use Rattle.av_types.specs.declared.position.Height.{Height}
use Rattle.av_tags.specs.Nbt.{Document, NamedTag}
use Rattle.av_nbt.specs.Spelling.{SpellsDocument}
use Rattle.av_region.specs.Region.{IsAbsent, Holds, IsChunkFault}
use Rattle.av_state.specs.BlockState.{BlockState}
use Rattle.av_state.specs.StateList.{first_states, same_state}
use Rattle.av_state.specs.Table.{states}
use Rattle.av_state.specs.declared.table.StateTable.{StateTable}
use Rattle.av_section.specs.Section.{HasNumbersBelow}
use Rattle.av_section.specs.declared.section.Section.{Section}
use Rattle.av_document.specs.Chunk.{root_tags, is_full, first_fault, cell_of}
use Rattle.av_document.specs.Layout.{block_at}
use Rattle.av_document.proofs.Positions.{lies_in-block_at, section_inside}
use Rattle.av_chunk.proofs.Heights.{offset_at}
use Rattle.av_codec.proofs.Written.{states-of_section, numbers-of_section}
use Rattle.av_codec.specs.Payload.{IsPayloadFault, no_document, bad_document}
use Rattle.av_chunk.specs.Reading.{IsLoaded, IsKept}
use Rattle.av_chunk.specs.Views.{section_in, cells_of}
use Rattle.av_chunk.specs.declared.chunk.Chunk.{Chunk}
use Rattle.av_chunk.specs.declared.rest.ChunkRest.{ChunkRest}
use Rattle.av_survey.specs.Survey.{sectors, spelling, document}
use Rattle.av_census.specs.Census.{joined, section_blocks, chunk_blocks, times, HasBlocksAt, absent, chunk, fault}
use Rattle.av_census.specs.Counting.{slot_states, slots_states, AreSlotCounts, SlotBelow, SlotsBelow, IsCountOf, AreFew, HasBlocksIn, good, bad, IsCountedIn, IsCountedAt}
use Rattle.av_census.specs.declared.counted.Counted.{Counted}
use Rattle.av_census.specs.declared.counted.Counted.TheVariants.{Nothing, Blocks, LeftOut}
use Rattle.av_census.proofs.Weighing.{joined-same}

-- ---- how many

few_step : (n a b : ℕ) → a ≤ 4096 * n → b ≡ 4096 → a + b ≤ 4096 * suc n
few_step n a b h e = omega (arith, h, e)

joined-length : (f : ℕ → List BlockState) (n : ℕ) → ((k : ℕ) → length (f k) ≡ 4096) → length (joined f n) ≤ 4096 * n
unfolding joined
joined-length f zero each = omega arith
joined-length f (suc n) each =
    subst (λ m. m ≤ 4096 * suc n) (sym (length-append (joined f n) (f n))) (few_step n (length (joined f n)) (length (f n)) (joined-length f n each) (each n))

pub few_blocks : (c : ChunkPos) (h : Height) (root : List NamedTag) → length (chunk_blocks c h root) ≤ 262144
few_blocks c h root = by (is_full root)
  where
    by : (b : Bool) → length (cond b (joined (λ k. section_blocks c root (h.min_section +ℤ pos k)) h.sections) []) ≤ 262144
    by true =
        let most = joined-length (λ k. section_blocks c root (h.min_section +ℤ pos k)) h.sections (λ k. length-map-range_with_len (λ i. cell_of root (block_at c (h.min_section +ℤ pos k) i)) 0 4096) in
        let low : h.sections ≤ 64 = h.bounded in
        omega (arith, most, low)
    by false = omega arith

pub times-le : (s : BlockState) (blocks : List BlockState) (n : ℕ) → length blocks ≤ n → times s blocks ≤ n
times-le s blocks n h =
    let most = count_by-le-length (same_state s) blocks in
    omega (arith, most, h)

-- ---- the sections of a height

slot_within : (slots : List (Option Section)) (k : ℕ) (s : Section) → slice_index_or slots k None ≡ Some s → k < length slots
slot_within [] k s e = absurd (true≢false (ap (λ (o : Option Section). is_some o) (sym e)))
slot_within (x ∷ slots) zero s e = omega arith
slot_within (x ∷ slots) (suc k) s e = let p = slot_within slots k s e in omega (arith, p)

some_there : (o : Option Section) → IsSome o → (s : Section) × (o ≡ Some s)
some_there None h = absurd (true≢false (sym h))
some_there (Some s) h = (s, refl)

below_by : (count : ℕ) (o : Option Section) → ((s : Section) → o ≡ Some s → HasNumbersBelow s count) → SlotBelow count o
below_by count None f = tt
below_by count (Some s) f = f s refl

module _ (c : ChunkPos) (h : Height) (d : Document) (new : List BlockState) (m : Chunk) (rest : ChunkRest) (l : IsLoaded c h d first_states new m rest) where
  abbrev y_of : ℕ → ℤ
  y_of k = h.min_section +ℤ pos k

  -- the k-th section in memory
  stored : (k : ℕ) → section_in h m (y_of k) ≡ slice_index_or m.sections.items k None
  stored k = ap (λ i. slice_index_or m.sections.items i None) (offset_at h (y_of k) k refl)

  pub slots_below : SlotsBelow (length new) m.sections.items
  slots_below k = below_by (length new) (slice_index_or m.sections.items k None) (λ s e.
      let low : k < h.sections = subst (λ n. k < n) l.whole.count (slot_within m.sections.items k s e) in
      numbers-of_section new c h m (y_of k) s (section_inside h k low) (stored k ∙ e) l.numbered)

  own_section : (k : ℕ) → k < h.sections → slot_states new (slice_index_or m.sections.items k None) ≡ section_blocks c (root_tags d) (y_of k)
  own_section k low =
      let inside = section_inside h k low in
      let there = some_there (section_in h m (y_of k)) (l.whole.each_there (y_of k) inside) in
      ap (slot_states new) (sym (stored k) ∙ there.1) ∙ states-of_section new c h m (y_of k) there.0 there.1
      ∙ map_range_agree (λ i. cells_of new h m (block_at c (y_of k) i)) (λ i. cell_of (root_tags d) (block_at c (y_of k) i)) 0 4096 (λ i p. l.denotes.cells_are (block_at c (y_of k) i) (lies_in-block_at c h (y_of k) i inside (omega (arith, p))))

  pub blocks_stored : slots_states new m.sections.items (length m.sections.items) ≡ chunk_blocks c h (root_tags d)
  blocks_stored =
      ap (slots_states new m.sections.items) l.whole.count
      ∙ joined-same (λ k. slot_states new (slice_index_or m.sections.items k None)) (λ k. section_blocks c (root_tags d) (y_of k)) h.sections own_section
      ∙ sym (ap (λ b. cond b (joined (λ k. section_blocks c (root_tags d) (y_of k)) h.sections) []) l.denotes.full)

  pub few_sections : length m.sections.items ≤ 64
  few_sections =
      let low : h.sections ≤ 64 = h.bounded in
      omega (arith, l.whole.count, low)

-- ---- what was counted of a payload

pub kept_in : (h : Height) (payload : List ℕ) (c : ChunkPos) (d : Document) (old new : List BlockState) → SpellsDocument d payload → old ≡ first_states → IsKept c h d old new → IsCountedIn h payload c Nothing
kept_in h payload c d old new spelled first kept = record {
  blocks = [];
  left_out = 0;
  read = good d spelled (subst (λ (xs : List BlockState). first_fault h c xs (root_tags d) ≡ None) first kept.no_fault)
      (sym (ap (λ b. cond b (joined (λ k. section_blocks c (root_tags d) (h.min_section +ℤ pos k)) h.sections) []) kept.not_full)) refl;
  is = (refl, refl);
  few = omega arith;
}

pub loaded_in : (h : Height) (payload : List ℕ) (c : ChunkPos) (d : Document) (table : StateTable) (counts : Vec ℕ Global) (m : Chunk) (rest : ChunkRest) → SpellsDocument d payload
    → IsLoaded c h d first_states (states table) m rest → AreSlotCounts m.sections.items (length (states table)) (length m.sections.items) counts.items → IsCountedIn h payload c (Blocks table counts)
loaded_in h payload c d table counts m rest spelled l are = record {
  blocks = chunk_blocks c h (root_tags d);
  left_out = 0;
  read = good d spelled l.no_fault refl refl;
  is = (refl, are.long, λ s. are.each (states table) s refl ∙ ap (times s) (blocks_stored c h d (states table) m rest l));
  few = few_blocks c h (root_tags d);
}

pub faulty_in : (h : Height) (payload : List ℕ) (c : ChunkPos) (e : Fault) (counted : Counted) → IsPayloadFault c h payload first_states e → counted ≡ LeftOut → IsCountedIn h payload c counted
faulty_in h payload c e counted bad_for is = subst (IsCountedIn h payload c) (sym is) (record {
  blocks = [];
  left_out = 1;
  read = bad e bad_for refl refl;
  is = (refl, refl);
  few = omega arith;
})

-- ---- and of an index

at_index : (h : Height) (file payload : List ℕ) (c : ChunkPos) (index : ℕ) (blocks : List BlockState) (left_out : ℕ) → Holds file index payload → HasBlocksIn h payload c blocks left_out → HasBlocksAt h file c index blocks left_out
at_index h file payload c index blocks left_out holds (good d spelled fine is none) = chunk payload d holds spelled fine is none
at_index h file payload c index blocks left_out holds (bad e (no_document none f) is one) = fault e (spelling payload holds none f) is one
at_index h file payload c index blocks left_out holds (bad e (bad_document d spelled f) is one) = fault e (document payload d holds spelled f) is one

pub counted_there : (h : Height) (file payload : List ℕ) (c : ChunkPos) (index : ℕ) (counted : Counted) → Holds file index payload → IsCountedIn h payload c counted → IsCountedAt h file c index counted
counted_there h file payload c index counted holds i = record {
  blocks = i.blocks;
  left_out = i.left_out;
  read = at_index h file payload c index i.blocks i.left_out holds i.read;
  is = i.is;
  few = i.few;
}

pub absent_there : (h : Height) (file : List ℕ) (c : ChunkPos) (index : ℕ) → IsAbsent file index → IsCountedAt h file c index Nothing
absent_there h file c index none = record { blocks = []; left_out = 0; read = absent none refl refl; is = (refl, refl); few = omega arith }

pub broken_there : (h : Height) (file : List ℕ) (c : ChunkPos) (index : ℕ) (e : Fault) → IsChunkFault file index e → IsCountedAt h file c index LeftOut
broken_there h file c index e bad_for = record { blocks = []; left_out = 1; read = fault e (sectors bad_for) refl refl; is = (refl, refl); few = omega arith }

-- what was counted is little
pub counted_few : (counted : Counted) (blocks : List BlockState) (n : ℕ) → IsCountOf blocks n counted → length blocks ≤ 262144 → AreFew counted
counted_few Nothing blocks n is few = tt
counted_few (Blocks table counts) blocks n is few = (is.1, λ s. subst (λ m. m ≤ 262144) (sym (is.2 s)) (times-le s blocks 262144 few))
counted_few LeftOut blocks n is few = tt
