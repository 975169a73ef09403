-- What was read by a table that gained no state of it, is read so by a longer one.
use Rattle.std.proofs.Common.{◌≡◌, ◌∙◌, ℕ, ◌≤◌, nat_lt, List, [], ◌∷◌, ◌++◌, length, true, false, ◌&&◌, cond, Option, Some, None, IsSome, refl, ap, sym, subst}
use Rattle.std.specs.Prelude.{slice_get, IfSome}
use Rattle.std.specs.List.{AllByRecursion}
use Rattle.std.proofs.lemmas.Bool.{true≢false, le-ltb, and_right}
use Rattle.av_types.specs.Faults.{least}
use Rattle.av_types.specs.declared.position.Pos.{Pos}
use Rattle.av_types.specs.declared.position.ChunkPos.{ChunkPos}
use Rattle.av_types.specs.declared.position.Height.{Height}
use Rattle.av_tags.specs.Nbt.{Document, NamedTag}
use Rattle.av_types.specs.Options.{◌>>=◌}
use Rattle.av_tags.specs.Shape.{or_else}
use Rattle.av_state.specs.BlockState.{BlockState, air}
use Rattle.av_state.specs.StateList.{with_states, most_states}
use Rattle.av_state.proofs.Numbering.{number_in-any, number_in-append, slice_get-append}
use Rattle.av_section.specs.BlockStates.{when}
use Rattle.av_section.specs.Reading.{OnlyGrows}
use Rattle.av_document.specs.Ticks.{lies_in}
use Rattle.av_document.specs.Chunk.{faults, first_fault, has_too_many, is_full, all_states, root_tags, DenotesChunk}
use Rattle.av_document.proofs.Faults.{least_none, no_parts}
use Rattle.av_document.proofs.WrittenPalette.{HasNumber, with_states-has}
use Rattle.av_chunk.specs.Reading.{IsReading}
use Rattle.av_chunk.specs.Views.{number_in, state_in, cells_of, rest_of}
use Rattle.av_chunk.specs.declared.chunk.Chunk.{Chunk}
use Rattle.av_chunk.specs.declared.chunk.Reading.{Reading}
use Rattle.av_chunk.specs.declared.chunk.Reading.TheVariants.{Full, Kept}
use Rattle.av_image.specs.Ahead.{IsMadeAt}

-- ---- states that a table has

has_longer : (t more : List BlockState) (ss : List BlockState) → AllByRecursion (HasNumber t) ss → AllByRecursion (HasNumber (t ++ more)) ss
has_longer t more [] h = tt
has_longer t more (s ∷ ss) h = (record { number = h.0.number; is = number_in-append t more s h.0.number h.0.is }, has_longer t more ss h.1)

has_all : (t ss : List BlockState) → AllByRecursion (HasNumber t) ss → t ≡ with_states t ss
has_all t [] h = refl
has_all t (s ∷ ss) h = has_all t ss h.1 ∙ ap (λ b. with_states (cond b t (t ++ s ∷ [])) ss) (sym (number_in-any t s h.0.number h.0.is))

-- a longer table gains none of the states that a table had
gains_none : (old new ss : List BlockState) → OnlyGrows old new → old ≡ with_states old ss → new ≡ with_states new ss
gains_none old new ss more same =
    has_all new ss (subst (λ t. AllByRecursion (HasNumber t) ss) (sym more.grown)
    (has_longer old more.more ss (subst (λ t. AllByRecursion (HasNumber t) ss) (sym same) (with_states-has old ss))))

-- ---- the first fault

few_enough : (t ss : List BlockState) → t ≡ with_states t ss → length t ≤ most_states → nat_lt most_states (length (with_states t ss)) ≡ false
few_enough t ss same few = ap (λ l. nat_lt most_states (length l)) (sym same) ∙ le-ltb most_states (length t) few

fault_same : (h : Height) (c : ChunkPos) (old new : List BlockState) (root : List NamedTag) → first_fault h c old root ≡ None → has_too_many h new root ≡ false → first_fault h c new root ≡ None
fault_same h c old new root none few =
    let parts = no_parts (faults h c root) (when (has_too_many h old root) 18) (least_none (faults h c root ++ when (has_too_many h old root) 18) none) in
    ap (λ fs. least (fs ++ when (has_too_many h new root) 18)) parts.0 ∙ ap (λ b. least (when b 18)) few

-- ---- a block's state

state_longer : (t more : List BlockState) (o : Option ℕ) → IsSome (o >>= λ n. slice_get t n) → (o >>= λ n. slice_get (t ++ more) n) ≡ (o >>= λ n. slice_get t n)
state_longer t more None there = absurd (true≢false (sym there))
state_longer t more (Some n) there = by (slice_get t n) refl there where
  by : (s : Option BlockState) → slice_get t n ≡ s → IsSome s → slice_get (t ++ more) n ≡ slice_get t n
  by None e k = absurd (true≢false (sym k))
  by (Some x) e k = slice_get-append t more n x e ∙ sym e

state_same : (h : Height) (chunk : Chunk) (p : Pos) (old new : List BlockState) → OnlyGrows old new → IsSome (state_in old h chunk p) → state_in new h chunk p ≡ state_in old h chunk p
state_same h chunk p old new more there =
    ap (λ t. state_in t h chunk p) more.grown ∙ state_longer old more.more (number_in h chunk p) there

-- ---- what was read

module _ (c : ChunkPos) (h : Height) (d : Document) (old new : List BlockState) (more : OnlyGrows old new) (few : length new ≤ most_states) where
  denotes_same : (chunk : Chunk) (water rest : _) → ((p : Pos) → lies_in c h p ≡ true → IsSome (state_in old h chunk p)) → DenotesChunk c h d (cells_of old h chunk) water rest → DenotesChunk c h d (cells_of new h chunk) water rest
  denotes_same chunk water rest there is = record {
    no_fault = is.no_fault;
    full = is.full;
    cells_are = λ p inside. ap (or_else air) (state_same h chunk p old new more (there p inside)) ∙ is.cells_are p inside;
    water_is = is.water_is;
    name_is = is.name_is;
    tags_are = is.tags_are;
    foreign_are = is.foreign_are;
    outside_is = is.outside_is;
    section_is = is.section_is;
  }

  reading_grown : (r : Reading) → IsReading c h d old old r → IsReading c h d new new r
  reading_grown (Full chunk rest) l =
      let same = gains_none old new (all_states h (root_tags d)) more l.states in
      record {
        no_fault = fault_same h c old new (root_tags d) l.no_fault (and_right (is_full (root_tags d)) (nat_lt most_states (length (with_states new (all_states h (root_tags d))))) (few_enough new (all_states h (root_tags d)) same few));
        denotes = denotes_same chunk _ (rest_of rest) l.numbered l.denotes;
        numbered = λ p inside. subst IsSome (sym (state_same h chunk p old new more (l.numbered p inside))) (l.numbered p inside);
        whole = l.whole;
        within = l.within;
        ints = l.ints;
        pending = l.pending;
        pos_is = l.pos_is;
        height_is = l.height_is;
        states = same;
      }
  reading_grown Kept k = record {
    no_fault = fault_same h c old new (root_tags d) k.no_fault (ap (λ b. b && nat_lt most_states (length (with_states new (all_states h (root_tags d))))) k.not_full);
    not_full = k.not_full;
    states = refl;
  }

-- ---- what a payload was read as

pub ahead_grown : (h : Height) (old new : List BlockState) (file : List ℕ) (c : ChunkPos) (i : ℕ) (o : Option Reading) → OnlyGrows old new → length new ≤ most_states → IfSome o (IsMadeAt h old file c i) → IfSome o (IsMadeAt h new file c i)
ahead_grown h old new file c i None more few is = tt
ahead_grown h old new file c i (Some r) more few is = record {
  payload = is.payload;
  holds = is.holds;
  made = record { document = is.made.document; spelled = is.made.spelled; reading = reading_grown c h is.made.document old new more few r is.made.reading };
}
