-- What is known of a chunk that is to be written: after it was read, and of its cells and entries in general.
use Rattle.std.proofs.Common.{◌≡◌, ℕ, zero, suc, ◌*◌, ◌+◌, ◌-◌, ◌<◌, ℤ, pos, ◌-ℤ◌, true, Option, Some, None, List, [], ◌∷◌, ◌++◌, drop, length, slice_get, IsSome, refl, sym, ap, subst, ◌∙◌, arith}
use Rattle.std.specs.Prelude.{All, slice_range, option_map}
use Rattle.std.specs.Int.{w32}
use Rattle.std.specs.Int.RustNames.{FitsSigned}
use Rattle.std.proofs.lemmas.Option.{slice_get-map, same_Some}
use Rattle.std.proofs.lemmas.List.{length-drop, length-take-le}
use Rattle.std.proofs.lemmas.List.Elements.{All-weaker, recursion_from_All}
use Rattle.av_types.specs.Positions.{is_section_of, section_index}
use Rattle.av_types.specs.declared.position.ChunkPos.{ChunkPos}
use Rattle.av_types.specs.declared.position.Height.{Height}
use Rattle.av_tags.specs.Nbt.{Document}
use Rattle.av_types.specs.Options.{◌>>=◌}
use Rattle.av_tags.specs.Shape.{or_else}
use Rattle.av_nbt.specs.Writing.{IsWellFormed}
use Rattle.av_state.specs.BlockState.{BlockState, air, meant}
use Rattle.av_state.specs.Table.{states}
use Rattle.av_state.specs.declared.table.StateTable.{StateTable}
use Rattle.av_state.proofs.Storable.{table-storable}
use Rattle.av_rules.specs.Kinds.{table_in}
use Rattle.av_rules.specs.declared.kinds.Kinds.{Kinds}
use Rattle.av_section.specs.Reading.{OnlyGrows}
use Rattle.av_ticks.specs.Ticks.{entries}
use Rattle.av_document.specs.Ticks.{lies_in}
use Rattle.av_document.specs.Law.{IsMeant, IsLawful, HasInts}
use Rattle.av_document.proofs.Stored.{was_read-well_formed, was_read-denotes}
use Rattle.av_chunk.specs.Views.{number_in, cells_of, rest_of}
use Rattle.av_chunk.specs.Light.{section_count}
use Rattle.av_chunk.specs.Reading.{IsLoaded, HasAllSections}
use Rattle.av_codec.specs.Writing.{CanWrite, DenotesSooner, states_of_kinds, sources_of, light_of, written}
use Rattle.av_chunk.specs.declared.chunk.Chunk.{Chunk}
use Rattle.av_chunk.specs.declared.rest.ChunkRest.{ChunkRest}
use Rattle.av_chunk.specs.declared.light.ChunkLight.{ChunkLight}
use Rattle.av_chunk.proofs.Heights.{offset_below}

-- ---- after reading

get_longer : (xs ys : List BlockState) (n : ℕ) → IsSome (slice_get xs n) → IsSome (slice_get (xs ++ ys) n)
get_longer [] ys n h = absurd cc
get_longer (x ∷ xs) ys zero h = h
get_longer (x ∷ xs) ys (suc n) h = get_longer xs ys n h

found_longer : (o : Option ℕ) (old more : List BlockState) → IsSome (o >>= λ n. slice_get old n) → IsSome (o >>= λ n. slice_get (old ++ more) n)
found_longer None old more h = h
found_longer (Some n) old more h = get_longer old more n h

-- A chunk that was read can be written before a tick is run, also when the table has grown by the chunks that were read after it.
pub loaded-can_write : (c : ChunkPos) (h : Height) (d : Document) (old new : List BlockState) (chunk : Chunk) (rest : ChunkRest) (kinds : Kinds) (light : ChunkLight)
    → IsLoaded c h d old new chunk rest → OnlyGrows new (states_of_kinds kinds) → section_count light ≡ h.sections → CanWrite chunk rest kinds light 0
loaded-can_write c h d old new chunk rest kinds light l grows lit = record {
  whole = subst (λ k. HasAllSections k chunk) (sym l.height_is) l.whole;
  numbered = λ p inside.
      let here : lies_in c h p ≡ true = rw (← l.pos_is, ← l.height_is) inside in
      rw (l.height_is, grows.grown) (found_longer (number_in h chunk p) new grows.more (l.numbered p here));
  within = rw (l.pos_is, l.height_is) l.within;
  due = All-weaker (HasInts 0) (λ e. FitsSigned w32 (e.due -ℤ pos 0)) (λ e ints. ints.int_due) (entries chunk.ticks) l.ints;
  lit = lit ∙ ap (λ k. k.sections) (sym l.height_is);
}

-- ---- while writing

meant_step : (o : Option BlockState) (b : BlockState) → option_map meant o ≡ option_map Some o → o ≡ Some b → meant b ≡ Some b
meant_step None b all is = absurd cc
meant_step (Some s) b all is = let e : s ≡ b = same_Some s b is in subst (λ t. meant t ≡ Some t) e (same_Some (meant s) (Some s) all)

table-meant : (t : StateTable) (n : ℕ) (b : BlockState) → slice_get (states t) n ≡ Some b → meant b ≡ Some b
table-meant t n b is =
    meant_step (slice_get (states t) n) b
    (sym (slice_get-map meant (states t) n) ∙ ap (λ xs. slice_get xs n) t.numbered.each_meant ∙ slice_get-map Some (states t) n) is

table-is_meant : (t : StateTable) (n : ℕ) (b : BlockState) → slice_get (states t) n ≡ Some b → IsMeant b
table-is_meant t n b is = record { same = table-meant t n b is; storable = table-storable t n b is }

found_meant : (t : StateTable) (o : Option BlockState) (n : ℕ) → slice_get (states t) n ≡ o → IsSome o → IsMeant (or_else air o)
found_meant t None n is h = absurd cc
found_meant t (Some b) n is h = table-is_meant t n b is

numbered_meant : (t : StateTable) (o : Option ℕ) → IsSome (o >>= λ n. slice_get (states t) n) → IsMeant (or_else air (o >>= λ n. slice_get (states t) n))
numbered_meant t None h = absurd cc
numbered_meant t (Some n) h = found_meant t (slice_get (states t) n) n refl h

lawful : (chunk : Chunk) (rest : ChunkRest) (kinds : Kinds) (light : ChunkLight) (elapsed : ℕ) → CanWrite chunk rest kinds light elapsed
    → IsLawful rest.pos rest.height (cells_of (states_of_kinds kinds) rest.height chunk) (entries chunk.ticks)
lawful chunk rest kinds light elapsed can = record {
  meant_states = λ p inside. numbered_meant (table_in kinds) (number_in rest.height chunk p) (can.numbered p inside);
  within = recursion_from_All (λ e. lies_in rest.pos rest.height e.pos ≡ true) (entries chunk.ticks) can.within;
  apart = chunk.ticks.apart;
}

-- 2,048 bytes of those of all sections
light-length : (bytes : List ℕ) (count i : ℕ) → length bytes ≡ 2048 * count → i < count → length (slice_range bytes (2048 * i) (2048 * i + 2048)) ≡ 2048
light-length bytes count i e low =
    let left = length-drop (2048 * i) bytes in
    let size : 2048 * i + 2048 - 2048 * i ≡ 2048 = omega arith in
    length-take-le (2048 * i + 2048 - 2048 * i) (drop (2048 * i) bytes) (omega (arith, left, e, low)) ∙ size

section-lit : (chunk : Chunk) (rest : ChunkRest) (kinds : Kinds) (light : ChunkLight) (elapsed : ℕ) → CanWrite chunk rest kinds light elapsed
    → (y : ℤ) → is_section_of rest.height y ≡ true → length (light_of light rest.height y) ≡ 2048
section-lit chunk rest kinds light elapsed can y inside =
    let count : light.sections ≡ rest.height.sections = can.lit in
    light-length light.bytes.items light.sections (section_index rest.height y) light.whole (omega (arith, count, offset_below rest.height y inside))

pub written-well_formed : (chunk : Chunk) (rest : ChunkRest) (kinds : Kinds) (light : ChunkLight) (elapsed : ℕ) → CanWrite chunk rest kinds light elapsed
    → All (HasInts elapsed) (entries chunk.ticks) → IsWellFormed (written chunk rest kinds light elapsed)
written-well_formed chunk rest kinds light elapsed can ints =
    was_read-well_formed rest.pos rest.height (cells_of (states_of_kinds kinds) rest.height chunk) (entries chunk.ticks) (sources_of kinds rest.height chunk) (rest_of rest) (light_of light rest.height) elapsed
    rest.was_read (lawful chunk rest kinds light elapsed can) (recursion_from_All (HasInts elapsed) (entries chunk.ticks) ints) (section-lit chunk rest kinds light elapsed can)

pub written-denotes : (chunk : Chunk) (rest : ChunkRest) (kinds : Kinds) (light : ChunkLight) (elapsed : ℕ) → CanWrite chunk rest kinds light elapsed
    → DenotesSooner chunk rest kinds elapsed (written chunk rest kinds light elapsed)
written-denotes chunk rest kinds light elapsed can =
    was_read-denotes rest.pos rest.height (cells_of (states_of_kinds kinds) rest.height chunk) (entries chunk.ticks) (sources_of kinds rest.height chunk) (rest_of rest) (light_of light rest.height) elapsed
    rest.was_read (lawful chunk rest kinds light elapsed can)
