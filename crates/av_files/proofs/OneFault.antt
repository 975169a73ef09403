-- Of the faults of files only one is the first.
use Rattle.std.proofs.Common.{◌≡◌, ◌∙◌, ℕ, ◌≤◌, min, List, [], ◌∷◌, ◌++◌, length, Bool, true, false, cond, Option, Some, None, refl, sym, subst, arith}
use Rattle.std.specs.List.{AllByRecursion, flat_map, list_any}
use Rattle.std.proofs.lemmas.Option.{none-some, same_Some}
use Rattle.av_types.specs.Faults.{fault_number, least, lesser}
use Rattle.av_types.specs.declared.position.Height.{Height}
use Rattle.av_types.specs.declared.position.ChunkPos.{ChunkPos}
use Rattle.av_types.specs.declared.fault.Fault.{Fault}
use Rattle.av_types.specs.declared.fault.Fault.TheVariants.{OldLayout, BadChunk, WrongPlace, BadPalette, BadPacked, BadTick, BadWaterLevel, TooManyStates}
use Rattle.av_tags.specs.Nbt.{NamedTag}
use Rattle.av_tags.specs.Shape.{lacks, or_else, each}
use Rattle.av_document.specs.Ticks.{is_bad_tick}
use Rattle.av_section.specs.Palette.{palette_of}
use Rattle.av_state.specs.BlockState.{meant}
use Rattle.av_state.specs.BlockState.{BlockState}
use Rattle.av_section.specs.BlockStates.{when, indices_of}
use Rattle.av_document.specs.Chunk.{is_full, faults, section_faults, block_faults, first_fault, is_in_height, section_number, block_states_of, sections, palette_tag_of, data_tag_of, has_level, status_of, is_bad_chunk, is_elsewhere, ticks, has_too_many}

-- ---- a chunk's own faults are 11 to 18

pub record IsChunkNumber (n : ℕ) : Type 0 where
  pub from : 11 ≤ n
  pub to : n ≤ 18

abbrev All : List ℕ → Type 0
All ns = AllByRecursion IsChunkNumber ns

all_when : (b : Bool) (n : ℕ) → IsChunkNumber n → All (when b n)
all_when true n h = (h, tt)
all_when false n h = tt

all_append : (ms ns : List ℕ) → All ms → All ns → All (ms ++ ns)
all_append [] ns a b = b
all_append (m ∷ ms) ns a b = (a.0, all_append ms ns a.1 b)

all_flat : {X : Type 0} (f : X → List ℕ) (xs : List X) → ((x : X) → All (f x)) → All (flat_map f xs)
all_flat f [] h = tt
all_flat f (x ∷ xs) h = all_append (f x) (flat_map f xs) (h x) (all_flat f xs h)

number : (n : ℕ) → 11 ≤ n → n ≤ 18 → IsChunkNumber n
number n a b = record { from = a; to = b }

three : (a b c : Bool) → All (when a 14 ++ when b 15 ++ when c 17)
three a b c = all_append (when a 14 ++ when b 15) (when c 17) (all_append (when a 14) (when b 15) (all_when a 14 (number 14 (omega arith) (omega arith))) (all_when b 15 (number 15 (omega arith) (omega arith)))) (all_when c 17 (number 17 (omega arith) (omega arith)))

block_all : (b : Option (List NamedTag)) → All (block_faults b)
block_all None = tt
block_all (Some states) =
    let entries = or_else [] (palette_of (palette_tag_of states)) in
    three (lacks (palette_of (palette_tag_of states))) (lacks (indices_of (length entries) (data_tag_of states))) (lacks (each meant entries))

all_if : (b : Bool) (ns : List ℕ) → All ns → All (cond b ns [])
all_if true ns a = a
all_if false ns a = tt

section_all : (h : Height) (ms : List NamedTag) → All (section_faults h ms)
section_all h ms = all_if (is_in_height h (section_number ms)) (block_faults (block_states_of ms)) (block_all (block_states_of ms))

between : (n k m : ℕ) → IsChunkNumber n → IsChunkNumber k → min n k ≡ m → IsChunkNumber m
between n k m a b e = let x = a.from in let y = a.to in let z = b.from in let u = b.to in record { from = omega arith; to = omega arith }

lesser_all : (n m : ℕ) (o : Option ℕ) → IsChunkNumber n → ((k : ℕ) → o ≡ Some k → IsChunkNumber k) → Some (lesser n o) ≡ Some m → IsChunkNumber m
lesser_all n m None a h e = subst IsChunkNumber (same_Some n m e) a
lesser_all n m (Some k) a h e = between n k m a (h k refl) (same_Some (min n k) m e)

least_all : (ns : List ℕ) (m : ℕ) → All ns → least ns ≡ Some m → IsChunkNumber m
least_all [] m a e = absurd (none-some m e)
least_all (n ∷ ns) m a e = lesser_all n m (least ns) a.0 (λ k f. least_all ns k a.1 f) e

chunk_all : (level status full bad elsewhere ticks many : Bool) (ns : List ℕ) → All ns
    → All ((when level 11 ++ when status 12 ++ cond full (when bad 12 ++ when elsewhere 13 ++ ns ++ when ticks 16) []) ++ when many 18)
chunk_all level status full bad elsewhere ticks many ns a =
    let inner : All (when bad 12 ++ when elsewhere 13 ++ ns ++ when ticks 16) =
    all_append (when bad 12 ++ when elsewhere 13 ++ ns) (when ticks 16) (all_append (when bad 12 ++ when elsewhere 13) ns
    (all_append (when bad 12) (when elsewhere 13) (all_when bad 12 (number 12 (omega arith) (omega arith))) (all_when elsewhere 13 (number 13 (omega arith) (omega arith)))) a) (all_when ticks 16 (number 16 (omega arith) (omega arith))) in
    all_append (when level 11 ++ when status 12 ++ cond full (when bad 12 ++ when elsewhere 13 ++ ns ++ when ticks 16) []) (when many 18)
    (all_append (when level 11 ++ when status 12) (cond full (when bad 12 ++ when elsewhere 13 ++ ns ++ when ticks 16) [])
    (all_append (when level 11) (when status 12) (all_when level 11 (number 11 (omega arith) (omega arith))) (all_when status 12 (number 12 (omega arith) (omega arith))))
    (all_if full (when bad 12 ++ when elsewhere 13 ++ ns ++ when ticks 16) inner))
    (all_when many 18 (number 18 (omega arith) (omega arith)))

pub first_between : (h : Height) (c : ChunkPos) (table : List BlockState) (root : List NamedTag) (m : ℕ) → first_fault h c table root ≡ Some m → IsChunkNumber m
first_between h c table root m e =
    least_all (faults h c root ++ when (has_too_many h table root) 18) m
    (chunk_all (has_level root) (lacks (status_of root)) (is_full root) (is_bad_chunk h root) (is_elsewhere c root) (list_any (is_bad_tick c h) (ticks root)) (has_too_many h table root)
    (flat_map (section_faults h) (sections root)) (all_flat (section_faults h) (sections root) (section_all h))) e

-- ---- a fault of such a number has no values

pub same_fault : (e f : Fault) → IsChunkNumber (fault_number e) → fault_number e ≡ fault_number f → e ≡ f
same_fault OldLayout OldLayout h s = refl
same_fault BadChunk BadChunk h s = refl
same_fault WrongPlace WrongPlace h s = refl
same_fault BadPalette BadPalette h s = refl
same_fault BadPacked BadPacked h s = refl
same_fault BadTick BadTick h s = refl
same_fault BadWaterLevel BadWaterLevel h s = refl
same_fault TooManyStates TooManyStates h s = refl
same_fault _ _ h s = absurd (let a = h.from in let b = h.to in omega arith)

-- two documents' first faults at one index are one
pub document_fault : (h : Height) (c : ChunkPos) (table : List BlockState) (root : List NamedTag) (e f : Fault) → first_fault h c table root ≡ Some (fault_number e) → first_fault h c table root ≡ Some (fault_number f) → e ≡ f
document_fault h c table root e f a b = same_fault e f (first_between h c table root (fault_number e) a) (same_Some (fault_number e) (fault_number f) (sym a ∙ b))
