-- What was judged before a chunk is taken apart, and the first fault.
use Rattle.std.proofs.Common.{◌≡◌, ℕ, ◌≤◌, Bool, true, false, true≢false, not, ◌&&◌, ◌||◌, Option, Some, None, Result, Ok, Err, IfErr, List, [], ◌∷◌, ◌++◌, refl, sym, ap, arith, lit≤, if◌then◌else◌, codes}
use Rattle.std.specs.List.{flat_map, list_any}
use Rattle.std.proofs.lemmas.Bool.{or_parts}
use Rattle.av_types.specs.Faults.{fault_number, least, lesser}
use Rattle.av_types.specs.declared.position.ChunkPos.{ChunkPos}
use Rattle.av_types.specs.declared.position.Height.{Height}
use Rattle.av_types.specs.declared.fault.Fault.{Fault}
use Rattle.av_types.specs.declared.fault.Fault.TheVariants.{OutOfMemory, OldLayout, BadChunk, WrongPlace}
use Rattle.av_tags.specs.Nbt.{Nbt, NamedTag}
use Rattle.av_tags.specs.ByName.{tag_of}
use Rattle.av_types.specs.Options.{◌>>=◌}
use Rattle.av_tags.specs.Shape.{compounds_of, lacks, or_else}
use Rattle.av_state.specs.BlockState.{BlockState}
use Rattle.av_section.specs.BlockStates.{when}
use Rattle.av_document.specs.Ticks.{is_bad_tick, int_at}
use Rattle.av_document.specs.Chunk.{has_level, status_of, is_full, is_bad_chunk, is_elsewhere, is_bad_section, share_a_number, is_bad_list, is_other, sections_of, sections, ticks, section_number, is_in_height, section_faults, section_states, block_faults, block_states_of, first_fault}
use Rattle.av_chunk.specs.Reading.{IsAdmitted}
use Rattle.av_codec.specs.Working.{admitted}
use Rattle.av_codec.specs.SectionsRead.{are_too_many}
use Rattle.av_codec.specs.TicksRead.{parts_judged}

abbrev judge : Bool → Bool → Bool → Bool → Bool → Result Bool Fault
judge l s f b e = if l then Err OldLayout else if s then Err BadChunk else if not f then Ok false else if b then Err BadChunk else if e then Err WrongPlace else Ok true

judge_true : (l s f b e : Bool) → judge l s f b e ≡ Ok true → (l ≡ false) × (s ≡ false) × (f ≡ true) × (b ≡ false) × (e ≡ false)
judge_true true s f b e h = cc
judge_true false true f b e h = cc
judge_true false false false b e h = let x : false ≡ true = cc in absurd (true≢false (sym x))
judge_true false false true true e h = cc
judge_true false false true false true h = cc
judge_true false false true false false h = (refl, refl, refl, refl, refl)

pub admitted_true : (h : Height) (c : ChunkPos) (root : List NamedTag) → admitted h c root ≡ Ok true → IsAdmitted h c root
admitted_true h c root e =
    let j = judge_true (has_level root) (lacks (status_of root)) (is_full root) (is_bad_chunk h root) (is_elsewhere c root) e in
    record { level = j.0; status = j.1; full = j.2; shape = j.3; here = j.4 }

-- what is judged before a chunk is taken apart takes no memory
judge_no_memory : (l s f b e : Bool) → judge l s f b e ≡ Err OutOfMemory → ⊥
judge_no_memory true s f b e h = cc
judge_no_memory false true f b e h = cc
judge_no_memory false false false b e h = cc
judge_no_memory false false true true e h = cc
judge_no_memory false false true false true h = cc
judge_no_memory false false true false false h = cc

pub admitted_no_memory : (h : Height) (c : ChunkPos) (root : List NamedTag) → admitted h c root ≡ Err OutOfMemory → ⊥
admitted_no_memory h c root e = judge_no_memory (has_level root) (lacks (status_of root)) (is_full root) (is_bad_chunk h root) (is_elsewhere c root) e

-- what holds whatever the fault is
pub whatever_fault : {A E : Type 0} (r : Result A E) (Q : E → Type 0) (P : Type 0) → P → IfErr r (λ e. Q e → P)
whatever_fault (Ok x) Q P p = tt
whatever_fault (Err e) Q P p = λ _. p

-- ---- the first fault

-- no number before n
abbrev IsLate : ℕ → Option ℕ → Type 0
IsLate n None = Unit {0}
IsLate n (Some m) = n ≤ m

late_cons : (n x : ℕ) (xs : List ℕ) → n ≤ x → IsLate n (least xs) → IsLate n (least (x ∷ xs))
late_cons n x xs p q = of (least xs) q
  where
    of : (o : Option ℕ) → IsLate n o → n ≤ lesser x o
    of None q = p
    of (Some m) q = omega arith

late_append : (n : ℕ) (xs ys : List ℕ) → IsLate n (least xs) → IsLate n (least ys) → IsLate n (least (xs ++ ys))
late_append n [] ys p q = q
late_append n (x ∷ xs) ys p q = late_cons n x (xs ++ ys) (head (least xs) p) (late_append n xs ys (tail (least xs) p) q)
  where
    head : (o : Option ℕ) → n ≤ lesser x o → n ≤ x
    head None r = r
    head (Some m) r = omega arith

    tail : (o : Option ℕ) → n ≤ lesser x o → IsLate n o
    tail None r = tt
    tail (Some m) r = omega arith

late_when : (n m : ℕ) (b : Bool) → n ≤ m → IsLate n (least (when b m))
late_when n m true p = p
late_when n m false p = tt

late_if : (n : ℕ) (b : Bool) (xs : List ℕ) → IsLate n (least xs) → IsLate n (least (if b then xs else []))
late_if n true xs p = p
late_if n false xs p = tt

late_states : (a b c : Bool) → IsLate 14 (least (when a 14 ++ when b 15 ++ when c 17))
late_states true true true = lit≤ tt
late_states true true false = lit≤ tt
late_states true false true = lit≤ tt
late_states true false false = lit≤ tt
late_states false true true = lit≤ tt
late_states false true false = lit≤ tt
late_states false false true = lit≤ tt
late_states false false false = tt

late_block : (b : Option (List NamedTag)) → IsLate 14 (least (block_faults b))
late_block None = tt
late_block (Some states) = late_states _ _ _

late_rows : (h : Height) (rows : List (List NamedTag)) → IsLate 14 (least (flat_map (section_faults h) rows))
late_rows h [] = tt
late_rows h (ms ∷ rows) = late_append 14 (section_faults h ms) (flat_map (section_faults h) rows) (late_if 14 (is_in_height h (section_number ms)) (block_faults (block_states_of ms)) (late_block (block_states_of ms))) (late_rows h rows)

late_from : (n m : ℕ) (o : Option ℕ) → n ≤ m → IsLate m o → IsLate n o
late_from n m None p q = tt
late_from n m (Some k) p q = omega arith

first_is : (n : ℕ) (xs : List ℕ) → IsLate n (least xs) → least (n ∷ xs) ≡ Some n
first_is n xs q = of (least xs) q
  where
    of : (o : Option ℕ) → IsLate n o → Some (lesser n o) ≡ Some n
    of None q = refl
    of (Some m) q = ap Some (omega arith)

abbrev all_faults : Bool → Bool → Bool → Bool → Bool → List ℕ → Bool → Bool → List ℕ
all_faults l s f b e xs w t = (when l 11 ++ when s 12 ++ (if f then when b 12 ++ when e 13 ++ xs ++ when w 16 else [])) ++ when (f && t) 18

late_loaded : (n : ℕ) (b e : Bool) (xs : List ℕ) (w : Bool) → n ≤ 12 → IsLate 14 (least xs) → IsLate n (least (when b 12 ++ when e 13 ++ xs ++ when w 16))
late_loaded n b e xs w p q =
    let p13 : n ≤ 13 = omega arith in
    let p14 : n ≤ 14 = omega arith in
    let p16 : n ≤ 16 = omega arith in
    late_append n (when b 12 ++ when e 13 ++ xs) (when w 16)
    (late_append n (when b 12 ++ when e 13) xs (late_append n (when b 12) (when e 13) (late_when n 12 b p) (late_when n 13 e p13)) (late_from n 14 (least xs) p14 q))
    (late_when n 16 w p16)

fault_of : (l s f b e : Bool) (xs : List ℕ) (w t : Bool) (x : Fault) → IsLate 14 (least xs) → judge l s f b e ≡ Err x → least (all_faults l s f b e xs w t) ≡ Some (fault_number x)
fault_of true s f b e xs w t x q h =
    let is : OldLayout ≡ x = cc in
    let rest = when b 12 ++ when e 13 ++ xs ++ when w 16 in
    let body = if f then rest else [] in
    rw (← is) (first_is 11 ((when s 12 ++ body) ++ when (f && t) 18)
    (late_append 11 (when s 12 ++ body) (when (f && t) 18) (late_append 11 (when s 12) body (late_when 11 12 s (lit≤ tt)) (late_if 11 f rest (late_loaded 11 b e xs w (lit≤ tt) q))) (late_when 11 18 (f && t) (lit≤ tt))))
fault_of false true f b e xs w t x q h =
    let is : BadChunk ≡ x = cc in
    let rest = when b 12 ++ when e 13 ++ xs ++ when w 16 in
    let body = if f then rest else [] in
    rw (← is) (first_is 12 (body ++ when (f && t) 18) (late_append 12 body (when (f && t) 18) (late_if 12 f rest (late_loaded 12 b e xs w (lit≤ tt) q)) (late_when 12 18 (f && t) (lit≤ tt))))
fault_of false false false b e xs w t x q h = cc
fault_of false false true true e xs w t x q h =
    let is : BadChunk ≡ x = cc in
    rw (← is) (first_is 12 (((when e 13 ++ xs) ++ when w 16) ++ when t 18)
    (late_append 12 ((when e 13 ++ xs) ++ when w 16) (when t 18)
    (late_append 12 (when e 13 ++ xs) (when w 16) (late_append 12 (when e 13) xs (late_when 12 13 e (lit≤ tt)) (late_from 12 14 (least xs) (lit≤ tt) q)) (late_when 12 16 w (lit≤ tt))) (late_when 12 18 t (lit≤ tt))))
fault_of false false true false true xs w t x q h =
    let is : WrongPlace ≡ x = cc in
    rw (← is) (first_is 13 ((xs ++ when w 16) ++ when t 18)
    (late_append 13 (xs ++ when w 16) (when t 18) (late_append 13 xs (when w 16) (late_from 13 14 (least xs) (lit≤ tt) q) (late_when 13 16 w (lit≤ tt))) (late_when 13 18 t (lit≤ tt))))
fault_of false false true false false xs w t x q h = cc

pub admitted_fault : (h : Height) (c : ChunkPos) (root : List NamedTag) (old : List BlockState) (e : Fault) → admitted h c root ≡ Err e → first_fault h c old root ≡ Some (fault_number e)
admitted_fault h c root old e is =
    fault_of (has_level root) (lacks (status_of root)) (is_full root) (is_bad_chunk h root) (is_elsewhere c root) (flat_map (section_faults h) (sections root))
    (list_any (is_bad_tick c h) (ticks root)) (are_too_many old (flat_map (section_states h) (sections root))) e (late_rows h (sections root)) is

kept_of : (l s f b e : Bool) (xs : List ℕ) (w t : Bool) → judge l s f b e ≡ Ok false → (least (all_faults l s f b e xs w t) ≡ None) × (f ≡ false)
kept_of true s f b e xs w t h = cc
kept_of false true f b e xs w t h = cc
kept_of false false false b e xs w t h = (refl, refl)
kept_of false false true true e xs w t h = cc
kept_of false false true false true xs w t h = cc
kept_of false false true false false xs w t h = let x : true ≡ false = cc in absurd (true≢false x)

pub admitted_false : (h : Height) (c : ChunkPos) (root : List NamedTag) (old : List BlockState) → admitted h c root ≡ Ok false → (first_fault h c old root ≡ None) × (is_full root ≡ false)
admitted_false h c root old is =
    kept_of (has_level root) (lacks (status_of root)) (is_full root) (is_bad_chunk h root) (is_elsewhere c root) (flat_map (section_faults h) (sections root))
    (list_any (is_bad_tick c h) (ticks root)) (are_too_many old (flat_map (section_states h) (sections root))) is

-- of a chunk that is to be loaded, the parts are left
pub first_loaded : (h : Height) (c : ChunkPos) (root : List NamedTag) (old : List BlockState) → IsAdmitted h c root
    → first_fault h c old root ≡ parts_judged c h (sections root) (ticks root) old
first_loaded h c root old a = rw (a.level, a.status, a.full, a.shape, a.here) refl

-- ---- the shape

pub good_list : (h : Height) (root : List NamedTag) → is_bad_chunk h root ≡ false → is_bad_list h (sections_of root) ≡ false
good_list h root e =
    let first = lacks (int_at (codes "xPos") root) || lacks (int_at (codes "zPos") root) in
    (or_parts first (is_bad_list h (sections_of root)) (or_parts (first || is_bad_list h (sections_of root)) (is_other compounds_of (tag_of (codes "fluid_ticks") root)) e).0).1

pub good_apart : (h : Height) (root : List NamedTag) → is_bad_chunk h root ≡ false → share_a_number (sections root) ≡ false
good_apart h root e = of (sections_of root) (good_list h root e)
  where
    of : (o : Option (List (List NamedTag))) → is_bad_list h o ≡ false → share_a_number (or_else [] o) ≡ false
    of None e = refl
    of (Some rows) e = (or_parts (list_any (is_bad_section h) rows) (share_a_number rows) e).1

pub good_ticks : (h : Height) (root : List NamedTag) → is_bad_chunk h root ≡ false → is_other compounds_of (tag_of (codes "fluid_ticks") root) ≡ false
good_ticks h root e =
    (or_parts (lacks (int_at (codes "xPos") root) || lacks (int_at (codes "zPos") root) || is_bad_list h (sections_of root)) (is_other compounds_of (tag_of (codes "fluid_ticks") root)) e).1

shape_of : (h : Height) (t : Option Nbt) → is_bad_list h (t >>= compounds_of) ≡ false → is_other compounds_of t ≡ false
shape_of h None e = refl
shape_of h (Some t) e = of (compounds_of t) e
  where
    of : (o : Option (List (List NamedTag))) → is_bad_list h o ≡ false → lacks o ≡ false
    of None e = e
    of (Some rows) e = refl

pub good_sections : (h : Height) (root : List NamedTag) → is_bad_chunk h root ≡ false → is_other compounds_of (tag_of (codes "sections") root) ≡ false
good_sections h root e = shape_of h (tag_of (codes "sections") root) (good_list h root e)
