-- How many ticks and sections a chunk can have.
use Rattle.std.proofs.Common.{◌≡◌, ℕ, suc, ◌+◌, ◌-◌, ◌*◌, ◌<◌, ◌≤◌, List, [], ◌∷◌, ◌++◌, ℤ, pos, negsuc, ◌<ℤ◌, ◌≤ℤ◌, ◌+ℤ◌, Bool, true, false, ◌||◌, Some, None, Option, cond, map, length, nat_eq, refl, sym, ap, ◌∙◌, subst, arith, length-append}
use Rattle.std.specs.Prelude.{int_le, int_lt}
use Rattle.std.specs.List.{AllByRecursion, IsDistinct, list_any}
use Rattle.std.specs.Str.{bytes_eq}
use Rattle.std.proofs.lemmas.Int.{ints}
use Rattle.std.proofs.lemmas.Bool.{false≢true, true≢false, and_parts}
use Rattle.std.proofs.lemmas.Bool.Decides.{Decides-eqb}
use Rattle.std.proofs.lemmas.Option.{none-some, same_Some}
use Rattle.std.proofs.lemmas.Map.Steps.{length-le_from_distinct_below}
use Rattle.std.proofs.lemmas.List.{length-map}
use Rattle.av_types.specs.Division.{divided}
use Rattle.av_types.specs.Positions.{is_section_of, place_of}
use Rattle.av_types.specs.declared.position.Pos.{Pos}
use Rattle.av_types.specs.declared.position.ChunkPos.{ChunkPos}
use Rattle.av_types.specs.declared.position.Height.{Height}
use Rattle.av_types.specs.declared.tick.Entry.{Entry}
use Rattle.av_types.proofs.SamePositions.{same_pos-refl}
use Rattle.av_tags.specs.Nbt.{Nbt, compound, list, Items, no_items, item, Members, no_members, member, NamedTag}
use Rattle.av_tags.specs.ByName.{tag_of}
use Rattle.av_types.specs.Options.{◌>>=◌}
use Rattle.av_tags.specs.Shape.{members_in, items_in, compound_of, compounds_of, each}
use Rattle.av_nbt.specs.Spelling.{Spells, SpellsItems, SpellsMembers}
use Rattle.av_ticks.specs.Entries.{same_pos, is_pending, are_apart}
use Rattle.av_document.specs.Ticks.{lies_in, water_entry, foreign}
use Rattle.av_document.specs.Layout.{block_at, kept_section, all_of}
use Rattle.av_tags.specs.Shape.{lacks}
use Rattle.av_document.proofs.Numbers.{le_from, lt_from}
use Rattle.av_document.proofs.Positions.{within_from, block_at-of, place_of-lt}

-- ---- blocks of a chunk, numbered

-- a section's number from -64 on
from_lowest : ℤ → ℕ
from_lowest (pos n) = n + 64
from_lowest (negsuc n) = 63 - n

from_lowest-lt : (y : ℤ) → negsuc 63 ≤ℤ y → y <ℤ pos 64 → from_lowest y < 128
unfolding from_lowest
from_lowest-lt (pos n) low high = omega (arith, ints)
from_lowest-lt (negsuc n) low high = omega arith

from_lowest-same : (y z : ℤ) → negsuc 63 ≤ℤ y → negsuc 63 ≤ℤ z → from_lowest y ≡ from_lowest z → y ≡ z
unfolding from_lowest
from_lowest-same (pos m) (pos n) low lower e = let same : m ≡ n = omega arith in ap pos same
from_lowest-same (pos m) (negsuc n) low lower e = absurd (omega (arith, ints))
from_lowest-same (negsuc m) (pos n) low lower e = absurd (omega (arith, ints))
from_lowest-same (negsuc m) (negsuc n) low lower e = let same : m ≡ n = omega (arith, ints) in ap negsuc same

block_number : Pos → ℕ
block_number p = 4096 * from_lowest (divided p.y 16) + place_of p

record IsBetween (y : ℤ) : Type 0 where
  pub low : negsuc 63 ≤ℤ y
  pub high : y <ℤ pos 64

between : (h : Height) (y : ℤ) → is_section_of h y ≡ true → IsBetween y
between h y inside =
    let parts = and_parts (int_le h.min_section y) (int_lt y (h.min_section +ℤ pos h.sections)) inside in
    let low : h.min_section ≤ℤ y = le_from h.min_section y parts.0 in
    let high : y <ℤ (h.min_section +ℤ pos h.sections) = lt_from y (h.min_section +ℤ pos h.sections) parts.1 in
    let lowest : negsuc 63 ≤ℤ h.min_section = h.lowest in
    let highest : (h.min_section +ℤ pos h.sections) ≤ℤ pos 64 = h.highest in
    record { low = omega (arith, ints); high = omega (arith, ints) }

block_number-lt : (c : ChunkPos) (h : Height) (p : Pos) → lies_in c h p ≡ true → block_number p < 524288
unfolding block_number
block_number-lt c h p inside =
    let b = between h (divided p.y 16) (within_from c h p inside).height in
    omega (arith, from_lowest-lt (divided p.y 16) b.low b.high, place_of-lt p)

parts_same : (a b x y : ℕ) → x < 4096 → y < 4096 → 4096 * a + x ≡ 4096 * b + y → (a ≡ b) × (x ≡ y)
parts_same a b x y hx hy e = (omega arith, omega arith)

block_number-same : (c : ChunkPos) (h : Height) (p q : Pos) → lies_in c h p ≡ true → lies_in c h q ≡ true → block_number p ≡ block_number q → p ≡ q
unfolding block_number
block_number-same c h p q in_p in_q e =
    let bp = between h (divided p.y 16) (within_from c h p in_p).height in
    let bq = between h (divided q.y 16) (within_from c h q in_q).height in
    let parts = parts_same (from_lowest (divided p.y 16)) (from_lowest (divided q.y 16)) (place_of p) (place_of q) (place_of-lt p) (place_of-lt q) e in
    let section : divided p.y 16 ≡ divided q.y 16 = from_lowest-same (divided p.y 16) (divided q.y 16) bp.low bq.low parts.0 in
    sym (block_at-of c h p in_p) ∙ ap (λ y. block_at c y (place_of p)) section ∙ ap (λ i. block_at c (divided q.y 16) i) parts.1 ∙ block_at-of c h q in_q

-- ---- entries

AreInside : ChunkPos → Height → List Entry → Type 0
AreInside c h es = AllByRecursion (λ e. lies_in c h e.pos ≡ true) es

not_numbered : (c : ChunkPos) (h : Height) (p : Pos) (es : List Entry) → lies_in c h p ≡ true → AllByRecursion (λ e. lies_in c h e.pos ≡ true) es → is_pending p es ≡ false
    → AllByRecursion (λ k. nat_eq (block_number p) k ≡ false) (map (λ e. block_number e.pos) es)
not_numbered c h p [] in_p inside new = tt
not_numbered c h p (e ∷ es) in_p inside new = by (same_pos p e.pos) refl new (not_numbered c h p es in_p inside.1) where
  test : (b : Bool) → nat_eq (block_number p) (block_number e.pos) ≡ b → same_pos p e.pos ≡ false → b ≡ false
  test true k f =
      let same : p ≡ e.pos = block_number-same c h p e.pos in_p inside.0 ((Decides-eqb (block_number p) (block_number e.pos)).0 k) in
      absurd (true≢false (sym (ap (same_pos p) (sym same) ∙ same_pos-refl p) ∙ f))
  test false k f = refl

  by : (b : Bool) → same_pos p e.pos ≡ b → cond b true (is_pending p es) ≡ false → (is_pending p es ≡ false → AllByRecursion (λ k. nat_eq (block_number p) k ≡ false) (map (λ e. block_number e.pos) es))
      → AllByRecursion (λ k. nat_eq (block_number p) k ≡ false) (map (λ e. block_number e.pos) (e ∷ es))
  by true f k more = absurd (true≢false k)
  by false f k more = (test (nat_eq (block_number p) (block_number e.pos)) refl f, more k)

distinct_numbers : (c : ChunkPos) (h : Height) (es : List Entry) → AllByRecursion (λ e. lies_in c h e.pos ≡ true) es → are_apart es ≡ true → IsDistinct nat_eq (map (λ e. block_number e.pos) es)
unfolding IsDistinct
distinct_numbers c h [] inside apart = tt
distinct_numbers c h (e ∷ es) inside apart = by (is_pending e.pos es) refl apart (distinct_numbers c h es inside.1) where
  by : (b : Bool) → is_pending e.pos es ≡ b → cond b false (are_apart es) ≡ true → (are_apart es ≡ true → IsDistinct nat_eq (map (λ e. block_number e.pos) es))
      → IsDistinct nat_eq (map (λ e. block_number e.pos) (e ∷ es))
  by true f k more = absurd (false≢true k)
  by false f k more = (not_numbered c h e.pos es inside.0 inside.1 f, more k)

numbers_below : (c : ChunkPos) (h : Height) (es : List Entry) → AllByRecursion (λ e. lies_in c h e.pos ≡ true) es → (q : ℕ) → list_any (nat_eq q) (map (λ e. block_number e.pos) es) ≡ true → q < 524288
numbers_below c h [] inside q there = absurd (false≢true there)
numbers_below c h (e ∷ es) inside q there = by (nat_eq q (block_number e.pos)) refl there (numbers_below c h es inside.1 q) where
  by : (b : Bool) → nat_eq q (block_number e.pos) ≡ b → (b || list_any (nat_eq q) (map (λ e. block_number e.pos) es)) ≡ true → (list_any (nat_eq q) (map (λ e. block_number e.pos) es) ≡ true → q < 524288) → q < 524288
  by true f k more = subst (λ n. n < 524288) (sym ((Decides-eqb q (block_number e.pos)).0 f)) (block_number-lt c h e.pos inside.0)
  by false f k more = more k

-- entries of one chunk, no position twice
pub few_entries : (c : ChunkPos) (h : Height) (es : List Entry) → AllByRecursion (λ e. lies_in c h e.pos ≡ true) es → are_apart es ≡ true → length es ≤ 524288
few_entries c h es inside apart =
    subst (λ n. n ≤ 524288) (length-map es (λ e. block_number e.pos))
    (length-le_from_distinct_below (map (λ e. block_number e.pos) es) 524288 (distinct_numbers c h es inside apart) (numbers_below c h es inside))

-- ---- sections and foreign ticks

pub few_rows : (f : ℤ → Option (List NamedTag)) (ys : List ℤ) → length (all_of f ys) ≤ length ys
few_rows f [] = omega arith
few_rows f (y ∷ ys) = by (f y) (few_rows f ys) where
  by : (o : Option (List NamedTag)) → length (all_of f ys) ≤ length ys → length (kept_section o ++ all_of f ys) ≤ suc (length ys)
  by None more = omega arith
  by (Some ms) more = omega arith

pub few_foreign : (ts : List (List NamedTag)) → length (foreign ts) ≤ length ts
few_foreign [] = omega arith
few_foreign (ms ∷ ts) = by (lacks (water_entry ms)) (few_foreign ts) where
  by : (b : Bool) → length (foreign ts) ≤ length ts → length (cond b (ms ∷ foreign ts) (foreign ts)) ≤ suc (length ts)
  by true more = omega arith
  by false more = omega arith

-- a Compound has a byte at least
some_byte : (ms : Members) (bytes : List ℕ) → SpellsMembers ms bytes → 0 < length bytes
some_byte no_members bytes h = omega (arith, ap length h)
some_byte (member n t ms) bytes (name, front, rest, is, named, here, more) = omega (arith, ap length is)

-- so many Compounds have so many bytes
pub few_items : (ts : Items) (bytes : List ℕ) (rows : List (List NamedTag)) → SpellsItems ts bytes → each compound_of (items_in ts) ≡ Some rows → length rows ≤ length bytes
few_items no_items bytes rows h e = let none : [] ≡ rows = same_Some [] rows e in subst (λ l. length l ≤ length bytes) none (omega arith)
few_items (item t ts) bytes rows (front, rest, is, here, more) e = by t here (each compound_of (items_in ts)) refl e (λ later. few_items ts rest later more) where
  by : (u : Nbt) → Spells u front → (os : Option (List (List NamedTag))) → each compound_of (items_in ts) ≡ os → (compound_of u >>= λ y. (os >>= λ ys. Some (y ∷ ys))) ≡ Some rows
      → ((later : List (List NamedTag)) → each compound_of (items_in ts) ≡ Some later → length later ≤ length rest) → length rows ≤ length bytes
  by (compound mem) s None g l more = absurd (none-some rows l)
  by (compound mem) s (Some later) g l more =
      let same : members_in mem ∷ later ≡ rows = same_Some (members_in mem ∷ later) rows l in
      let first : 0 < length front = some_byte mem front s.1 in
      let tail : length later ≤ length rest = more later g in
      subst (λ r. length r ≤ length bytes) same (omega (arith, ap length is, length-append front rest))
  by _ s os g l more = absurd (none-some rows l)

pub few_compounds : (t : Nbt) (bytes : List ℕ) (rows : List (List NamedTag)) → Spells t bytes → compounds_of t ≡ Some rows → length rows ≤ length bytes
few_compounds (list e ts) bytes rows (size, len, rest, is, sized, count, are, inside) f = omega (arith, ap length is, length-append len rest, few_items ts rest rows inside f)
few_compounds _ bytes rows h f = absurd (none-some rows f)

-- the bytes of a tag are some of those of its Compound
pub record HasFewBytes (t : Nbt) (n : ℕ) : Type 0 where
  pub bytes : List ℕ
  pub spelled : Spells t bytes
  pub few : length bytes ≤ n

pub tag_bytes : (n : List ℕ) (ms : Members) (bytes : List ℕ) (t : Nbt) → SpellsMembers ms bytes → tag_of n (members_in ms) ≡ Some t → HasFewBytes t (length bytes)
tag_bytes n no_members bytes t h e = absurd (none-some t e)
tag_bytes n (member m u ms) bytes t (name, front, rest, is, named, here, more) e = by (bytes_eq n m) e (tag_bytes n ms rest t more) where
  whole : length front + length rest ≤ length bytes
  whole = omega (arith, ap length is, length-append name (front ++ rest), length-append front rest)

  by : (b : Bool) → cond b (Some u) (tag_of n (members_in ms)) ≡ Some t → (tag_of n (members_in ms) ≡ Some t → HasFewBytes t (length rest)) → HasFewBytes t (length bytes)
  by true l later = let same : u ≡ t = same_Some u t l in subst (λ v. HasFewBytes v (length bytes)) same (record { bytes = front; spelled = here; few = omega (arith, whole) })
  by false l later = let r = later l in record { bytes = r.bytes; spelled = r.spelled; few = omega (arith, whole, r.few) }
