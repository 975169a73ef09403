-- What is read can be written, and so can what ticks lead to.
use Rattle.std.proofs.Common.{◌≡◌, ◌∙◌, ℕ, zero, suc, ◌<◌, ℤ, pos, negsuc, ◌+ℤ◌, ◌-ℤ◌, ◌≤ℤ◌, ◌<ℤ◌, List, [], ◌∷◌, length, take, Bool, true, false, ◌&&◌, Some, refl, ap, sym, subst, arith}
use Rattle.std.specs.Int.{w32}
use Rattle.std.specs.Int.RustNames.{FitsSigned}
use Rattle.std.specs.Prelude.{map, option_map, ◌||◌, slice_get, slice_index_or, int_le, int_lt}
use Rattle.std.specs.List.{AllByRecursion, list_any}
use Rattle.std.specs.Ordering.{int_eq}
use Rattle.std.proofs.lemmas.Int.{ints}
use Rattle.std.proofs.lemmas.Bool.{and_parts, and_from, true≢false, false≢true}
use Rattle.std.proofs.lemmas.Bool.Decides.{Decides-int_eq}
use Rattle.std.proofs.lemmas.Option.{slice_get-map, same_Some}
use Rattle.av_document.proofs.Numbers.{lt_from, le_from}
use Rattle.av_types.proofs.Each.{each_then}
use Rattle.av_types.specs.Division.{divided}
use Rattle.av_types.specs.Positions.{chunk_of, region_of, index_of, chunk_at, is_block_of, is_section_of, IsInLimits}
use Rattle.av_types.specs.declared.position.Pos.{Pos}
use Rattle.av_types.specs.declared.position.ChunkPos.{ChunkPos}
use Rattle.av_types.specs.declared.position.RegionPos.{RegionPos}
use Rattle.av_types.specs.declared.position.Height.{Height}
use Rattle.av_types.specs.declared.tick.Entry.{Entry}
use Rattle.av_types.proofs.Coordinates.{index_less, chunk_back}
use Rattle.av_types.proofs.SamePositions.{same_chunk_is}
use Rattle.av_state.specs.BlockState.{BlockState, air, meant}
use Rattle.av_state.specs.StateList.{IsStateList, first_states}
use Rattle.av_cells.specs.Positions.{same_chunk}
use Rattle.av_ticks.specs.Entries.{are_apart}
use Rattle.av_document.specs.Ticks.{lies_in}
use Rattle.av_document.specs.Law.{IsMeant, IsLawful, HasInts}
use Rattle.av_document.proofs.Lawful.{read_is_lawful}
use Rattle.av_document.proofs.Ints.{ints_read, less_nothing}
use Rattle.av_land.specs.Land.{Land, has_chunk, is_loaded}
use Rattle.av_land.specs.Good.{Good, IsEntryOf, IsTimely}
use Rattle.av_files.specs.Files.{File, in_order}
use Rattle.av_region_files.specs.Regions.{region_order, same_region}
use Rattle.av_files.specs.Denotes.{Rest, IsSlot, absent, kept, full, DenotesFile, Denotes}
use Rattle.av_files.specs.Lawful.{IsLawfulLand, AreStorable}
use Rattle.av_files.specs.Run.{stated}
use Rattle.av_files.proofs.Sorted.{all_ordered}
use Rattle.av_files.proofs.Coordinates.{fits_from, fits_low, fits_high, same_region_is, near}

-- ---- from numbers to states

state_there : (states : List BlockState) (i : ℕ) → i < length states → slice_get states i ≡ Some (slice_index_or states i air)
state_there [] i h = absurd (omega arith)
state_there (s ∷ states) zero h = refl
state_there (s ∷ states) (suc i) h = state_there states i (omega arith)

state_is_meant : (states : List BlockState) (i : ℕ) → IsStateList states → AreStorable states → i < length states → IsMeant (slice_index_or states i air)
state_is_meant states i list storable h =
    let there = state_there states i h in
    let s = slice_index_or states i air in
    let both : Some (meant s) ≡ Some (Some s) =
    sym (ap (option_map meant) there) ∙ sym (slice_get-map meant states i) ∙ ap (λ xs. slice_get xs i) list.each_meant ∙ slice_get-map (λ x. Some x) states i ∙ ap (option_map (λ x. Some x)) there in
    record { same = same_Some (meant s) (Some s) both; storable = storable i s there }

first_is_air : (states : List BlockState) → take 10 states ≡ first_states → slice_index_or states 0 air ≡ air
first_is_air [] h = refl
first_is_air (s ∷ states) h = ap (λ xs. slice_index_or xs 0 air) h

lies_where : (w : Land ℕ) (c : ChunkPos) (p : Pos) → same_chunk c (chunk_of p) ≡ true → is_loaded w p ≡ true → lies_in c w.height p ≡ true
lies_where w c p same l =
    let is = same_chunk_is c (chunk_of p) same in
    let x : divided p.x 16 ≡ c.x = sym (ap (λ d. d.x) is) in
    let z : divided p.z 16 ≡ c.z = sym (ap (λ d. d.z) is) in
    and_from _ _ (and_from _ _ ((Decides-int_eq (divided p.x 16) c.x).1 x) ((Decides-int_eq (divided p.z 16) c.z).1 z)) (and_parts (has_chunk w.chunks (chunk_of p)) (is_block_of w.height p.y) l).1

pub timely_ints : (n : ℕ) (e : Entry) → IsTimely n e → HasInts n e
timely_ints n e s = record {
  int_x = s.int_x;
  int_y = s.int_y;
  int_z = s.int_z;
  int_priority = s.int_priority;
  int_due = let a = s.late in let b = s.soon in fits_from (e.due -ℤ pos n) (omega (arith, ints)) (omega (arith, ints));
}

-- a good world of numbers stands for one that can be written
pub good_is_lawful : (states : List BlockState) (n : ℕ) (v : Land ℕ) → IsStateList states → AreStorable states → Good (length states) (IsTimely n) v → IsLawfulLand (stated states v) n
good_is_lawful states n v list storable g = record {
  chunks = λ c is. record {
    meant_states = λ p inside. state_is_meant states (v.at p) list storable (g.numbers p);
    within = each_then (IsEntryOf (IsTimely n) (is_loaded v) c) (λ e. lies_in c v.height e.pos ≡ true) (λ e s. lies_where v c e.pos s.here s.there) (v.lists c) (g.entries c);
    apart = g.apart c;
  };
  ints = λ c is. each_then (IsEntryOf (IsTimely n) (is_loaded v) c) (HasInts n) (λ e s. timely_ints n e s.holds) (v.lists c) (g.entries c);
  air_elsewhere = λ p out. ap (λ i. slice_index_or states i air) (g.unloaded p out) ∙ first_is_air states list.begins;
  none_elsewhere = g.none;
}

-- ---- what is read

record HasFile (h : Height) (w : Land BlockState) (r : Rest) (region : RegionPos) : Type 0 where
  file : File
  is : file.pos ≡ region
  denotes : DenotesFile h w r file

file_of : (h : Height) (w : Land BlockState) (r : Rest) (region : RegionPos) (fs : List File) → AllByRecursion (DenotesFile h w r) fs → list_any (same_region region) (map (λ f. f.pos) fs) ≡ true → HasFile h w r region
file_of h w r region [] all found = absurd (false≢true found)
file_of h w r region (f ∷ fs) all found = by (same_region region f.pos) refl found (file_of h w r region fs all.1) where
  by : (b : Bool) → same_region region f.pos ≡ b → (b || list_any (same_region region) (map (λ g. g.pos) fs)) ≡ true → (list_any (same_region region) (map (λ g. g.pos) fs) ≡ true → HasFile h w r region) → HasFile h w r region
  by true s k more = record { file = f; is = sym (same_region_is region f.pos s); denotes = all.0 }
  by false s k more = more k

-- a loaded chunk's document
record HasDocument (h : Height) (w : Land BlockState) (r : Rest) (c : ChunkPos) : Type 0 where
  limits : IsInLimits (region_of c)
  lawful : IsLawful c h w.at (w.lists c)
  ints : AllByRecursion (HasInts 0) (w.lists c)

slot_document : (h : Height) (w : Land BlockState) (r : Rest) (file : List ℕ) (c : ChunkPos) (i : ℕ) → IsInLimits (region_of c) → has_chunk w.chunks c ≡ true → IsSlot h w r file c i → HasDocument h w r c
slot_document h w r file c i limits is (absent none out_of kept_none) = absurd (true≢false (sym is ∙ out_of))
slot_document h w r file c i limits is (kept payload d held spelled no_fault part out_of kept_some) = absurd (true≢false (sym is ∙ out_of))
slot_document h w r file c i limits is (full payload d held spelled denotes there none_kept) = record {
  limits = limits;
  lawful = read_is_lawful c h d w.at (w.lists c) (r.chunk c) denotes;
  ints = ints_read c h d w.at (w.lists c) (r.chunk c) (record { bytes = payload; spelled = spelled }) denotes;
}

document_of : (h : Height) (files : List File) (w : Land BlockState) (r : Rest) → Denotes h files w r → (c : ChunkPos) → has_chunk w.chunks c ≡ true → HasDocument h w r c
document_of h files w r d c is =
    let sorted = all_ordered (DenotesFile h w r) (λ a b. region_order a.pos b.pos) files d.each in
    let found = file_of h w r (region_of c) (in_order files) sorted (subst (λ rs. list_any (same_region (region_of c)) rs ≡ true) d.regions (d.others c is)) in
    let slot = found.denotes.slots (index_of c) (index_less c) in
    let slot_here : IsSlot h w r found.file.bytes c (index_of c) =
    subst (λ x. IsSlot h w r found.file.bytes x (index_of c)) (ap (λ region. chunk_at region (index_of c)) found.is ∙ chunk_back c) slot in
    slot_document h w r found.file.bytes c (index_of c) (subst IsInLimits found.is found.denotes.limits) is slot_here

inner : (z : ℤ) → negsuc 63 ≤ℤ divided z 16 → divided z 16 <ℤ pos 64 → FitsSigned w32 z
inner (pos n) low top = fits_from (pos n) (omega (arith, ints)) (omega (arith, ints))
inner (negsuc n) low top = fits_from (negsuc n) (omega (arith, ints)) (omega (arith, ints))

-- coordinates of a height
high : (h : Height) (z : ℤ) → is_section_of h (divided z 16) ≡ true → FitsSigned w32 z
high h z s =
    let parts = and_parts (int_le h.min_section (divided z 16)) (int_lt (divided z 16) (h.min_section +ℤ pos h.sections)) s in
    let low : h.min_section ≤ℤ divided z 16 = le_from h.min_section (divided z 16) parts.0 in
    let top : divided z 16 <ℤ (h.min_section +ℤ pos h.sections) = lt_from (divided z 16) (h.min_section +ℤ pos h.sections) parts.1 in
    let a = h.lowest in
    let b = h.highest in
    inner z (omega (arith, ints)) (omega (arith, ints))

pub read_has_ints : (h : Height) (files : List File) (w : Land BlockState) (r : Rest) → Denotes h files w r → (p : Pos) → is_loaded w p ≡ true → FitsSigned w32 p.x × FitsSigned w32 p.y × FitsSigned w32 p.z
read_has_ints h files w r d p l =
    let parts = and_parts (has_chunk w.chunks (chunk_of p)) (is_block_of w.height p.y) l in
    let doc = document_of h files w r d (chunk_of p) parts.0 in
    let limits = doc.limits in
    (near p.x limits.west limits.east, high w.height p.y parts.1, near p.z limits.north limits.south)

entry_here : (w : Land ℕ) (c : ChunkPos) (e : Entry) → has_chunk w.chunks c ≡ true → lies_in c w.height e.pos ≡ true → HasInts 0 e → IsEntryOf (IsTimely 0) (is_loaded w) c e
entry_here w c e is inside i =
    let a = and_parts (int_eq (divided e.pos.x 16) c.x && int_eq (divided e.pos.z 16) c.z) (is_block_of w.height e.pos.y) inside in
    let b = and_parts (int_eq (divided e.pos.x 16) c.x) (int_eq (divided e.pos.z 16) c.z) a.0 in
    let x = (Decides-int_eq (divided e.pos.x 16) c.x).0 b.0 in
    let z = (Decides-int_eq (divided e.pos.z 16) c.z).0 b.1 in
    let at : chunk_of e.pos ≡ c = λ j. record { x = x j; z = z j } in
    let due : FitsSigned w32 e.due = subst (FitsSigned w32) (less_nothing e.due) i.int_due in
    let low = fits_low e.due due in
    record {
      here = and_from _ _ ((Decides-int_eq c.x (divided e.pos.x 16)).1 (sym x)) ((Decides-int_eq c.z (divided e.pos.z 16)).1 (sym z));
      there = and_from _ _ (ap (has_chunk w.chunks) at ∙ is) a.1;
      holds = record { int_x = i.int_x; int_y = i.int_y; int_z = i.int_z; int_priority = i.int_priority; late = omega (arith, ints); soon = fits_high e.due due };
    }

all_two : {X : Type 0} (P Q R : X → Type 0) (xs : List X) → ((x : X) → P x → Q x → R x) → AllByRecursion P xs → AllByRecursion Q xs → AllByRecursion R xs
all_two P Q R [] h ps qs = tt
all_two P Q R (x ∷ xs) h ps qs = (h x ps.0 qs.0, all_two P Q R xs h ps.1 qs.1)

-- a world of numbers that stands for what was read is good
pub read_is_good : (h : Height) (files : List File) (states : List BlockState) (w : Land ℕ) (r : Rest) → Denotes h files (stated states w) r → ((p : Pos) → w.at p < length states) → ((p : Pos) → is_loaded w p ≡ false → w.at p ≡ 0)
    → Good (length states) (IsTimely 0) w
read_is_good h files states w r d numbers zeros = record {
  numbers = numbers;
  unloaded = zeros;
  none = d.none_elsewhere;
  entries = λ c. entries_at c (has_chunk w.chunks c) refl;
  apart = λ c. apart_at c (has_chunk w.chunks c) refl;
} where
  entries_at : (c : ChunkPos) (b : Bool) → has_chunk w.chunks c ≡ b → AllByRecursion (IsEntryOf (IsTimely 0) (is_loaded w) c) (w.lists c)
  entries_at c true is =
      let doc = document_of h files (stated states w) r d c is in
      let lawful : IsLawful c w.height (stated states w).at (w.lists c) = subst (λ x. IsLawful c x (stated states w).at (w.lists c)) (sym d.height) doc.lawful in
      all_two (λ e. lies_in c w.height e.pos ≡ true) (HasInts 0) (IsEntryOf (IsTimely 0) (is_loaded w) c) (w.lists c) (λ e s i. entry_here w c e is s i) lawful.within doc.ints
  entries_at c false is = subst (λ es. AllByRecursion (IsEntryOf (IsTimely 0) (is_loaded w) c) es) (sym (d.none_elsewhere c is)) tt

  apart_at : (c : ChunkPos) (b : Bool) → has_chunk w.chunks c ≡ b → are_apart (w.lists c) ≡ true
  apart_at c true is = (document_of h files (stated states w) r d c is).lawful.apart
  apart_at c false is = ap are_apart (d.none_elsewhere c is)
