-- The tags of block states and of scheduled ticks that were written have a spelling.
use Rattle.std.proofs.Common.{◌≡◌, ℕ, zero, suc, ◌+◌, ◌*◌, ◌/◌, ◌<◌, ◌≤◌, ◌^◌, List, [], ◌∷◌, pos, w64, Bool, true, false, map, length, take, drop, refl, sym, ap, subst, arith, lit<, ◌-ℤ◌}
use Rattle.std.specs.Prelude.{FitsSigned, All}
use Rattle.std.specs.List.{AllByRecursion, IsDistinct, list_all, range_with_len}
use Rattle.std.specs.Str.{bytes_eq}
use Rattle.std.proofs.Math.Facts.{sfits_to_z}
use Rattle.std.proofs.Math.Nat.{div-le_self, mul-le-mul_left, mul-div-le, pow-le-pow_right}
use Rattle.std.proofs.lemmas.Bool.{and_parts, ltb-true}
use Rattle.std.proofs.lemmas.List.{length-take, length-map}
use Rattle.std.proofs.lemmas.List.Elements.{All-take, All-drop}
use Rattle.av_types.specs.declared.tick.Entry.{Entry}
use Rattle.av_tags.specs.Nbt.{text, members_of, LacksMember, HaveDistinctNames}
use Rattle.av_state.specs.BlockState.{BlockState, Property, is_short, is_short_property, is_storable}
use Rattle.av_state.proofs.Storable.{storable-name, storable-properties, storable-distinct}
use Rattle.av_section.specs.Palette.{name_key, properties_key, property_tag, properties_tags, state_tag}
use Rattle.av_pack.specs.Packing.{longs_for, packed, packed_long, low_first}
use Rattle.av_pack.proofs.LowFirst.{low_first-lt}
use Rattle.av_document.specs.Layout.{compound_with, compounds, fluid_name, entry_layout}
use Rattle.av_document.specs.Law.{IsMeant, HasInts}
use Rattle.av_document.proofs.Good.{IsGood, IsGoodNamed, AreGood, text_good, int_good, compound_good, compounds_good}
use Rattle.av_document.proofs.GoodNames.{differs, distinct_from}
use Rattle.av_document.proofs.WrittenPalette.{state_tags}

-- ---- states

short_text : (s : List ℕ) → is_short s ≡ true → length s < 2 ^ 16
short_text s h = ltb-true (length s) 65536 h

property_tags_good : (k : ℕ) (ps : List Property) → list_all is_short_property ps ≡ true → AllByRecursion (IsGoodNamed k) (map property_tag ps)
property_tags_good k [] h = tt
property_tags_good k (p ∷ ps) h =
    let (first, more) = and_parts (is_short_property p) (list_all is_short_property ps) h in
    let (key, value) = and_parts (is_short p.key) (is_short p.value) first in
    (record { short = short_text p.key key; good = text_good k p.value (short_text p.value value) }, property_tags_good k ps more)

key_absent : (key : List ℕ) (ps : List Property) → AllByRecursion (λ other. bytes_eq key other ≡ false) (map (λ p. p.key) ps) → LacksMember key (members_of (map property_tag ps))
key_absent key [] h = tt
key_absent key (p ∷ ps) h = (differs key p.key h.0, key_absent key ps h.1)

property_tags_distinct : (ps : List Property) → IsDistinct bytes_eq (map (λ p. p.key) ps) → HaveDistinctNames (members_of (map property_tag ps))
unfolding IsDistinct
property_tags_distinct [] h = tt
property_tags_distinct (p ∷ ps) h = (key_absent p.key ps h.0, property_tags_distinct ps h.1)

name_short : length name_key < 2 ^ 16
name_short = lit< tt

properties_short : length properties_key < 2 ^ 16
properties_short = lit< tt

pub state_tags_good : (k : ℕ) (s : BlockState) → is_storable s ≡ true → AreGood (suc k) (state_tags s)
state_tags_good k s h = by s.properties (storable-properties s h) (storable-distinct s h) where
  first : IsGoodNamed (suc k) (record { name = name_key; tag = text s.name })
  first = record { short = name_short; good = text_good (suc k) s.name (short_text s.name (storable-name s h)) }

  by : (ps : List Property) → list_all is_short_property ps ≡ true → IsDistinct bytes_eq (map (λ p. p.key) ps) → AreGood (suc k) (record { name = name_key; tag = text s.name } ∷ properties_tags ps)
  by [] short distinct = record { each_good = (first, tt); distinct = (tt, tt) }
  by (p ∷ ps) short distinct = record {
    each_good = (first, (record { short = properties_short; good = compound_good k (map property_tag (p ∷ ps)) (record { each_good = property_tags_good k (p ∷ ps) short; distinct = property_tags_distinct (p ∷ ps) distinct }) }, tt));
    distinct = ((differs name_key properties_key refl, tt), (tt, tt));
  }

all_state_tags : (k : ℕ) (palette : List BlockState) → AllByRecursion IsMeant palette → AllByRecursion (AreGood (suc k)) (map state_tags palette)
all_state_tags k [] h = tt
all_state_tags k (s ∷ palette) h = (state_tags_good k s h.0.storable, all_state_tags k palette h.1)

-- the List of a palette
pub same_rows : (palette : List BlockState) → map state_tag palette ≡ map compound_with (map state_tags palette)
same_rows [] = refl
same_rows (s ∷ palette) = ap (λ l. state_tag s ∷ l) (same_rows palette)

pub palette_good : (k : ℕ) (palette : List BlockState) → AllByRecursion IsMeant palette → length palette < 2 ^ 31 → IsGood (suc (suc (suc k))) (compounds (map state_tags palette))
palette_good k palette h few = compounds_good (suc k) (map state_tags palette) (subst (λ n. n < 2 ^ 31) (sym (length-map palette state_tags)) few) (all_state_tags k palette h)

-- ---- longs

long_fits : (b : ℕ) (ns : List ℕ) (j : ℕ) → All (λ n. n < 2 ^ b) ns → FitsSigned w64 (packed_long b ns j)
long_fits b ns j fit =
    let g : List ℕ = take (64 / b) (drop (64 / b * j) ns) in
    let fits : All (λ n. n < 2 ^ b) (take (64 / b) (drop (64 / b * j) ns)) = All-take (λ n. n < 2 ^ b) (64 / b) (drop (64 / b * j) ns) (All-drop (λ n. n < 2 ^ b) (64 / b * j) ns fit) in
    let lt : low_first b (take (64 / b) (drop (64 / b * j) ns)) < 2 ^ (b * length (take (64 / b) (drop (64 / b * j) ns))) = low_first-lt b (take (64 / b) (drop (64 / b * j) ns)) fits in
    let few : length (take (64 / b) (drop (64 / b * j) ns)) ≤ 64 / b = omega (arith, length-take (64 / b) (drop (64 / b * j) ns)) in
    let up : b * length (take (64 / b) (drop (64 / b * j) ns)) ≤ b * (64 / b) = mul-le-mul_left b few in
    let whole : b * (64 / b) ≤ 64 = mul-div-le 64 b in
    let all : b * length (take (64 / b) (drop (64 / b * j) ns)) ≤ 64 = omega arith in
    let mono : 2 ^ (b * length (take (64 / b) (drop (64 / b * j) ns))) ≤ 2 ^ 64 = pow-le-pow_right (omega arith) all in
    let below : low_first b (take (64 / b) (drop (64 / b * j) ns)) < 2 ^ 64 = omega arith in
    sfits_to_z {w = w64} {n = low_first b (take (64 / b) (drop (64 / b * j) ns))} (record { fits = below })

each_from : {X : Type 0} (P : X → Type 0) (f : ℕ → X) (a n : ℕ) → ((i : ℕ) → P (f i)) → AllByRecursion P (map f (range_with_len a n))
each_from P f a zero h = tt
each_from P f a (suc n) h = (h a, each_from P f (a + 1) n h)

pub longs_fit : (b : ℕ) (ns : List ℕ) → All (λ n. n < 2 ^ b) ns → AllByRecursion (FitsSigned w64) (packed b ns)
unfolding packed
longs_fit b ns fit = each_from (FitsSigned w64) (packed_long b ns) 0 (longs_for b) (λ j. long_fits b ns j fit)

pub few_longs : (b : ℕ) → longs_for b ≤ 4097
unfolding longs_for
few_longs b = omega (arith, div-le_self 4096 (64 / b))

-- ---- scheduled ticks

fluid_short : (source : Bool) → length (fluid_name source) < 2 ^ 16
fluid_short true = lit< tt
fluid_short false = lit< tt

pub entry_tags_good : (k : ℕ) (source : Bool) (n : ℕ) (e : Entry) → HasInts n e → AreGood k (entry_layout source n e)
entry_tags_good k source n e h = record {
  each_good = (
    record { short = lit< tt; good = text_good k (fluid_name source) (fluid_short source) },
    (
      record { short = lit< tt; good = int_good k e.pos.x h.int_x },
      (
        record { short = lit< tt; good = int_good k e.pos.y h.int_y },
        (
          record { short = lit< tt; good = int_good k e.pos.z h.int_z },
          (
            record { short = lit< tt; good = int_good k (e.due -ℤ pos n) h.int_due },
            (record { short = lit< tt; good = int_good k e.priority h.int_priority }, tt),
          ),
        ),
      ),
    ),
  );
  distinct = distinct_from (entry_layout source n e) refl;
}
