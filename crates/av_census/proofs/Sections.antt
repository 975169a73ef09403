-- The blocks of sections, counted one after the other.
use Rattle.std.proofs.Common.{◌≡◌, ℕ, ◌+◌, ◌<◌, ◌≤◌, List, [], ◌∷◌, length, replicate, slice_index, length-set, ◌==◌, true, ℤ, Option, None, refl, sym, ap, ◌∙◌, subst, arith}
use Rattle.std.specs.Prelude.{slice_index_or, slice_set}
use Rattle.std.proofs.lemmas.Bool.Decides.{Decides-eqb}
use Rattle.av_pack.specs.Packing.{packed_at}
use Rattle.av_state.specs.BlockState.{BlockState, air}
use Rattle.av_state.specs.StateList.{same_state}
use Rattle.av_section.specs.Section.{number_at, section_states, AreParts}
use Rattle.av_section.specs.declared.section.Section.{Section}
use Rattle.av_census.specs.Census.{times}
use Rattle.av_census.specs.Counting.{weighed, first_places, CountsMore, slot_states, slots_states, AreSlotCounts}
use Rattle.av_census.proofs.Weighing.{when, weighed-raised, raised-le, weighed-zeros, zeros-le, times-place, times-same, times-joined, joined-none}

add_up : (a b c d e x : ℕ) → a ≡ b + x → b ≡ c + d → e ≡ d + x → a ≡ c + e
add_up a b c d e x f g h = omega (arith, f, g, h)

add_same : (a b d e x : ℕ) → a ≡ b + x → b ≡ d → e ≡ d + x → a ≡ e
add_same a b d e x f g h = omega (arith, f, g, h)

add_none : (n : ℕ) → n ≡ n + 0
add_none n = omega arith

pub counts-none : (old : List ℕ) (s : Section) → CountsMore old old (λ table. first_places table s 0) 0
counts-none old s = record {
  long = refl;
  bound = λ k. omega arith;
  counts = λ table t e. add_none (weighed t table old);
}

-- one more place
pub counts-next : (old now new : List ℕ) (s : Section) (n : ℕ) → CountsMore old now (λ table. first_places table s n) n → number_at s n < length now
    → new ≡ slice_set now (number_at s n) (slice_index now (number_at s n) + 1) → CountsMore old new (λ table. first_places table s (n + 1)) (n + 1)
counts-next old now new s n before low is =
    let m = number_at s n in
    let same_length : length new ≡ length now = ap (λ (xs : List ℕ). length xs) is ∙ length-set now m (slice_index now m + 1) in
    record {
      long = same_length ∙ before.long;
      bound = λ k.
          let one : slice_index new k ≤ slice_index now k + 1 = subst (λ (xs : List ℕ). slice_index xs k ≤ slice_index now k + 1) (sym is) (raised-le now m 1 k) in
          let most = before.bound k in
          omega (arith, one, most);
      counts = λ table t e.
          let fits : length table ≡ length now = e ∙ sym before.long in
          let f : ℕ → BlockState = λ i. slice_index_or table (number_at s i) air in
          add_up (weighed t table new) (weighed t table now) (weighed t table old) (times t (first_places table s n)) (times t (first_places table s (n + 1))) (when (same_state t (f n)) 1)
          (ap (weighed t table) is ∙ weighed-raised t table now m 1 low fits) (before.counts table t e) (times-place t f n);
    }

-- all places at once
pub counts-same : (old new : List ℕ) (s : Section) (m : ℕ) → ((i : ℕ) → i < 4096 → number_at s i ≡ m) → m < length old → new ≡ slice_set old m (slice_index old m + 4096)
    → CountsMore old new (λ table. first_places table s 4096) 4096
counts-same old new s m all low is = record {
  long = ap (λ (xs : List ℕ). length xs) is ∙ length-set old m (slice_index old m + 4096);
  bound = λ k. subst (λ (xs : List ℕ). slice_index xs k ≤ slice_index old k + 4096) (sym is) (raised-le old m 4096 k);
  counts = λ table t e.
      ap (weighed t table) is ∙ weighed-raised t table old m 4096 low e
      ∙ ap (λ n. weighed t table old + n) (sym (times-same t (slice_index_or table m air) (λ i. slice_index_or table (number_at s i) air) 4096 (λ i h. ap (λ n. slice_index_or table n air) (all i h))));
}

pub counts-section : (old new : List ℕ) (s : Section) → CountsMore old new (λ table. first_places table s 4096) 4096 → CountsMore old new (λ table. section_states table s) 4096
unfolding section_states
counts-section old new s h = record { long = h.long; bound = h.bound; counts = h.counts }

pub counts-nothing : (old : List ℕ) → CountsMore old old (λ table. slot_states table None) 4096
counts-nothing old = record {
  long = refl;
  bound = λ k. omega arith;
  counts = λ table t e. add_none (weighed t table old);
}

-- ---- sections

pub slots-none : (slots : List (Option Section)) (count : ℕ) (counts : List ℕ) → counts ≡ replicate count 0 → length counts ≡ count → AreSlotCounts slots count 0 counts
slots-none slots count counts is long = record {
  long = long;
  bound = λ k.
      let none : slice_index counts k ≤ 0 = subst (λ (xs : List ℕ). slice_index xs k ≤ 0) (sym is) (zeros-le count k) in
      omega (arith, none);
  each = λ table s e. ap (weighed s table) is ∙ weighed-zeros s table count ∙ sym (ap (times s) (joined-none (λ k. slot_states table (slice_index_or slots k None))));
}

pub slots-next : (slots : List (Option Section)) (count n : ℕ) (now new : List ℕ) → AreSlotCounts slots count n now → CountsMore now new (λ table. slot_states table (slice_index_or slots n None)) 4096
    → AreSlotCounts slots count (n + 1) new
slots-next slots count n now new before more = record {
  long = more.long ∙ before.long;
  bound = λ k.
      let one = more.bound k in
      let most = before.bound k in
      omega (arith, one, most);
  each = λ table s e.
      add_same (weighed s table new) (weighed s table now) (times s (slots_states table slots n)) (times s (slots_states table slots (n + 1))) (times s (slot_states table (slice_index_or slots n None)))
      (more.counts table s (e ∙ sym before.long)) (before.each table s e) (times-joined s (λ k. slot_states table (slice_index_or slots k None)) n);
}

-- ---- a section of one state

no_longs : (xs : List ℤ) → (length xs == 0) ≡ true → xs ≡ []
no_longs [] h = refl
no_longs (x ∷ xs) h =
    let e : length (x ∷ xs) ≡ 0 = (Decides-eqb (length (x ∷ xs)) 0).0 h in
    absurd (omega (arith, e))

pub has_entry : (s : Section) (palette : List ℕ) (longs : List ℤ) (bits : ℕ) → AreParts s palette longs bits → 0 < length palette
has_entry s palette longs bits parts =
    let first = parts.packed.below 0 (omega arith) in
    omega (arith, first)

pub one_number : (s : Section) (palette : List ℕ) (longs : List ℤ) (bits : ℕ) → AreParts s palette longs bits → (length longs == 0) ≡ true → (i : ℕ) → i < 4096 → number_at s i ≡ slice_index palette 0
one_number s palette longs bits parts none i low =
    let one : length palette ≡ 1 = parts.packed.one (no_longs longs none) in
    let within = parts.packed.below i low in
    let zero : packed_at bits longs i ≡ 0 = omega (arith, one, within) in
    parts.numbers i low ∙ ap (slice_index palette) zero
