-- The numbers of a column's blocks are those of its list.
use Rattle.std.proofs.Common.{◌≡◌, ◌↔◌, ℕ, zero, suc, ◌*◌, ◌<◌, nat_lt, ℤ, List, [], ◌∷◌, length, slice_index, replicate, Bool, true, false, cond, IsTrue, refl, sym, ap, ◌∙◌, subst, arith}
use Rattle.std.specs.List.{list_all}
use Rattle.std.proofs.lemmas.Bool.{and_parts, true≢false, ltb-true, and_from, lt-ltb}
use Rattle.std.proofs.lemmas.List.{length-replicate}
use Rattle.av_types.specs.declared.position.Pos.{Pos}
use Rattle.av_cells.specs.Rule.{HasKinds}
use Rattle.av_column.specs.Columns.{is_there, slot, world_of}
use Rattle.av_column.specs.Limits.{there_of}
use Rattle.av_column.proofs.Slots.{slot_within, block_at, slot_of_block, block_is_there}

all_have_kinds : (bottom : ℤ) (layers : ℕ) (numbers : List ℕ) (waiting : List Bool) (count : ℕ) → length numbers ≡ 256 * layers
    → ((k : ℕ) → k < length numbers → slice_index numbers k < count) → HasKinds count (world_of bottom layers numbers waiting)
all_have_kinds bottom layers numbers waiting count long h = λ p there. by p (is_there bottom layers p) refl there where
  by : (p : Pos) (b : Bool) → is_there bottom layers p ≡ b → b ≡ true → cond b (slice_index numbers (slot bottom p)) 0 < count
  by p true e t = h (slot bottom p) (let a = slot_within bottom layers p (there_of bottom layers p e) in omega (arith, a, long))
  by p false e t = absurd (true≢false (sym t))

replicate_below : (n k count i : ℕ) → n < k → i < length (replicate count n) → slice_index (replicate count n) i < k
replicate_below n k zero i h l = absurd (omega arith)
replicate_below n k (suc count) zero h l = h
replicate_below n k (suc count) (suc i) h l = replicate_below n k count i h (omega arith)

pub filled_has_kinds : (bottom : ℤ) (layers : ℕ) (numbers : List ℕ) (waiting : List Bool) (n k : ℕ) → numbers ≡ replicate (256 * layers) n → n < k → HasKinds k (world_of bottom layers numbers waiting)
filled_has_kinds bottom layers numbers waiting n k is h =
    all_have_kinds bottom layers numbers waiting k (ap length is ∙ length-replicate (256 * layers) n)
    (subst (λ xs. (i : ℕ) → i < length xs → slice_index xs i < k) (sym is) (λ i l. replicate_below n k (256 * layers) i h l))

numbers_have : (bottom : ℤ) (layers : ℕ) (numbers : List ℕ) (waiting : List Bool) (count : ℕ) → length numbers ≡ 256 * layers
    → HasKinds count (world_of bottom layers numbers waiting) → (i : ℕ) → i < length numbers → slice_index numbers i < count
numbers_have bottom layers numbers waiting count long h i less =
    let p = block_at bottom i in
    let there : is_there bottom layers p ≡ true = block_is_there bottom layers i (omega (arith, long, less)) in
    subst (λ j. slice_index numbers j < count) (slot_of_block bottom i)
    (subst (λ b. cond b (slice_index numbers (slot bottom p)) 0 < count) there (h p there))

below_each : (count : ℕ) (xs : List ℕ) → list_all (λ n. nat_lt n count) xs ≡ true → (i : ℕ) → i < length xs → slice_index xs i < count
below_each count [] h i less = absurd (omega arith)
below_each count (x ∷ xs) h zero less = ltb-true x count (and_parts (nat_lt x count) (list_all (λ n. nat_lt n count) xs) h).0
below_each count (x ∷ xs) h (suc i) less = below_each count xs (and_parts (nat_lt x count) (list_all (λ n. nat_lt n count) xs) h).1 i (omega arith)

below_all : (count : ℕ) (xs : List ℕ) → ((i : ℕ) → i < length xs → slice_index xs i < count) → list_all (λ n. nat_lt n count) xs ≡ true
below_all count [] h = refl
below_all count (x ∷ xs) h = and_from (nat_lt x count) (list_all (λ n. nat_lt n count) xs) (lt-ltb x count (h zero (omega arith))) (below_all count xs (λ i less. h (suc i) (omega arith)))

-- each number of the list is below a count exactly where each block's number is
pub below_is_kinds : (bottom : ℤ) (layers : ℕ) (numbers : List ℕ) (waiting : List Bool) (count : ℕ) (xs : List ℕ) (n : ℕ) (b : Bool) → length numbers ≡ 256 * layers
    → xs ≡ numbers → n ≡ count → b ≡ list_all (λ m. nat_lt m n) xs → IsTrue b ↔ HasKinds count (world_of bottom layers numbers waiting)
below_is_kinds bottom layers numbers waiting count xs n b long same_list same_count is =
    let all : b ≡ list_all (λ m. nat_lt m count) numbers = is ∙ (λ i. list_all (λ m. nat_lt m (same_count i)) (same_list i)) in (
      λ h. all_have_kinds bottom layers numbers waiting count long (below_each count numbers (sym all ∙ h)),
      λ h. all ∙ below_all count numbers (numbers_have bottom layers numbers waiting count long h),
    )
