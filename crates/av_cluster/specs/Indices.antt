-- A list of sections by their keys, and where each stands, by slots and by a tree.
-- Working definitions. No public clause cites them.
use Rattle.std.specs.Prelude.{◌≡◌, ℕ, zero, suc, ℤ, ◌<◌, ◌≤◌, ◌+◌, ◌*◌, ◌%◌, if◌then◌else◌, List, Option, None, Some, false, length, All, AllPairs, slice_get, slice_index, slice_index_or}
use Rattle.std.specs.Int.{w32, cast_unsigned}
use Rattle.std.specs.Map.{keys_of, lookup}
use Rattle.std.specs.declared.cmp.Ordering.{Ordering}
use Rattle.std.specs.Ordering.{int_cmp, ordering_then}
use Rattle.av_cluster.specs.Joining.{same_key}

-- the order of keys: by x, then y, then z
abbrev pub key_cmp : ℤ × ℤ × ℤ → ℤ × ℤ × ℤ → Ordering
key_cmp a b = ordering_then (ordering_then (int_cmp a.0 b.0) (int_cmp a.1 b.1)) (int_cmp a.2 b.2)

-- no key is there twice, and of each it is said where it stands, or that it does not
pub record AreIndexed (index_of : ℤ × ℤ × ℤ → Option ℕ) (entries : List ((ℤ × ℤ × ℤ) × ℕ)) : Type 0 where
  pub distinct : AllPairs (λ a b. same_key a b ≡ false) (keys_of entries)
  pub found : (k : ℤ × ℤ × ℤ) (i : ℕ) → index_of k ≡ Some i → slice_get (keys_of entries) i ≡ Some k
  pub missing : (k : ℤ × ℤ × ℤ) → index_of k ≡ None → lookup (same_key k) entries ≡ None

-- the slot of a key, among so many
abbrev pub slot_of : ℕ → ℤ × ℤ × ℤ → ℕ
slot_of count k = (cast_unsigned w32 k.0 + cast_unsigned w32 k.2 * 64 + cast_unsigned w32 k.1 * 4096) % count

-- where a key stands, by what its slot holds: 0, or one more than where the first key of the slot stands
abbrev pub index_by : ℕ → List (ℤ × ℤ × ℤ) → (ℤ × ℤ × ℤ → Option ℕ) → ℤ × ℤ × ℤ → Option ℕ
index_by zero keys others k = None
index_by (suc i) keys others k = if same_key k (slice_index_or keys i k) then Some i else others k

abbrev pub index_in : List ℕ → List (ℤ × ℤ × ℤ) → (ℤ × ℤ × ℤ → Option ℕ) → ℤ × ℤ × ℤ → Option ℕ
index_in slots keys others k = index_by (slice_index slots (slot_of (length slots) k)) keys others k

-- there is a slot, each holds an index of the entries, and no key of an empty one stands elsewhere
pub record AreSlots (slots : List ℕ) (others : ℤ × ℤ × ℤ → Option ℕ) (entries : List ((ℤ × ℤ × ℤ) × ℕ)) : Type 0 where
  pub some : 0 < length slots
  pub within : All (λ n. n ≤ length entries) slots
  pub free : (k : ℤ × ℤ × ℤ) → slice_index slots (slot_of (length slots) k) ≡ 0 → others k ≡ None
  pub indexed : AreIndexed (index_in slots (keys_of entries) others) entries
