-- Working definitions. No public clause cites them.
-- The first row of each bucket of names.
use Rattle.std.specs.Prelude.{◌≡◌, ℕ, List, ◌+◌, ◌-◌, ◌*◌, ◌/◌, ◌%◌, ◌^◌, ◌==◌, min, length, take, fold, bit_and, slice_index, EachIndex}
use Rattle.std.specs.List.{position_or_len}
use Rattle.av_rules.specs.Rows.{TableRow}

-- a hash of a name, by its first 64 bytes
abbrev pub hash_of : List ℕ → ℕ
hash_of name = fold (λ hash byte. (hash + byte) * 11400714819323198485 % 2 ^ 64) 0 (take 64 name)

-- the bucket of a name, of so many
abbrev pub bucket_of : ℕ → List ℕ → ℕ
bucket_of count name = bit_and (hash_of name / 2 ^ 32) (count - 1)

-- the head of a name's bucket
abbrev pub head_for : List ℕ → List ℕ → ℕ
head_for heads name = slice_index heads (bucket_of (length heads) name)

-- the first of the rows whose name falls into bucket b, or how many rows there are, as 32 bits hold it
abbrev pub first_in : ℕ → ℕ → List TableRow → ℕ
first_in count b rows = min (position_or_len (λ t. bucket_of count t.name == b) rows) (2 ^ 32 - 1)

-- each bucket has its first row
abbrev pub AreFirstRows : List TableRow → List ℕ → Type 0
AreFirstRows rows heads = EachIndex heads (λ b. slice_index heads b ≡ first_in (length heads) b rows)
