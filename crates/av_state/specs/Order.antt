-- Working definitions. No public clause cites them.
-- An order of all states, by which a table finds one: by a fingerprint of its texts, and by the texts where that is equal.
use Rattle.std.specs.Prelude.{ℕ, List, [], ◌∷◌}
use Rattle.std.specs.List.{fold}
use Rattle.std.specs.Cmp.Lexicographic.{slice_cmp}
use Rattle.std.specs.Ordering.{nat_cmp, ordering_then}
use Rattle.std.specs.declared.cmp.Ordering.{Ordering}
use Rattle.std.specs.Hash.FoldHasher as hasher
use Rattle.av_state.specs.BlockState.{Property, BlockState}

-- the keys and values one after the other
abbrev pub all_texts : List Property → List (List ℕ)
all_texts [] = []
all_texts (p ∷ ps) = p.key ∷ p.value ∷ all_texts ps

-- what a hasher makes of texts that are written to it
abbrev pub hash_of : List (List ℕ) → ℕ
hash_of texts = hasher.finish (fold hasher.write hasher.initial texts)

abbrev pub fingerprint_of : BlockState → ℕ
fingerprint_of s = hash_of (s.name ∷ all_texts s.properties)

-- by the bytes of the key, then of the value
abbrev pub property_cmp : Property → Property → Ordering
property_cmp p q = ordering_then (slice_cmp nat_cmp p.key q.key) (slice_cmp nat_cmp p.value q.value)

-- by the bytes of the name, then by the properties
abbrev pub texts_cmp : BlockState → BlockState → Ordering
texts_cmp s t = ordering_then (slice_cmp nat_cmp s.name t.name) (slice_cmp property_cmp s.properties t.properties)

abbrev pub state_cmp : BlockState → BlockState → Ordering
state_cmp s t = ordering_then (nat_cmp (fingerprint_of s) (fingerprint_of t)) (texts_cmp s t)
