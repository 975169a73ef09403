-- Parts found by labels: the label of an entry is the index of the first entry of its part.
use Rattle.std.specs.Prelude.{◌≡◌, ℕ, zero, suc, ◌<◌, ◌≤◌, nat_eq, if◌then◌else◌, List, [], ◌∷◌}
use Rattle.std.specs.List.{filter}
use Rattle.av_play.specs.declared.event.DueEntry.{DueEntry}

-- each label is the index of an entry that has itself as label, at the entry's index or before
abbrev pub AreFirst : ℕ → (ℕ → ℕ) → Type 0
AreFirst count label = (i : ℕ) → i < count → (label i ≤ i) × (label (label i) ≡ label i)

-- how many entries before an index are first in their part
abbrev pub rank : (ℕ → ℕ) → ℕ → ℕ
rank label zero = zero
rank label (suc i) = if nat_eq (label i) i then suc (rank label i) else rank label i

abbrev pub grouped : (ℕ → ℕ) → List DueEntry → (from count : ℕ) → List (List DueEntry)
grouped part_of all from zero = []
grouped part_of all from (suc count) = filter (λ x. nat_eq (part_of x.index) from) all ∷ grouped part_of all (suc from) count
