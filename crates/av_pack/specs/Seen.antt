-- Working definitions: how far numbers came in the order of their first use.
use Rattle.std.specs.Prelude.{ℕ, ◌+◌, ◌==◌, nat_lt, List, [], ◌∷◌, if◌then◌else◌}

-- Below which number all came, once n came after those below `next`: 65,537 where n is neither one of those nor `next`.
abbrev pub seen_with : ℕ → ℕ → ℕ
seen_with next n = if n == next then next + 1 else (if nat_lt n next then next else 65537)

-- the same once all of these came, in order
abbrev pub seen_after : ℕ → List ℕ → ℕ
seen_after next [] = next
seen_after next (n ∷ ns) = seen_after (seen_with next n) ns
