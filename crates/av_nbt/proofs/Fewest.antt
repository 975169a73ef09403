-- What a tag takes at least.
use Rattle.std.proofs.Common.{◌≡◌, ℕ, ◌<◌, ◌≤◌, ◌^◌, ◌/◌, List, length, nat_lt, refl, sym, ap, arith, inl, inr, length-append}
use Rattle.std.specs.Prelude.{if◌then◌else◌}
use Rattle.std.proofs.Math.Nat.{div-eq_of_lt, pow-le-pow_right}
use Rattle.std.proofs.lemmas.Bool.{cases_lt, lt-ltb, le-ltb}
use Rattle.av_tags.specs.Nbt.{Nbt, byte, int16, int, int64, bits32, bits64, byte_array, text, list, compound, int_array, long_array, no_members, member, tag_type_of}
use Rattle.av_nbt.specs.Spelling.{Spells}
use Rattle.av_nbt.specs.Room.{least_size}

pub fewest : (t : Nbt) (bytes : List ℕ) → Spells t bytes → least_size (tag_type_of t) ≤ length bytes
fewest (byte z) bytes h = omega (arith, ap length h.is)
fewest (int16 z) bytes h = omega (arith, ap length h.is)
fewest (int z) bytes h = omega (arith, ap length h.is)
fewest (int64 z) bytes h = omega (arith, ap length h.is)
fewest (bits32 n) bytes h = omega (arith, ap length h.1)
fewest (bits64 n) bytes h = omega (arith, ap length h.1)
fewest (byte_array s) bytes (len, parts, h) = omega (arith, ap length parts, length-append len s, ap length h.is)
fewest (text s) bytes h = omega (arith, ap length h.is)
fewest (list e ts) bytes (size, len, rest, parts, h, count, tag_types, items) = omega (arith, ap length parts, length-append len rest, ap length h.is)
fewest (compound no_members) bytes (distinct, h) = omega (arith, ap length h)
fewest (compound (member n t ms)) bytes (distinct, (name, front, rest, parts, named, tag, h)) = omega (arith, ap length parts)
fewest (int_array zs) bytes (len, rest, parts, h, numbers) = omega (arith, ap length parts, length-append len rest, ap length h.is)
fewest (long_array zs) bytes (len, rest, parts, h, numbers) = omega (arith, ap length parts, length-append len rest, ap length h.is)

-- what is left of a number that is halved so many times
pub halved : (left nesting : ℕ) → left < 2 ^ 64 → (if nat_lt nesting 64 then left / 2 ^ nesting else 0) ≡ left / 2 ^ nesting
halved left nesting small = elim (cases_lt nesting 64) [
  | inl few ↦ rw (lt-ltb nesting 64 few) refl
  | inr many ↦ (let two : 0 < 2 = omega arith in let enough : 2 ^ 64 ≤ 2 ^ nesting = pow-le-pow_right two many in rw (le-ltb nesting 64 many) (sym (div-eq_of_lt (omega (arith, small, enough)))))
]
