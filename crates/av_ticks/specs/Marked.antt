-- Working definitions: a set of positions as sets of places, one for each section. No public clause cites them.
use Rattle.std.specs.Prelude.{ℕ, Bool, false, Option, None, Some}
use Rattle.std.specs.BTreeMap.{BTreeMap, get}
use Rattle.std.specs.Ordering.{int_cmp, ordering_then}
use Rattle.std.specs.declared.cmp.Ordering.{Ordering}
use Rattle.av_pack.specs.Places.{has_place}
use Rattle.av_pack.specs.declared.places.PlaceSet.{PlaceSet}
use Rattle.av_types.specs.Positions.{section_of}
use Rattle.av_types.specs.declared.position.Pos.{Pos}
use Rattle.av_ticks.specs.declared.positions.SectionKey.{SectionKey}

-- the key of the section that a block lies in
abbrev pub key_of : Pos → SectionKey
key_of p = record { y = (section_of p).y; x = (section_of p).x; z = (section_of p).z }

-- the order of keys
abbrev pub key_cmp : SectionKey → SectionKey → Ordering
key_cmp a b = ordering_then (int_cmp a.y b.y) (ordering_then (int_cmp a.x b.x) (int_cmp a.z b.z))

-- a place is in a set that may be there
abbrev pub is_marked : ℕ → Option PlaceSet → Bool
is_marked i None = false
is_marked i (Some set) = has_place set i

-- a place of a section is marked
abbrev pub marked_in : BTreeMap SectionKey PlaceSet → SectionKey → ℕ → Bool
marked_in sections k i = is_marked i (get key_cmp sections k)
