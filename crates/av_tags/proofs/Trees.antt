-- A list's items and a compound's members, as trees and as lists.
use Rattle.std.proofs.Common.{◌≡◌, List, [], ◌∷◌, ap, refl}
use Rattle.av_tags.specs.Nbt.{Nbt, NamedTag, items_of, members_of}
use Rattle.av_tags.specs.Shape.{items_in, members_in}

pub items_in_of : (ts : List Nbt) → items_in (items_of ts) ≡ ts
items_in_of [] = refl
items_in_of (t ∷ ts) = ap (λ us. t ∷ us) (items_in_of ts)

pub members_in_of : (ms : List NamedTag) → members_in (members_of ms) ≡ ms
members_in_of [] = refl
members_in_of (m ∷ ms) = ap (λ ns. m ∷ ns) (members_in_of ms)
