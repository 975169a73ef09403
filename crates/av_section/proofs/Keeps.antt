-- Steps that keep all places.
use Rattle.std.proofs.Common.{◌∙◌, refl}
use Rattle.av_section.specs.declared.section.Section.{Section}
use Rattle.av_section.specs.Section.{KeepsPlaces}

pub KeepsPlaces-refl : (s : Section) → KeepsPlaces s s
KeepsPlaces-refl s = record { numbers = λ i. refl; pending = λ i. refl; prepared = λ n h. h }

pub KeepsPlaces-trans : (a b c : Section) → KeepsPlaces a b → KeepsPlaces b c → KeepsPlaces a c
KeepsPlaces-trans a b c h g = record { numbers = λ i. g.numbers i ∙ h.numbers i; pending = λ i. g.pending i ∙ h.pending i; prepared = λ n x. g.prepared n (h.prepared n x) }
