-- Arrays of light, from the tags of a document.
use Rattle.std.proofs.Common.{◌≡◌, ◌∙◌, ℤ, List, ap, sym}
use Rattle.av_tags.specs.Nbt.{Nbt, NamedTag, members_of}
use Rattle.av_tags.specs.Shape.{members_in}
use Rattle.av_tags.proofs.Trees.{members_in_of}
use Rattle.av_map.specs.Light.{array_at, light_array, sections_in}

pub light_from : (tags : List NamedTag) (sections : List Nbt) (y : ℤ) → sections ≡ sections_in tags
    → array_at sections y ≡ light_array (members_in (members_of tags)) y
light_from tags sections y e = ap (λ ts. array_at ts y) e ∙ ap (λ ms. light_array ms y) (sym (members_in_of tags))
