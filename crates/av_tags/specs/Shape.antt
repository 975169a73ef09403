-- What a tag holds, where it is of the type that is wanted.
use Rattle.std.specs.Prelude.{ℕ, ℤ, List, [], ◌∷◌, Option, Some, None, Bool, true, false}
use Rattle.av_types.specs.Options.{◌>>=◌}
use Rattle.av_tags.specs.Nbt.{Nbt, byte, int, text, list, compound, long_array, Items, no_items, item, Members, no_members, member, NamedTag}

abbrev pub members_in : Members → List NamedTag
members_in no_members = []
members_in (member n t ms) = record { name = n; tag = t } ∷ members_in ms

abbrev pub items_in : Items → List Nbt
items_in no_items = []
items_in (item t ts) = t ∷ items_in ts

abbrev pub text_of : Nbt → Option (List ℕ)
text_of (text s) = Some s
text_of _ = None

abbrev pub int_of : Nbt → Option ℤ
int_of (int z) = Some z
int_of _ = None

abbrev pub byte_of : Nbt → Option ℤ
byte_of (byte z) = Some z
byte_of _ = None

abbrev pub longs_of : Nbt → Option (List ℤ)
longs_of (long_array zs) = Some zs
longs_of _ = None

abbrev pub compound_of : Nbt → Option (List NamedTag)
compound_of (compound ms) = Some (members_in ms)
compound_of _ = None

abbrev pub items_of_list : Nbt → Option (List Nbt)
items_of_list (list e ts) = Some (items_in ts)
items_of_list _ = None

-- each of them, where all have the shape
abbrev pub each : {A B : Type 0} → (A → Option B) → List A → Option (List B)
each f [] = Some []
each f (x ∷ xs) = do
  y ← f x
  ys ← each f xs
  Some (y ∷ ys)

-- a List of Compounds, or an empty one
abbrev pub compounds_of : Nbt → Option (List (List NamedTag))
compounds_of t = items_of_list t >>= λ ts. each compound_of ts

abbrev pub lacks : {A : Type 0} → Option A → Bool
lacks None = true
lacks (Some x) = false

-- the value, or another where there is none
abbrev pub or_else : {A : Type 0} → A → Option A → A
or_else d None = d
or_else d (Some x) = x
