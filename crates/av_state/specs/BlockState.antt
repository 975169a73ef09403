-- Block states, water among them (minecraft.wiki, "Block states", "Chunk format" and "Water").
use Rattle.std.specs.Prelude.{ℕ, ◌-◌, List, [], ◌∷◌, Option, Some, None, Bool, true, false, ◌&&◌, if◌then◌else◌, option_map, codes, nat_lt, ◌==◌, get_or, suc, length}
use Rattle.std.specs.List.{list_all}
use Rattle.std.specs.Str.{bytes_eq}
use Rattle.std.specs.Cmp.Lexicographic.{slice_cmp}
use Rattle.std.specs.Ordering.{is_lt, nat_cmp}
use Rattle.av_types.specs.declared.water.Wet.{Wet}
use Rattle.av_types.specs.declared.water.Wet.TheVariants.{Dry, Source, Flow, Falling}

-- Texts are lists of bytes.
pub record Property : Type 0 where
  pub key : List ℕ
  pub value : List ℕ

-- a name, and properties whose keys rise
pub record BlockState : Type 0 where
  pub name : List ℕ
  pub properties : List Property

abbrev pub air_name : List ℕ
air_name = codes "minecraft:air"

abbrev pub water_name : List ℕ
water_name = codes "minecraft:water"

abbrev pub level_key : List ℕ
level_key = codes "level"

abbrev pub air : BlockState
air = record { name = air_name; properties = [] }

-- the texts of the levels 0 to 15
abbrev pub level_texts : List (List ℕ)
level_texts = codes "0" ∷ codes "1" ∷ codes "2" ∷ codes "3" ∷ codes "4" ∷ codes "5" ∷ codes "6" ∷ codes "7" ∷ codes "8" ∷ codes "9" ∷ codes "10" ∷ codes "11" ∷ codes "12" ∷ codes "13" ∷ codes "14" ∷ codes "15" ∷ []

abbrev pub level_property : ℕ → Property
level_property level = record { key = level_key; value = get_or level_texts level [] }

abbrev pub water : ℕ → BlockState
water level = record { name = water_name; properties = level_property level ∷ [] }

-- one more property, in the byte order of the keys
abbrev pub insert_property : Property → List Property → List Property
insert_property p [] = p ∷ []
insert_property p (q ∷ qs) = if is_lt (slice_cmp nat_cmp q.key p.key) then q ∷ insert_property p qs else p ∷ q ∷ qs

-- the properties in the byte order of their keys
abbrev pub in_order : List Property → List Property
in_order [] = []
in_order (p ∷ ps) = insert_property p (in_order ps)

-- no key is below the one before it
abbrev pub starts_at_or_above : List ℕ → List Property → Bool
starts_at_or_above k [] = true
starts_at_or_above k (p ∷ ps) = if is_lt (slice_cmp nat_cmp p.key k) then false else true

abbrev pub is_in_order : List Property → Bool
is_in_order [] = true
is_in_order (p ∷ ps) = starts_at_or_above p.key ps && is_in_order ps

-- the text's length fits the two bytes that a file has for it
abbrev pub is_short : List ℕ → Bool
is_short s = nat_lt (length s) 65536

abbrev pub is_short_property : Property → Bool
is_short_property p = is_short p.key && is_short p.value

-- the first key is above this one
abbrev pub starts_above : List ℕ → List Property → Bool
starts_above k [] = true
starts_above k (p ∷ ps) = is_lt (slice_cmp nat_cmp k p.key)

-- each key is above the one before it, so that none is there twice
abbrev pub keys_rise : List Property → Bool
keys_rise [] = true
keys_rise (p ∷ ps) = starts_above p.key ps && keys_rise ps

-- A state that a file can hold: its texts are of at most 65,535 bytes, and no key is there twice.
abbrev pub is_storable : BlockState → Bool
is_storable s = is_short s.name && list_all is_short_property s.properties && keys_rise s.properties

abbrev pub storable : BlockState → Option BlockState
storable s = if is_storable s then Some s else None

-- the value of a key
abbrev pub value_of : List ℕ → List Property → Option (List ℕ)
value_of k [] = None
value_of k (p ∷ ps) = if bytes_eq k p.key then Some p.value else value_of k ps

-- the index of the first that passes
abbrev pub index_where : {A : Type 0} → (A → Bool) → List A → Option ℕ
index_where p [] = None
index_where p (x ∷ xs) = if p x then Some 0 else option_map suc (index_where p xs)

-- the index of a text among texts
abbrev pub index_in : List ℕ → List (List ℕ) → Option ℕ
index_in s texts = index_where (bytes_eq s) texts

-- 8 and above is falling water
abbrev pub capped_level : ℕ → ℕ
capped_level n = if nat_lt n 8 then n else 8

-- a missing level is 0, and one that is not 0 to 15 is none
abbrev pub water_level : Option (List ℕ) → Option ℕ
water_level None = Some 0
water_level (Some s) = option_map capped_level (index_in s level_texts)

abbrev pub level_of : BlockState → Option ℕ
level_of s = water_level (value_of level_key s.properties)

-- The form that a state takes when it is read: air has no properties, and water the one property `level`, 0 to 8.
-- Water with another level means no state.
abbrev pub meant : BlockState → Option BlockState
meant s =
    if bytes_eq s.name air_name then Some air
    else if bytes_eq s.name water_name then option_map water (level_of s)
    else Some s

abbrev pub wet_at_level : Option ℕ → Wet
wet_at_level None = Dry
wet_at_level (Some n) = if n == 0 then Source else if nat_lt n 8 then Flow (8 - n) else Falling

-- how wet a state is by its name: water by its level, and all else is dry
abbrev pub wet_of : BlockState → Wet
wet_of s = if bytes_eq s.name water_name then wet_at_level (level_of s) else Dry
