-- The words of an edit line.
use Rattle.std.specs.Prelude.{ℕ, zero, suc, ◌+◌, ◌*◌, ◌-◌, ◌==◌, nat_lt, nat_le, ℤ, pos, negsuc, length, List, [], ◌∷◌, Option, Some, None, Bool, false, ◌&&◌, ◌||◌, if◌then◌else◌, take, get_or}
use Rattle.std.specs.List.{list_all, slice_split}
use Rattle.av_types.specs.declared.position.Pos.{Pos}
use Rattle.av_types.specs.Options.{◌>>=◌}
use Rattle.av_tags.specs.Shape.{each}
use Rattle.av_state.specs.BlockState.{BlockState, Property, storable, meant, in_order}
use Rattle.av_cells.specs.Sets.{Set}

-- the parts between separators, one more than there are separators
abbrev pub split_on : ℕ → List ℕ → List (List ℕ)
split_on separator text = slice_split (λ b. b == separator) text

-- ---- numbers

abbrev pub is_digit : ℕ → Bool
is_digit b = nat_le 48 b && nat_le b 57

abbrev pub valued : ℕ → List ℕ → ℕ
valued n [] = n
valued n (b ∷ bs) = valued (10 * n + (b - 48)) bs

-- 1 to 10 digits
abbrev pub digits_of : List ℕ → Option ℕ
digits_of bs = if list_all is_digit bs && (nat_le 1 (length bs) && nat_le (length bs) 10) then Some (valued 0 bs) else None

abbrev pub non_negative : ℕ → Option ℤ
non_negative n = if nat_le n 2147483647 then Some (pos n) else None

abbrev pub negated : ℕ → ℤ
negated zero = pos 0
negated (suc n) = negsuc n

abbrev pub negative : ℕ → Option ℤ
negative n = if nat_le n 2147483648 then Some (negated n) else None

-- digits, and a minus sign perhaps before them
abbrev pub coordinate_of : List ℕ → Option ℤ
coordinate_of [] = None
coordinate_of (b ∷ bs) = if b == 45 then (digits_of bs >>= negative) else (digits_of (b ∷ bs) >>= non_negative)

-- ---- states

-- a to z, 0 to 9, _
abbrev pub is_word_byte : ℕ → Bool
is_word_byte b = (nat_le 97 b && nat_le b 122) || (is_digit b || b == 95)

-- those, . and -
abbrev pub is_space_byte : ℕ → Bool
is_space_byte b = is_word_byte b || (b == 46 || b == 45)

-- those and /
abbrev pub is_path_byte : ℕ → Bool
is_path_byte b = is_space_byte b || b == 47

-- one or more of some bytes
abbrev pub is_text : (ℕ → Bool) → List ℕ → Bool
is_text p bs = nat_lt 0 (length bs) && list_all p bs

abbrev pub are_name_parts : List (List ℕ) → Bool
are_name_parts (space ∷ path ∷ []) = is_text is_space_byte space && is_text is_path_byte path
are_name_parts _ = false

-- parts around one colon
abbrev pub is_name : List ℕ → Bool
is_name s = are_name_parts (split_on 58 s)

abbrev pub pair_of : List (List ℕ) → Option Property
pair_of (k ∷ v ∷ []) = if is_text is_word_byte k && is_text is_word_byte v then Some (record { key = k; value = v }) else None
pair_of _ = None

-- parts around one equals sign
abbrev pub property_in : List ℕ → Option Property
property_in s = pair_of (split_on 61 s)

-- a text before its last byte, which is a closing bracket
abbrev pub closed : List ℕ → Option (List ℕ)
closed s = if nat_lt 0 (length s) && get_or s (length s - 1) 0 == 93 then Some (take (length s - 1) s) else None

-- properties between commas, with the closing bracket
abbrev pub in_brackets : List ℕ → Option (List Property)
in_brackets s = closed s >>= λ inner. each property_in (split_on 44 inner)

-- the state of a name and properties, in the form that it takes when it is read
abbrev pub named : List ℕ → List Property → Option BlockState
named name ps = if is_name name then (storable (record { name = name; properties = in_order ps }) >>= meant) else None

abbrev pub state_of_parts : List (List ℕ) → Option BlockState
state_of_parts (name ∷ []) = named name []
state_of_parts (name ∷ rest ∷ []) = in_brackets rest >>= λ ps. named name ps
state_of_parts _ = None

-- NAME, or NAME[k=v,..]
abbrev pub state_in : List ℕ → Option BlockState
state_in s = state_of_parts (split_on 91 s)

-- ---- lines

abbrev pub position_of : List ℕ → List ℕ → List ℕ → Option Pos
position_of x y z = coordinate_of x >>= λ px. coordinate_of y >>= λ py. coordinate_of z >>= λ pz. Some (record { x = px; y = py; z = pz })

abbrev pub words_edit : List ℕ → List ℕ → List ℕ → List ℕ → List ℕ → Option (Set BlockState)
words_edit t x y z s =
    digits_of t >>= λ tick. position_of x y z >>= λ p. state_in s >>= λ what. Some (record { tick = tick; pos = p; what = what })

abbrev pub edit_of : List (List ℕ) → Option (Set BlockState)
edit_of (t ∷ x ∷ y ∷ z ∷ s ∷ []) = words_edit t x y z s
edit_of _ = None

-- T X Y Z STATE with single spaces
abbrev pub line_edit : List ℕ → Option (Set BlockState)
line_edit line = edit_of (split_on 32 line)
