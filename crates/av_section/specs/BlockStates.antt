-- The block states of a section: a palette, and the index of each place into it, packed into longs (minecraft.wiki, "Chunk format").
use Rattle.std.specs.Prelude.{ℕ, ℤ, ◌==◌, nat_lt, length, List, [], ◌∷◌, ◌++◌, Option, Some, None, Bool, true, false, ◌&&◌, if◌then◌else◌, map, replicate, slice_index, slice_index_or}
use Rattle.std.specs.List.{list_all}
use Rattle.av_tags.specs.Nbt.{Nbt, long_array}
use Rattle.av_types.specs.Options.{◌>>=◌}
use Rattle.av_tags.specs.Shape.{longs_of, each, lacks, or_else}
use Rattle.av_state.specs.BlockState.{BlockState, air, meant}
use Rattle.av_state.specs.StateList.{number_in, with_states}
use Rattle.av_pack.specs.Packing.{bits_for, longs_for, unpacked, packed}
use Rattle.av_section.specs.Palette.{palette_of, states_tag}

-- ---- read

-- no tag is no longs
abbrev pub data_of : Option Nbt → Option (List ℤ)
data_of None = Some []
data_of (Some t) = longs_of t

-- the index 0 at each of the 4,096 places
unfoldable pub all_zero : List ℕ
all_zero = replicate 4096 0

abbrev pub are_below : ℕ → List ℕ → Bool
are_below count indices = list_all (λ i. nat_lt i count) indices

abbrev pub indices_if : Bool → List ℕ → Option (List ℕ)
indices_if fits indices = if fits then Some indices else None

-- the indices that longs hold: just as many longs as a palette of that length needs, and each index below that length.
-- Bits that hold no index are not looked at.
abbrev pub packed_indices : ℕ → List ℤ → Option (List ℕ)
packed_indices count longs =
    let indices = unpacked (bits_for count) longs in
    indices_if ((length longs == longs_for (bits_for count)) && are_below count indices) indices

-- the indices of the 4,096 places into a palette of that length. No longs stand for index 0 everywhere, where the palette
-- has one entry.
abbrev pub indices_in : ℕ → List ℤ → Option (List ℕ)
indices_in count longs = if length longs == 0 then indices_if (count == 1) all_zero else packed_indices count longs

abbrev pub indices_of : ℕ → Option Nbt → Option (List ℕ)
indices_of count packed = data_of packed >>= λ longs. indices_in count longs

-- the number, where the test holds
abbrev pub when : Bool → ℕ → List ℕ
when true n = n ∷ []
when false n = []

-- the numbers of the faults that hold of a palette and its indices: 14 of the palette, 15 of the indices, 17 of a water level
abbrev pub states_faults : Option Nbt → Option Nbt → List ℕ
states_faults palette longs =
    let entries = or_else [] (palette_of palette) in
    when (lacks (palette_of palette)) 14 ++ when (lacks (indices_of (length entries) longs)) 15 ++ when (lacks (each meant entries)) 17

-- Where no fault holds: the states of the palette in the form that they take when they are read, in order ..
abbrev pub read_states : Option Nbt → List BlockState
read_states palette = or_else [] (each meant (or_else [] (palette_of palette)))

-- .. the index of each place ..
abbrev pub read_indices : Option Nbt → Option Nbt → List ℕ
read_indices palette longs = or_else [] (indices_of (length (or_else [] (palette_of palette))) longs)

-- .. and the state at a place.
abbrev pub state_at : Option Nbt → Option Nbt → ℕ → BlockState
state_at palette longs place = slice_index_or (read_states palette) (slice_index (read_indices palette longs) place) air

-- ---- written, from the states of the 4,096 places

-- each state once, in the order of its first place
abbrev pub palette_states : List BlockState → List BlockState
palette_states states = with_states [] states

abbrev pub palette_tag : List BlockState → Nbt
palette_tag states = states_tag (palette_states states)

-- the index of a state in the palette
abbrev pub index_of : List BlockState → BlockState → ℕ
index_of palette state = or_else 0 (number_in palette state)

-- no indices for a palette of one entry
abbrev pub indices_tag : ℕ → List ℕ → Option Nbt
indices_tag count indices = if nat_lt 1 count then Some (long_array (packed (bits_for count) indices)) else None

abbrev pub data_tag : List BlockState → Option Nbt
data_tag states =
    let palette = palette_states states in
    indices_tag (length palette) (map (index_of palette) states)
