-- A law of the entries of palettes.
use Rattle.std.specs.Prelude.{◌≡◌, ℕ, List}
use Rattle.av_tags.specs.Nbt.{Members, compound}
use Rattle.av_tags.specs.Shape.{members_in}
use Rattle.av_nbt.specs.Spelling.{Spells}
use Rattle.av_section.specs.Palette.{described_state, written_state}

-- What the tags of an entry describe is a state, wherever bytes spell them.
abbrev pub StoredEntriesAreStates : Type 0
StoredEntriesAreStates = (tags : Members) (bytes : List ℕ) → Spells (compound tags) bytes → written_state (members_in tags) ≡ described_state (members_in tags)
