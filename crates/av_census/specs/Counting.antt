-- Working definitions. No public clause cites them.
-- Blocks that are counted: by the numbers of their states, and by their states.
use Rattle.std.specs.Prelude.{◌≡◌, ℕ, ◌+◌, ◌*◌, ◌^◌, ◌<◌, ◌≤◌, List, [], ◌∷◌, length, map, Option, Some, None, IfSome, slice_index, slice_index_or, if◌then◌else◌}
use Rattle.std.specs.BTreeMap.{BTreeMap, get}
use Rattle.std.specs.List.{range_with_len}
use Rattle.std.specs.Option.{unwrap_or}
use Rattle.av_types.specs.declared.fault.Fault.{Fault}
use Rattle.av_types.specs.declared.position.ChunkPos.{ChunkPos}
use Rattle.av_types.specs.declared.position.Height.{Height}
use Rattle.av_types.specs.declared.position.RegionPos.{RegionPos}
use Rattle.av_tags.specs.Nbt.{Document}
use Rattle.av_nbt.specs.Spelling.{SpellsDocument}
use Rattle.av_state.specs.BlockState.{BlockState, air}
use Rattle.av_state.specs.StateList.{first_states, same_state}
use Rattle.av_state.specs.States.{state_of}
use Rattle.av_state.specs.Table.{states}
use Rattle.av_state.specs.declared.state.State.{State}
use Rattle.av_section.specs.Section.{number_at, HasNumbersBelow, section_states}
use Rattle.av_section.specs.declared.section.Section.{Section}
use Rattle.av_document.specs.Chunk.{root_tags, first_fault}
use Rattle.av_codec.specs.Payload.{IsPayloadFault}
use Rattle.av_region_files.specs.declared.files.RegionFile.{RegionFile}
use Rattle.av_census.specs.Census.{joined, chunk_blocks, times, state_order, HasBlocksAt, HasBlocksUpTo, HasBlocks, HaveBlocks}
use Rattle.av_census.specs.declared.counted.Counted.{Counted}
use Rattle.av_census.specs.declared.counted.Counted.TheVariants.{Nothing, Blocks, LeftOut}

-- ---- by numbers

-- how many blocks have a state, by the counts of the numbers in the table's order
abbrev pub weighed : BlockState → List BlockState → List ℕ → ℕ
weighed s [] counts = 0
weighed s (t ∷ ts) [] = 0
weighed s (t ∷ ts) (n ∷ counts) = (if same_state s t then n else 0) + weighed s ts counts

-- the states at the first places of a section
abbrev pub first_places : List BlockState → Section → ℕ → List BlockState
first_places table s n = map (λ i. slice_index_or table (number_at s i) air) (range_with_len 0 n)

-- so many more blocks were counted, of any table that the counts are for
pub record CountsMore (old new : List ℕ) (more : List BlockState → List BlockState) (n : ℕ) : Type 0 where
  pub long : length new ≡ length old
  pub bound : (k : ℕ) → slice_index new k ≤ slice_index old k + n
  pub counts : (table : List BlockState) (s : BlockState) → length table ≡ length old → weighed s table new ≡ weighed s table old + times s (more table)

-- the blocks of a section that may be out
abbrev pub slot_states : List BlockState → Option Section → List BlockState
slot_states table None = []
slot_states table (Some s) = section_states table s

-- the blocks of sections
abbrev pub slots_states : List BlockState → List (Option Section) → ℕ → List BlockState
slots_states table slots n = joined (λ k. slot_states table (slice_index_or slots k None)) n

-- each number is one of so many states
abbrev pub SlotBelow : ℕ → Option Section → Type 0
SlotBelow count slot = IfSome slot (λ s. HasNumbersBelow s count)

abbrev pub SlotsBelow : ℕ → List (Option Section) → Type 0
SlotsBelow count slots = (k : ℕ) → SlotBelow count (slice_index_or slots k None)

-- the counts of the first n sections' blocks
pub record AreSlotCounts (slots : List (Option Section)) (count n : ℕ) (counts : List ℕ) : Type 0 where
  pub long : length counts ≡ count
  pub bound : (k : ℕ) → slice_index counts k ≤ 4096 * n
  pub each : (table : List BlockState) (s : BlockState) → length table ≡ count → weighed s table counts ≡ times s (slots_states table slots n)

-- ---- by states

-- the count of a state in a tally
abbrev pub tallied : BTreeMap State ℕ → State → ℕ
tallied m s = unwrap_or (get state_order m s) 0

-- no count is 0
abbrev pub HasNoZero : BTreeMap State ℕ → Type 0
HasNoZero m = (s : State) → IfSome (get state_order m s) (λ n. 0 < n)

-- each state has so many more
pub record Tallies (old new : BTreeMap State ℕ) (more : BlockState → ℕ) : Type 0 where
  pub counts : (s : State) → tallied new s ≡ tallied old s + more (state_of s)
  pub sound : HasNoZero old → HasNoZero new

-- these blocks were added, and n of what was left out are answered
pub record IsAdded (old new : BTreeMap State ℕ) (blocks : List BlockState) (n answered : ℕ) : Type 0 where
  pub answer : answered ≡ n
  pub adds : Tallies old new (λ s. times s blocks)

-- there is room for so many more blocks
abbrev pub HasRoom : BTreeMap State ℕ → ℕ → Type 0
HasRoom m n = (s : State) → tallied m s + n < 2 ^ 64

-- ---- indices

-- what was counted stands for these blocks, or for something that is left out
abbrev pub IsCountOf : List BlockState → ℕ → Counted → Type 0
IsCountOf blocks left_out Nothing = (blocks ≡ []) × (left_out ≡ 0)
IsCountOf blocks left_out (Blocks table counts) = (left_out ≡ 0) × (length counts.items ≡ length (states table)) × ((s : BlockState) → weighed s (states table) counts.items ≡ times s blocks)
IsCountOf blocks left_out LeftOut = (blocks ≡ []) × (left_out ≡ 1)

-- the counts are those of a table, and few
abbrev pub AreFew : Counted → Type 0
AreFew Nothing = Unit {0}
AreFew (Blocks table counts) = (length counts.items ≡ length (states table)) × ((s : BlockState) → weighed s (states table) counts.items ≤ 262144)
AreFew LeftOut = Unit {0}

-- the blocks of a payload, or its fault
pub data HasBlocksIn (h : Height) (payload : List ℕ) (c : ChunkPos) (blocks : List BlockState) (left_out : ℕ) : Type 0 where
  good : (d : Document) → SpellsDocument d payload → first_fault h c first_states (root_tags d) ≡ None → blocks ≡ chunk_blocks c h (root_tags d) → left_out ≡ 0 → HasBlocksIn h payload c blocks left_out
  bad : (e : Fault) → IsPayloadFault c h payload first_states e → blocks ≡ [] → left_out ≡ 1 → HasBlocksIn h payload c blocks left_out

pub record IsCountedIn (h : Height) (payload : List ℕ) (c : ChunkPos) (counted : Counted) : Type 0 where
  pub blocks : List BlockState
  pub left_out : ℕ
  pub read : HasBlocksIn h payload c blocks left_out
  pub is : IsCountOf blocks left_out counted
  pub few : length blocks ≤ 262144

pub record IsCountedAt (h : Height) (file : List ℕ) (c : ChunkPos) (index : ℕ) (counted : Counted) : Type 0 where
  pub blocks : List BlockState
  pub left_out : ℕ
  pub read : HasBlocksAt h file c index blocks left_out
  pub is : IsCountOf blocks left_out counted
  pub few : length blocks ≤ 262144

-- ---- files: what was read, how many blocks at most, and how many things left out at most

pub record TalliesAt (h : Height) (file : List ℕ) (c : ChunkPos) (index : ℕ) (old new : BTreeMap State ℕ) (left_out : ℕ) : Type 0 where
  pub blocks : List BlockState
  pub read : HasBlocksAt h file c index blocks left_out
  pub adds : Tallies old new (λ s. times s blocks)
  pub few : length blocks ≤ 262144
  pub one : left_out ≤ 1

pub record TalliesUpTo (h : Height) (region : RegionPos) (file : List ℕ) (n : ℕ) (old new : BTreeMap State ℕ) (left_out : ℕ) : Type 0 where
  pub blocks : List BlockState
  pub read : HasBlocksUpTo h region file n blocks left_out
  pub adds : Tallies old new (λ s. times s blocks)
  pub few : length blocks ≤ 262144 * n
  pub some : left_out ≤ n

pub record TalliesFile (h : Height) (f : RegionFile) (old new : BTreeMap State ℕ) (left_out : ℕ) : Type 0 where
  pub blocks : List BlockState
  pub read : HasBlocks h f blocks left_out
  pub adds : Tallies old new (λ s. times s blocks)
  pub few : length blocks ≤ 268435456
  pub some : left_out ≤ 1024

pub record TalliesFiles (h : Height) (files : List RegionFile) (m : BTreeMap State ℕ) (left_out : ℕ) : Type 0 where
  pub blocks : List BlockState
  pub read : HaveBlocks h files blocks left_out
  pub counts : (s : State) → tallied m s ≡ times (state_of s) blocks
  pub sound : HasNoZero m
  pub few : length blocks ≤ 268435456 * length files
  pub some : left_out ≤ 1024 * length files
