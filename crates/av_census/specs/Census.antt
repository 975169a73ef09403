-- The states of region files, and how many blocks have each.
use Rattle.std.specs.Prelude.{◌≡◌, ℕ, zero, suc, ◌+◌, ◌<◌, pos, ℤ, ◌+ℤ◌, List, [], ◌∷◌, ◌++◌, map, All, None, count_by, if◌then◌else◌}
use Rattle.std.specs.Cmp.Lexicographic.{slice_cmp}
use Rattle.std.specs.List.Sorted.{IsStrictlySortedBy}
use Rattle.std.specs.Ordering.{nat_cmp, ordering_then}
use Rattle.std.specs.declared.cmp.Ordering.{Ordering}
use Rattle.av_types.specs.Positions.{chunk_at}
use Rattle.av_types.specs.declared.fault.Fault.{Fault}
use Rattle.av_types.specs.declared.position.ChunkPos.{ChunkPos}
use Rattle.av_types.specs.declared.position.Height.{Height}
use Rattle.av_types.specs.declared.position.RegionPos.{RegionPos}
use Rattle.av_tags.specs.Nbt.{NamedTag, Document}
use Rattle.av_nbt.specs.Spelling.{SpellsDocument}
use Rattle.av_region.specs.Region.{IsShort, IsAbsent, Holds}
use Rattle.av_state.specs.BlockState.{BlockState}
use Rattle.av_state.specs.StateList.{first_states, same_state}
use Rattle.av_state.specs.States.{state_of}
use Rattle.av_state.specs.declared.state.Property.{Property}
use Rattle.av_state.specs.declared.state.State.{State}
use Rattle.av_document.specs.Chunk.{root_tags, is_full, first_fault, cell_of}
use Rattle.av_document.specs.Layout.{block_at, states_of}
use Rattle.av_types.specs.Order.{ordered}
use Rattle.av_region_files.specs.declared.files.RegionFile.{RegionFile}
use Rattle.av_survey.specs.Listing.{IsList, in_order}
use Rattle.av_survey.specs.Survey.{IsFaultAlone}
use Rattle.av_census.specs.declared.counts.StateCount.{StateCount}
use Rattle.av_census.specs.declared.counts.Census.{Census}

-- ---- the blocks that files hold

-- the first n lists, one after the other
unfoldable pub joined : {A : Type 0} → (ℕ → List A) → ℕ → List A
joined f zero = []
joined f (suc n) = joined f n ++ f n

-- the blocks of a section
abbrev pub section_blocks : ChunkPos → List NamedTag → ℤ → List BlockState
section_blocks c root y = states_of (λ i. cell_of root (block_at c y i))

-- the blocks of a chunk that are in the height, none of one that is not full
abbrev pub chunk_blocks : ChunkPos → Height → List NamedTag → List BlockState
chunk_blocks c h root = if is_full root then joined (λ k. section_blocks c root (h.min_section +ℤ pos k)) h.sections else []

-- What stands at an index of a file: nothing, a chunk without a fault and its blocks, or one that is left out for its fault.
pub data HasBlocksAt (h : Height) (file : List ℕ) (c : ChunkPos) (index : ℕ) (blocks : List BlockState) (left_out : ℕ) : Type 0 where
  absent : IsAbsent file index → blocks ≡ [] → left_out ≡ 0 → HasBlocksAt h file c index blocks left_out
  chunk : (payload : List ℕ) (d : Document) → Holds file index payload → SpellsDocument d payload → first_fault h c first_states (root_tags d) ≡ None
      → blocks ≡ chunk_blocks c h (root_tags d) → left_out ≡ 0 → HasBlocksAt h file c index blocks left_out
  fault : (e : Fault) → IsFaultAlone h file c index e → blocks ≡ [] → left_out ≡ 1 → HasBlocksAt h file c index blocks left_out

-- what stands at the first n indices of a file
unfoldable pub HasBlocksUpTo : Height → RegionPos → List ℕ → ℕ → List BlockState → ℕ → Type 0
HasBlocksUpTo h region file zero blocks left_out = (blocks ≡ []) × (left_out ≡ 0)
HasBlocksUpTo h region file (suc n) blocks left_out = (before : List BlockState) × (some : ℕ) × (more : List BlockState) × (one : ℕ) × HasBlocksUpTo h region file n before some
    × HasBlocksAt h file (chunk_at region n) n more one × (blocks ≡ before ++ more) × (left_out ≡ some + one)

-- the blocks of a file, which is left out where it is cut short
pub data HasBlocks (h : Height) (f : RegionFile) (blocks : List BlockState) (left_out : ℕ) : Type 0 where
  short : IsShort f.bytes.items → blocks ≡ [] → left_out ≡ 1 → HasBlocks h f blocks left_out
  whole : ¬ IsShort f.bytes.items → HasBlocksUpTo h f.pos f.bytes.items 1024 blocks left_out → HasBlocks h f blocks left_out

-- the blocks of files, one file after the other
abbrev pub HaveBlocks : Height → List RegionFile → List BlockState → ℕ → Type 0
HaveBlocks h [] blocks left_out = (blocks ≡ []) × (left_out ≡ 0)
HaveBlocks h (f ∷ fs) blocks left_out = (first : List BlockState) × (one : ℕ) × (others : List BlockState) × (some : ℕ) × HasBlocks h f first one
    × HaveBlocks h fs others some × (blocks ≡ first ++ others) × (left_out ≡ one + some)

-- ---- counts

-- how many of the blocks have a state
abbrev pub times : BlockState → List BlockState → ℕ
times s blocks = count_by (same_state s) blocks

-- the count of a state, and 0 where it is not listed
abbrev pub count_of : BlockState → List StateCount → ℕ
count_of s [] = 0
count_of s (c ∷ cs) = if same_state s (state_of c.state) then c.blocks else count_of s cs

-- by the bytes of the key, then of the value
abbrev pub property_order : Property → Property → Ordering
property_order p q = ordering_then (slice_cmp nat_cmp p.key.items q.key.items) (slice_cmp nat_cmp p.value.items q.value.items)

-- by the bytes of the name, then by the properties
abbrev pub state_order : State → State → Ordering
state_order s t = ordering_then (slice_cmp nat_cmp s.name.items t.name.items) (slice_cmp property_order s.properties.items t.properties.items)

-- Each state that a block has, once, in the order of states, with the number of these blocks.
pub record AreCounts (blocks : List BlockState) (counts : List StateCount) : Type 0 where
  -- for each state that a file can hold
  pub each : (s : State) → count_of (state_of s) counts ≡ times (state_of s) blocks
  pub some : All (λ c. 0 < c.blocks) counts
  pub rising : IsStrictlySortedBy state_order (map (λ c. c.state) counts)

-- the most blocks first
abbrev pub most_first : StateCount → StateCount → Ordering
most_first c d = nat_cmp d.blocks c.blocks

-- A census of files: the list has no fault, and each state of their blocks has its count, the most blocks first and then in the order of
-- states. Chunks with a fault, and files that are cut short, are left out.
pub record IsCensus (h : Height) (files : List RegionFile) (c : Census) : Type 0 where
  pub good : IsList files
  pub blocks : List BlockState
  pub read : HaveBlocks h (in_order files) blocks c.left_out
  pub rising : List StateCount
  pub counted : AreCounts blocks rising
  pub sorted : c.counts.items ≡ ordered most_first rising
