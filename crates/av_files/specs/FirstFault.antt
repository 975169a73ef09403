-- The first fault of a run's input, in the order in which faults are looked for.
use Rattle.std.specs.Prelude.{◌≡◌, IsUtf8, ℕ, ◌≤◌, ◌⊎◌, List, [], ◌∷◌, length, Some, None, true, false, if◌then◌else◌}
use Rattle.av_types.specs.Faults.{fault_number}
use Rattle.av_types.specs.Positions.{IsInLimits, chunk_at}
use Rattle.av_types.specs.declared.position.Height.{Height}
use Rattle.av_types.specs.declared.position.ChunkPos.{ChunkPos}
use Rattle.av_types.specs.declared.fault.Fault.{Fault}
use Rattle.av_types.specs.declared.fault.Fault.TheVariants.{BadCount, BadTable, RegionRange, RepeatedRegion, ShortHeader, BadNbt}
use Rattle.av_tags.specs.Nbt.{Document}
use Rattle.av_nbt.specs.Spelling.{SpellsDocument}
use Rattle.av_nbt.specs.Outcome.{SpellsNone}
use Rattle.av_region.specs.Region.{IsShort, IsAbsent, Holds, IsChunkFault}
use Rattle.av_state.specs.BlockState.{BlockState}
use Rattle.av_state.specs.StateList.{first_states, with_states}
use Rattle.av_rules.specs.Rows.{BlockTable}
use Rattle.av_rules.specs.Document.{table_spelled}
use Rattle.av_document.specs.Chunk.{root_tags, is_full, all_states, first_fault}
use Rattle.av_land.specs.Land.{Land, is_loaded}
use Rattle.av_files.specs.Files.{File, in_order, share_a_region}
use Rattle.av_files.specs.Denotes.{Rest, Denotes}
use Rattle.av_files.specs.Layout.{indices}
use Rattle.av_edits.specs.Edits.{first_in_edits}

-- ---- one index of a file

-- a chunk's states, none of one that is kept
abbrev pub states_read : Height → Document → List BlockState
states_read h d = if is_full (root_tags d) then all_states h (root_tags d) else []

-- the first fault at an index, whose states are numbered after those of the table
pub data IsFaultAt (h : Height) (table : List BlockState) (file : List ℕ) (c : ChunkPos) (index : ℕ) (e : Fault) : Type 0 where
  sectors : IsChunkFault file index e → IsFaultAt h table file c index e
  spelling : (payload : List ℕ) → Holds file index payload → SpellsNone payload → e ≡ BadNbt → IsFaultAt h table file c index e
  document : (payload : List ℕ) (d : Document) → Holds file index payload → SpellsDocument d payload → first_fault h c table (root_tags d) ≡ Some (fault_number e) → IsFaultAt h table file c index e

-- an index without a fault, and the states that it adds
pub data IsGoodAt (h : Height) (table : List BlockState) (file : List ℕ) (c : ChunkPos) (index : ℕ) (new : List BlockState) : Type 0 where
  nothing : IsAbsent file index → new ≡ table → IsGoodAt h table file c index new
  chunk : (payload : List ℕ) (d : Document) → Holds file index payload → SpellsDocument d payload → first_fault h c table (root_tags d) ≡ None → new ≡ with_states table (states_read h d)
      → IsGoodAt h table file c index new

-- ---- a file's indices in order, and files in order

abbrev pub AreIndicesGood : Height → List BlockState → File → List ℕ → List BlockState → Type 0
AreIndicesGood h table f [] new = new ≡ table
AreIndicesGood h table f (i ∷ is) new = (next : List BlockState) × IsGoodAt h table f.bytes (chunk_at f.pos i) i next × AreIndicesGood h next f is new

abbrev pub IsFirstOfIndices : Height → List BlockState → File → List ℕ → Fault → Type 0
IsFirstOfIndices h table f [] e = ⊥
IsFirstOfIndices h table f (i ∷ is) e =
    IsFaultAt h table f.bytes (chunk_at f.pos i) i e ⊎ ((next : List BlockState) × IsGoodAt h table f.bytes (chunk_at f.pos i) i next × IsFirstOfIndices h next f is e)

pub record IsFileGood (h : Height) (table : List BlockState) (f : File) (new : List BlockState) : Type 0 where
  pub whole : ¬ IsShort f.bytes
  pub good : AreIndicesGood h table f indices new

pub data IsFirstOfFile (h : Height) (table : List BlockState) (f : File) (e : Fault) : Type 0 where
  header : IsShort f.bytes → e ≡ ShortHeader → IsFirstOfFile h table f e
  at_index : ¬ IsShort f.bytes → IsFirstOfIndices h table f indices e → IsFirstOfFile h table f e

abbrev pub AreFilesGood : Height → List BlockState → List File → List BlockState → Type 0
AreFilesGood h table [] new = new ≡ table
AreFilesGood h table (f ∷ fs) new = (next : List BlockState) × IsFileGood h table f next × AreFilesGood h next fs new

abbrev pub IsFirstOfFiles : Height → List BlockState → List File → Fault → Type 0
IsFirstOfFiles h table [] e = ⊥
IsFirstOfFiles h table (f ∷ fs) e = IsFirstOfFile h table f e ⊎ ((next : List BlockState) × IsFileGood h table f next × IsFirstOfFiles h next fs e)

-- ---- the whole input

pub record AreCountsGood (files : List File) (ticks workers : ℕ) : Type 0 where
  pub some_workers : 1 ≤ workers
  pub few_workers : workers ≤ 8
  pub few_ticks : ticks ≤ 1000000
  pub few_files : length files ≤ 1024

-- the text spells a block table with that height
pub record IsTable (text : List ℕ) (t : BlockTable) (h : Height) : Type 0 where
  pub utf8 : IsUtf8 text
  pub spelled : table_spelled text ≡ Some t
  pub low : h.min_section ≡ t.min_section
  pub count : h.sections ≡ t.sections

abbrev pub IsBadTable : List ℕ → Type 0
IsBadTable text = (t : BlockTable) (h : Height) → ¬ IsTable text t h

abbrev pub AllInLimits : List File → Type 0
AllInLimits [] = Unit {0}
AllInLimits (f ∷ fs) = IsInLimits f.pos × AllInLimits fs

-- Files that are read after a table of states: none has a fault, and their states are numbered in a list that begins with it.
pub record AreReadAfter (h : Height) (old : List BlockState) (files : List File) (table : List BlockState) : Type 0 where
  pub limits : AllInLimits files
  pub apart : share_a_region files ≡ false
  pub good : AreFilesGood h old (in_order files) table

-- after a new table, which has the ten built-in states
abbrev pub AreFilesRead : Height → List File → List BlockState → Type 0
AreFilesRead h files table = AreReadAfter h first_states files table

-- The first fault of files: of the list of regions, and else of the first index that has one, by (z, x) of its region and its index.
pub data IsFilesFaultAfter (h : Height) (old : List BlockState) (files : List File) (e : Fault) : Type 0 where
  range : ¬ AllInLimits files → e ≡ RegionRange → IsFilesFaultAfter h old files e
  repeated : AllInLimits files → share_a_region files ≡ true → e ≡ RepeatedRegion → IsFilesFaultAfter h old files e
  region : AllInLimits files → share_a_region files ≡ false → IsFirstOfFiles h old (in_order files) e → IsFilesFaultAfter h old files e

abbrev pub IsFilesFault : Height → List File → Fault → Type 0
IsFilesFault h files e = IsFilesFaultAfter h first_states files e

pub data IsFirstFault (files : List File) (table edits : List ℕ) (ticks workers : ℕ) (e : Fault) : Type 0 where
  counts : ¬ AreCountsGood files ticks workers → e ≡ BadCount → IsFirstFault files table edits ticks workers e
  rules : AreCountsGood files ticks workers → IsBadTable table → e ≡ BadTable → IsFirstFault files table edits ticks workers e
  file : AreCountsGood files ticks workers → (t : BlockTable) (h : Height) → IsTable table t h → IsFilesFault h files e → IsFirstFault files table edits ticks workers e
  edit : AreCountsGood files ticks workers → (t : BlockTable) (h : Height) (states : List BlockState) (w : Land BlockState) (r : Rest) → IsTable table t h → AreFilesRead h files states → Denotes h files w r
      → first_in_edits (is_loaded w) ticks states edits ≡ Some e → IsFirstFault files table edits ticks workers e

pub record IsAccepted (files : List File) (table edits : List ℕ) (ticks workers : ℕ) (t : BlockTable) (h : Height) (w : Land BlockState) (r : Rest) : Type 0 where
  pub counts : AreCountsGood files ticks workers
  pub rules : IsTable table t h
  pub states : List BlockState
  pub read : AreFilesRead h files states
  pub denotes : Denotes h files w r
  pub no_fault : first_in_edits (is_loaded w) ticks states edits ≡ None

-- An input has one first fault at most, and none where it is accepted.
pub record OneFault (files : List File) (table edits : List ℕ) (ticks workers : ℕ) : Type 0 where
  pub one : (e f : Fault) → IsFirstFault files table edits ticks workers e → IsFirstFault files table edits ticks workers f → e ≡ f
  pub none : (e : Fault) (t : BlockTable) (h : Height) (w : Land BlockState) (r : Rest) → IsFirstFault files table edits ticks workers e → IsAccepted files table edits ticks workers t h w r → ⊥

abbrev pub OneFirstFault : Type 0
OneFirstFault = (files : List File) (table edits : List ℕ) (ticks workers : ℕ) → OneFault files table edits ticks workers
