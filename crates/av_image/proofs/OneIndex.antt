-- One index that was read, and indices that were read while the table grows.
use Rattle.std.proofs.Common.{◌≡◌, ℕ, List, [], if◌then◌else◌}
use Rattle.av_types.specs.Positions.{chunk_at}
use Rattle.av_types.specs.declared.position.Height.{Height}
use Rattle.av_types.specs.declared.position.ChunkPos.{ChunkPos}
use Rattle.av_types.specs.declared.fault.Fault.{Fault}
use Rattle.av_region.specs.Region.{Holds}
use Rattle.av_state.specs.BlockState.{BlockState}
use Rattle.av_state.specs.StateList.{with_states}
use Rattle.av_section.specs.Reading.{OnlyGrows}
use Rattle.av_section.proofs.Numbers.{OnlyGrows-trans}
use Rattle.av_files.specs.Files.{File}
use Rattle.av_files.specs.FirstFault.{IsFaultAt, IsGoodAt, spelling, document, nothing, chunk}
use Rattle.av_image.specs.declared.reading.stored.Stored.{Stored}
use Rattle.av_image.specs.declared.reading.stored.Stored.TheVariants.{Absent, Kept, Full}
use Rattle.av_codec.specs.Payload.{IsPayloadFault, no_document, bad_document}
use Rattle.av_image.specs.RegionsRead.{IsReadAt, WasReadAt, WereIndicesRead}

pub item_refused : (h : Height) (old : List BlockState) (file payload : List ℕ) (c : ChunkPos) (i : ℕ) (e : Fault) → Holds file i payload → IsPayloadFault c h payload old e → IsFaultAt h old file c i e
item_refused h old file payload c i e held (no_document none is) = spelling payload held none is
item_refused h old file payload c i e held (bad_document d spelled fault) = document payload d held spelled fault

states_if : (h : Height) (old new all : List BlockState) (b c : _) → b ≡ c → new ≡ with_states old (if c then all else []) → new ≡ with_states old (if b then all else [])
states_if h old new all b c e s = rw e s

pub good_item : (h : Height) (old new : List BlockState) (file : List ℕ) (c : ChunkPos) (i : ℕ) (p : Stored) → IsReadAt h old new file c i p → IsGoodAt h old file c i new
good_item h old new file c i Absent r = nothing r.nothing r.same
good_item h old new file c i (Kept same) r =
    chunk r.payload r.read.document r.holds r.read.spelled r.read.kept.no_fault (rw r.read.kept.not_full r.read.kept.states)
good_item h old new file c i (Full a b) r =
    chunk r.payload r.read.document r.holds r.read.spelled r.read.loaded.no_fault (rw r.read.loaded.denotes.full r.read.loaded.states)

pub item_grown : (h : Height) (old new : List BlockState) (file : List ℕ) (c : ChunkPos) (i : ℕ) (p : Stored) → OnlyGrows old new → WasReadAt h old file c i p → WasReadAt h new file c i p
item_grown h old new file c i p more r = record { old = r.old; new = r.new; read = r.read; grown = OnlyGrows-trans r.new old new r.grown more }

pub stored_grown : (h : Height) (old new : List BlockState) (f : File) (n : ℕ) (stored : List Stored) → OnlyGrows old new → WereIndicesRead h old f n stored → WereIndicesRead h new f n stored
stored_grown h old new f n stored more r = record { many = r.many; each = λ i p e. item_grown h old new f.bytes (chunk_at f.pos i) i p more (r.each i p e) }
