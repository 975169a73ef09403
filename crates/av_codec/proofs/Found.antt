-- What is found of a block.
use Rattle.std.proofs.Common.{◌≡◌, ℕ, ◌<◌, Bool, true, false, true≢false, ◌&&◌, Option, Some, None, IsSome, List, length, slice_get, Result, Ok, Err, IfOk, IfErr, refl, sym, ap, ◌∙◌, if◌then◌else◌}
use Rattle.std.proofs.lemmas.Option.{slice_get_within}
use Rattle.av_types.specs.Division.{divided}
use Rattle.av_types.specs.Positions.{chunk_of, is_block_of}
use Rattle.av_types.specs.declared.position.Pos.{Pos}
use Rattle.av_types.specs.declared.position.RegionPos.{RegionPos}
use Rattle.av_types.specs.declared.position.Height.{Height}
use Rattle.av_types.specs.declared.fault.Fault.{Fault}
use Rattle.av_types.specs.declared.fault.Fault.TheVariants.{OutOfMemory}
use Rattle.av_tags.specs.Nbt.{Document}
use Rattle.av_nbt.specs.Spelling.{SpellsDocument}
use Rattle.av_region.specs.Region.{IsShort, Holds}
use Rattle.av_tags.specs.Shape.{or_else}
use Rattle.av_state.specs.BlockState.{BlockState, air}
use Rattle.av_state.specs.StateList.{first_states}
use Rattle.av_document.specs.Ticks.{lies_in}
use Rattle.av_document.specs.Chunk.{root_tags, is_full, cell_of}
use Rattle.av_document.proofs.Rows.{int_eq-refl}
use Rattle.av_chunk.specs.declared.chunk.Chunk.{Chunk}
use Rattle.av_chunk.specs.declared.rest.ChunkRest.{ChunkRest}
use Rattle.av_chunk.specs.Views.{number_in, state_in}
use Rattle.av_chunk.specs.Reading.{IsLoaded}
use Rattle.av_codec.specs.Payload.{IsPayloadFault, no_document, bad_document}
use Rattle.av_codec.specs.Block.{is_of_region, index_at, found_in, IsNumbered, IsDenoted, IsPayloadRefused, IsFound, denoted, IsBlockRefused, memory, spelling, document}

-- a block in the height is one of the chunk that it lies in
own_chunk : (h : Height) (p : Pos) → is_block_of h p.y ≡ true → lies_in (chunk_of p) h p ≡ true
own_chunk h p e = rw (int_eq-refl (divided p.x 16), int_eq-refl (divided p.z 16), e) refl

within_table : (table : List BlockState) (n : ℕ) (o : Option BlockState) → slice_get table n ≡ o → IsSome o → n < length table
within_table table n None e s = absurd (true≢false (sym s))
within_table table n (Some x) e s = slice_get_within table n x e

pub number_below : (table : List BlockState) (h : Height) (chunk : Chunk) (p : Pos) (n : ℕ) → number_in h chunk p ≡ Some n → IsSome (state_in table h chunk p) → n < length table
number_below table h chunk p n e s = within_table table n (slice_get table n) refl (rw e at s)

some_of : (o : Option BlockState) (x : BlockState) → IsSome o → or_else air o ≡ x → o ≡ Some x
some_of None x s e = absurd (true≢false (sym s))
some_of (Some y) x s e = ap Some e

-- the state that a loaded chunk has at a block is the one that its document denotes
found_block : (h : Height) (p : Pos) (d : Document) (new : List BlockState) (chunk : Chunk) (rest : ChunkRest) → IsLoaded (chunk_of p) h d first_states new chunk rest
    → (b : Bool) → is_block_of h p.y ≡ b → (if b then state_in new h chunk p else None) ≡ (if is_full (root_tags d) && b then Some (cell_of (root_tags d) p) else None)
found_block h p d new chunk rest l true e =
    let own = own_chunk h p e in
    rw l.denotes.full (some_of (state_in new h chunk p) (cell_of (root_tags d) p) (l.numbered p own) (l.denotes.cells_are p own))
found_block h p d new chunk rest l false e = rw l.denotes.full refl

pub denoted_by : (payload : List ℕ) (h : Height) (p : Pos) (d : Document) (new : List BlockState) (chunk : Chunk) (rest : ChunkRest) (found : Option BlockState) → SpellsDocument d payload
    → IsLoaded (chunk_of p) h d first_states new chunk rest → found ≡ found_in new h chunk p → IsDenoted payload h p found
denoted_by payload h p d new chunk rest found s l e = record {
  document = d;
  spelled = s;
  no_fault = l.no_fault;
  found_is = e ∙ found_block h p d new chunk rest l (is_block_of h p.y) refl;
}

pub numbered_by : (h : Height) (p : Pos) (d : Document) (new : List BlockState) (chunk : Chunk) (rest : ChunkRest) → IsLoaded (chunk_of p) h d first_states new chunk rest → IsNumbered new h chunk p
numbered_by h p d new chunk rest l e = l.numbered p (own_chunk h p e)

pub found_in_file : (file : List ℕ) (r : RegionPos) (h : Height) (p : Pos) (payload : List ℕ) (found : Option BlockState) → (IsShort file → ⊥) → is_of_region r p ≡ true → Holds file (index_at p) payload
    → IsDenoted payload h p found → IsFound file r h p found
found_in_file file r h p payload found w o q d = denoted w o payload d.document q d.spelled d.no_fault d.found_is

refused_by_fault : (file : List ℕ) (r : RegionPos) (h : Height) (p : Pos) (payload : List ℕ) (e : Fault) → (IsShort file → ⊥) → is_of_region r p ≡ true → Holds file (index_at p) payload
    → IsPayloadFault (chunk_of p) h payload first_states e → IsBlockRefused file r h p e
refused_by_fault file r h p payload e w o q (no_document s b) = spelling w o b payload q s
refused_by_fault file r h p payload e w o q (bad_document d s f) = document w o payload d q s f

pub refused_in_file : (file : List ℕ) (r : RegionPos) (h : Height) (p : Pos) (payload : List ℕ) (e : Fault) → (IsShort file → ⊥) → is_of_region r p ≡ true → Holds file (index_at p) payload
    → IsPayloadRefused payload h p e → IsBlockRefused file r h p e
refused_in_file file r h p payload OutOfMemory w o q f = memory w o refl payload q
refused_in_file file r h p payload e w o q f = refused_by_fault file r h p payload e w o q (f (λ q. cc))

pub if_ok_then : {T E : Type 0} (r : Result T E) {P Q : T → Type 0} → IfOk r P → ((x : T) → P x → Q x) → IfOk r Q
if_ok_then (Ok x) h f = f x h
if_ok_then (Err e) h f = tt

pub if_err_then : {T E : Type 0} (r : Result T E) {P Q : E → Type 0} → IfErr r P → ((x : E) → P x → Q x) → IfErr r Q
if_err_then (Ok x) h f = tt
if_err_then (Err e) h f = f e h
