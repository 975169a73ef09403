-- Findings, gathered index by index and file by file.
use Rattle.std.proofs.Common.{◌≡◌, ◌≢◌, ◌∙◌, ℕ, ◌+◌, suc, List, [], ◌∷◌, ◌++◌, Option, Some, None, refl, ap, sym, subst, append_assoc, arith}
use Rattle.std.proofs.lemmas.List.{append-nil}
use Rattle.av_types.specs.Positions.{chunk_at}
use Rattle.av_types.specs.declared.position.RegionPos.{RegionPos}
use Rattle.av_types.specs.declared.position.ChunkPos.{ChunkPos}
use Rattle.av_types.specs.declared.position.Height.{Height}
use Rattle.av_types.specs.declared.fault.Fault.{Fault}
use Rattle.av_types.specs.declared.fault.Fault.TheVariants.{OutOfMemory, BadNbt}
use Rattle.av_tags.specs.Nbt.{Document}
use Rattle.av_nbt.specs.Outcome.{IsDecodeRefusal, SpellsNone}
use Rattle.av_region.specs.Region.{Holds}
use Rattle.av_state.specs.BlockState.{BlockState}
use Rattle.av_state.specs.StateList.{first_states}
use Rattle.av_document.specs.Chunk.{root_tags, first_fault}
use Rattle.av_chunk.specs.declared.chunk.Reading.{Reading}
use Rattle.av_chunk.specs.declared.chunk.Reading.TheVariants.{Full, Kept}
use Rattle.av_chunk.specs.Reading.{IsReading}
use Rattle.av_region_files.specs.declared.files.RegionFile.{RegionFile}
use Rattle.av_survey.specs.declared.finding.Finding.{Finding}
use Rattle.av_survey.specs.Survey.{FindsInAll, FindsInFile, FindsUpTo, IsFirstAt, IsFirstIn, IsFaultAlone, chunk, noted, spelling, document}
use Rattle.av_codec.specs.Payload.{IsPayloadFault, no_document, bad_document}

-- bytes that were refused, but not for want of memory, spell no document
pub no_root : (e : Fault) (bytes : List ℕ) → IsDecodeRefusal e bytes → e ≢ OutOfMemory → (e ≡ BadNbt) × SpellsNone bytes
no_root OutOfMemory bytes h other = absurd (other refl)
no_root BadNbt bytes h other = (refl, h)
no_root _ bytes h other = absurd h

-- a chunk that was read has no fault
pub was_read : (c : ChunkPos) (h : Height) (d : Document) (old new : List BlockState) (r : Reading) → IsReading c h d old new r → first_fault h c old (root_tags d) ≡ None
was_read c h d old new (Full a b) is = is.no_fault
was_read c h d old new Kept is = is.no_fault

-- what is found in the payload that a file holds at an index
pub first_at : (h : Height) (file payload : List ℕ) (c : ChunkPos) (index : ℕ) (fault : Option Fault) → Holds file index payload → IsFirstIn h payload c fault → IsFirstAt h file c index fault
first_at h file payload c index None holds good = chunk payload good.document holds good.spelled good.no_fault
first_at h file payload c index (Some e) holds bad = of_bad bad where
  of_bad : IsPayloadFault c h payload first_states e → IsFaultAlone h file c index e
  of_bad (no_document none is) = spelling payload holds none is
  of_bad (bad_document d spelled fault) = document payload d holds spelled fault

pub finds_none : (h : Height) (r : RegionPos) (file : List ℕ) (found : List Finding) → found ≡ [] → FindsUpTo h r file 0 found
unfolding FindsUpTo
finds_none h r file found is = is

pub finds_next : (h : Height) (r : RegionPos) (file : List ℕ) (n : ℕ) (before found : List Finding) (fault : Option Fault) → FindsUpTo h r file n before → IsFirstAt h file (chunk_at r n) n fault
    → found ≡ before ++ noted r (chunk_at r n) fault → FindsUpTo h r file (n + 1) found
unfolding FindsUpTo
finds_next h r file n before found fault up first is =
    let next : suc n ≡ n + 1 = omega arith in
    let all : FindsUpTo h r file (suc n) found = (before, fault, up, first, is) in
    subst (λ k. FindsUpTo h r file k found) next all

-- one more file
pub finds_more : (h : Height) (fs : List RegionFile) (f : RegionFile) (a b c : List Finding) → FindsInAll h fs a → FindsInFile h f b → c ≡ a ++ b → FindsInAll h (fs ++ (f ∷ [])) c
finds_more h [] f a b c none one all = (b, [], one, refl, all ∙ ap (λ l. l ++ b) none ∙ sym (append-nil b))
finds_more h (g ∷ fs) f a b c before one all = (
  before.0,
  before.1 ++ b,
  before.2,
  finds_more h fs f before.1 b (before.1 ++ b) before.3 one refl,
  all ∙ ap (λ l. l ++ b) before.4 ∙ append_assoc before.0 before.1 b,
)
