-- What `check` prints.
use Rattle.std.specs.Prelude.{◌≡◌, ◌≢◌, ℕ, Bool, List, [], ◌∷◌, ◌++◌, Option, Some, None, codes, cond}
use Rattle.std.specs.List.{list_any}
use Rattle.std.specs.Fmt.{decimal, signed_decimal}
use Rattle.av_types.specs.Faults.{fault_text}
use Rattle.av_types.specs.declared.fault.Fault.TheVariants.{Device}
use Rattle.av_types.specs.declared.position.ChunkPos.{ChunkPos}
use Rattle.av_types.specs.declared.position.RegionPos.{RegionPos}
use Rattle.av_region_files.specs.Names.{region_name_of}
use Rattle.av_survey.specs.declared.finding.Finding.{Finding}
use Rattle.av_commands.specs.declared.checking.Counts.{Counts}
use Rattle.av_reports.specs.declared.failure.UnreadFile.{UnreadFile}
use Rattle.av_reports.specs.Output.{is_compression, lines_of, packed_advice}
use Rattle.av_reports.specs.Reasons.{TellsFailure}

-- `CX CZ `, the chunk's coordinates in the world, or nothing where a whole file is meant
abbrev pub chunk_text : Option ChunkPos → List ℕ
chunk_text None = []
chunk_text (Some c) = signed_decimal c.x ++ (codes " " ++ (signed_decimal c.z ++ codes " "))

-- `r.X.Z.mca FAULT` or `r.X.Z.mca CX CZ FAULT`
abbrev pub finding_text : Finding → List ℕ
finding_text f = region_name_of f.region ++ (codes " " ++ (chunk_text f.chunk ++ fault_text f.fault))

-- a line for each finding, in their order
abbrev pub finding_lines : List Finding → List ℕ
finding_lines found = lines_of finding_text found

-- each file that could not be read, one after the other
abbrev pub TellsUnread : Bool → List UnreadFile → Option (List ℕ) → Option (List ℕ) → Type 0
TellsUnread explains [] before after = after ≡ before
TellsUnread explains (u ∷ us) before after = (next : Option (List ℕ)) × TellsFailure explains (Device u.name) before next × TellsUnread explains us next after

-- how to go on, where a chunk has another compression: once, for all of them
abbrev pub advice_on : List Finding → List ℕ
advice_on found = cond (list_any (λ f. is_compression f.fault) found) packed_advice []

-- what a call leaves on its output for findings, and its status: nothing and 0 for none, 1 where there are some
pub data HasFindings (found : List Finding) (before after : Option (List ℕ)) (status : ℕ) : Type 0 where
  none : found ≡ [] → after ≡ before → status ≡ 0 → HasFindings found before after status
  some : found ≢ [] → status ≡ 1 → HasFindings found before after status

-- `F files, C chunks, N findings`
abbrev pub counts_text : Counts → List ℕ
counts_text c = decimal c.files ++ (codes " files, " ++ (decimal c.chunks ++ (codes " chunks, " ++ (decimal c.findings ++ codes " findings"))))

-- ---- working definition: a finding's line as it is written, piece after piece

abbrev pub written_at : RegionPos → Option ChunkPos → List ℕ → List ℕ
written_at r None fault =
    codes "r." ++ (signed_decimal r.x ++ (codes "." ++ (signed_decimal r.z ++ (codes ".mca " ++ (fault ++ 10 ∷ [])))))
written_at r (Some c) fault =
    codes "r." ++ (signed_decimal r.x ++ (codes "." ++ (signed_decimal r.z ++ (codes ".mca "
    ++ (signed_decimal c.x ++ (codes " " ++ (signed_decimal c.z ++ (codes " " ++ (fault ++ 10 ∷ [])))))))))
