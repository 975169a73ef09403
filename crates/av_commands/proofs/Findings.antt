-- Findings that are written one after the other.
use Rattle.std.proofs.Common.{◌≡◌, ◌∙◌, ◌<◌, ◌+◌, ap, sym, ℕ, List, ◌++◌, Option, Some, None, codes, length, take, get_or, add-one, append_assoc}
use Rattle.std.proofs.Math.Seq.{take-suc}
use Rattle.av_types.specs.Faults.{fault_text}
use Rattle.av_types.specs.declared.fault.Fault.{Fault}
use Rattle.av_types.specs.declared.position.ChunkPos.{ChunkPos}
use Rattle.av_types.specs.declared.position.RegionPos.{RegionPos}
use Rattle.av_region_files.specs.Names.{region_name_of}
use Rattle.av_survey.specs.declared.finding.Finding.{Finding}
use Rattle.av_commands.specs.CheckCommand.{chunk_text, finding_lines, finding_text, written_at}
use Rattle.av_reports.specs.Output.{line}
use Rattle.av_reports.proofs.Lines.{lines_next}

written_is : (r : RegionPos) (chunk : Option ChunkPos) (e : Fault)
    → written_at r chunk (fault_text e) ≡ line (region_name_of r ++ (codes " " ++ (chunk_text chunk ++ fault_text e)))
written_is r None e = simp append_assoc
written_is r (Some c) e = simp append_assoc

-- one finding's line more
pub findings_more : (found : List Finding) (i : ℕ) (f : Finding) → i < length found → f ≡ get_or found i f
    → finding_lines (take (i + 1) found) ≡ finding_lines (take i found) ++ written_at f.region f.chunk (fault_text f.fault)
findings_more found i f lt is =
    ap (λ (n : ℕ). finding_lines (take n found)) (add-one i)
    ∙ (ap finding_lines (take-suc found i f lt)
    ∙ (lines_next Finding finding_text (take i found) (get_or found i f)
    ∙ ap (λ (l : List ℕ). finding_lines (take i found) ++ l)
    (ap (λ (g : Finding). line (finding_text g)) (sym is) ∙ sym (written_is f.region f.chunk f.fault))))
