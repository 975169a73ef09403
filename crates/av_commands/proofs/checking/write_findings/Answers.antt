use Rattle.std.proofs.Common.{◌<◌, sym, subst, arith, List, ℕ, length, take}
use Rattle.std.specs.Io.KnownBytes.{Appends}
use Rattle.av_types.specs.Faults.{fault_text}
use Rattle.av_commands.specs.CheckCommand.{finding_lines, written_at}
use Rattle.av_commands.proofs.Findings.{findings_more}
use Rattle.av_reports.proofs.Lines.{appends_more, appends_none}
use Rattle.av_commands.proofs.checking.write_findings.Goals as goal

pub loop-finding-init : goal.loop-finding-init
loop-finding-init g c = appends_none (g.O.Write.contents c.args.out.now)

pub loop-finding-preserved : goal.loop-finding-preserved
loop-finding-preserved g c =
    let found = c.args.found.now in
    let i = c.loop-finding.finding-index in
    let f = c.finding-item.result in
    let wrote : Appends (g.O.Write.contents c.loop-finding.out) (g.O.Write.contents c.write_finding.new.out) (written_at f.region f.chunk (fault_text f.fault)) =
    c.in_ok-write_finding.ensures in
    let within : i < length found = omega arith in
    let more = findings_more found i f within c.finding-item.is in
    subst (λ (t : List ℕ). Appends (g.O.Write.contents c.args.out.now) (g.O.Write.contents c.write_finding.new.out) t) (sym more)
    (appends_more (g.O.Write.contents c.args.out.now) (g.O.Write.contents c.loop-finding.out) (g.O.Write.contents c.write_finding.new.out)
    (finding_lines (take i found)) (written_at f.region f.chunk (fault_text f.fault)) c.loop-finding.invariant wrote)
