use Rattle.std.proofs.Common.{◌<◌, sym, subst, arith, List, ℕ, length, take}
use Rattle.std.specs.Io.KnownBytes.{Appends}
use Rattle.av_changes.specs.Changes.{change_line, change_lines}
use Rattle.av_changes.proofs.Lines.{appends_more, appends_none, changes_more}
use Rattle.av_changes.proofs.telling.write_changes.Goals as goal

pub loop-change-init : goal.loop-change-init
loop-change-init g c = appends_none (g.O.Write.contents c.args.out.now)

pub loop-change-preserved : goal.loop-change-preserved
loop-change-preserved g c =
    let changes = c.args.changes.now in
    let verb = c.args.verb.now in
    let i = c.loop-change.change-index in
    let change = c.change-item.result in
    let wrote : Appends (g.O.Write.contents c.loop-change.out) (g.O.Write.contents c.write_change.new.out) (change_line verb change) = c.in_ok-write_change.ensures in
    let within : i < length changes = omega arith in
    let more = changes_more verb changes i change within c.change-item.is in
    subst (λ (t : List ℕ). Appends (g.O.Write.contents c.args.out.now) (g.O.Write.contents c.write_change.new.out) t) (sym more)
    (appends_more (g.O.Write.contents c.args.out.now) (g.O.Write.contents c.loop-change.out) (g.O.Write.contents c.write_change.new.out)
    (change_lines verb (take i changes)) (change_line verb change) c.loop-change.invariant wrote)
