use Rattle.std.proofs.Common.{◌≡◌, ◌∙◌, sym, subst, ℕ, List}
use Rattle.std.specs.Cmp.{booleans_Decides}
use Rattle.av_exchange.specs.Marks.{line_at}
use Rattle.av_exchange.specs.Steps.{IfTold}
use Rattle.av_exchange.proofs.Marked.{is_marked}
use Rattle.av_exchange.proofs.marks.check_mark.Goals as goal

pub returns-then-waits-is_old : goal.returns-then-waits-is_old
returns-then-waits-is_old g c =
    let lined = subst (λ (l : List ℕ). IfTold (g.F.Folder.history c.args.folder.now) (λ h. l ≡ line_at (g.F.Folder.mark_of c.args.folder.now) h c.args.name.now))
    (sym c.as_str-2.ensures.value) c.in_ok-line.ensures in
    is_marked _ _ c.args.name.now c.as_str.result.now c.args.mark.now c.as_str-2.result.now c.in_ok-mark.field-0 c.is_some-waits.result c.eq-is_old.result
    (c.as_str.ensures.value ∙ c.in_ok-part.ensures) c.in_ok-mark.ensures c.is_some-waits.ensures lined c.eq-is_old.ensures
    ((booleans_Decides c.is_some-waits.result c.eq-is_old.result).0 c.if-waits-is_old.true)
