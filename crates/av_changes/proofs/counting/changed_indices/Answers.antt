use Rattle.std.proofs.Common.{◌≡◌, ◌≤◌, ◌∙◌, ◌+◌, sym, subst, arith, ℕ, false, true}
use Rattle.av_changes.specs.Changes.{AreChangedBelow, IsSameAt, start, same, other}
use Rattle.av_changes.proofs.counting.changed_indices.Goals as goal
use Rattle.av_changes.proofs.counting.changed_indices.Goals.{then-not-is_same_at, else-not-is_same_at}

pub loop-index-init : goal.loop-index-init
loop-index-init c = (start, omega arith)

pub loop-index-preserved : goal.loop-index-preserved
loop-index-preserved c =
    let old = c.args.old.now.bytes.now in
    let new = c.args.new.now.bytes.now in
    let index = c.loop-index.index in
    let before = c.loop-index.invariant.0 in
    let small = c.loop-index.invariant.1 in
    elim c.if-not-is_same_at.branch [
      | then-not-is_same_at w ↦
          let differs : IsSameAt old new index → ⊥ = λ is. (let bad : false ≡ true = sym w.if-not-is_same_at.true ∙ c.is_same_at.ensures.1 is in cc) in (
            subst (λ (n : ℕ). AreChangedBelow old new (index + 1) n) (sym w.changed-is) (other index c.loop-index.changed before differs),
            subst (λ (n : ℕ). n ≤ index + 1) (sym w.changed-is) (omega arith),
          )
      | else-not-is_same_at w ↦ (
        subst (λ (n : ℕ). AreChangedBelow old new (index + 1) n) (sym w.changed-is)
            (same index c.loop-index.changed before (c.is_same_at.ensures.0 w.if-not-is_same_at.false)),
        subst (λ (n : ℕ). n ≤ index + 1) (sym w.changed-is) (omega arith),
      )
    ]
