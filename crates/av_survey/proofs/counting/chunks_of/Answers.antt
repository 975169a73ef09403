use Rattle.std.proofs.Common.{◌≡◌, ◌≤◌, ◌∙◌, ◌+◌, sym, subst, arith, ℕ, false, true}
use Rattle.av_region.specs.Region.{IsAbsent}
use Rattle.av_survey.specs.Counting.{AreChunksBelow, start, absent, present}
use Rattle.av_survey.proofs.counting.chunks_of.Goals as goal
use Rattle.av_survey.proofs.counting.chunks_of.Goals.{then-not-is_absent, else-not-is_absent}

pub loop-index-init : goal.loop-index-init
loop-index-init c = (start, omega arith)

pub loop-index-preserved : goal.loop-index-preserved
loop-index-preserved c =
    let file = c.args.region.now.bytes.now in
    let index = c.loop-index.index in
    let before = c.loop-index.invariant.0 in
    let small = c.loop-index.invariant.1 in
    elim c.if-not-is_absent.branch [
      | then-not-is_absent w ↦
          let there : IsAbsent file index → ⊥ = λ is. (let bad : false ≡ true = sym w.if-not-is_absent.true ∙ c.is_absent.ensures.1 is in cc) in (
            subst (λ (n : ℕ). AreChunksBelow file (index + 1) n) (sym w.chunks-is) (present index c.loop-index.chunks before there),
            subst (λ (n : ℕ). n ≤ index + 1) (sym w.chunks-is) (omega arith),
          )
      | else-not-is_absent w ↦ (
        subst (λ (n : ℕ). AreChunksBelow file (index + 1) n) (sym w.chunks-is)
            (absent index c.loop-index.chunks before (c.is_absent.ensures.0 w.if-not-is_absent.false)),
        subst (λ (n : ℕ). n ≤ index + 1) (sym w.chunks-is) (omega arith),
      )
    ]
