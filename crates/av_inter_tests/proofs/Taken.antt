-- A world of air, water and stone, whose due entries left their lists, has kinds for all its blocks.
use Rattle.std.proofs.Common.{◌≡◌, ℕ, ◌≤◌, ◌<◌, IsTrue, Bool, subst, sym, arith}
use Rattle.av_types.specs.declared.position.Pos.{Pos}
use Rattle.av_cells.specs.Rule.{HasKinds}
use Rattle.av_cells.specs.World.{World}

pub kinds_left : (n : ℕ) (old new : World) → 11 ≤ n → new.loaded ≡ old.loaded → new.number ≡ old.number → HasKinds 11 old → HasKinds n new
kinds_left n old new most here same known = λ p t.
    let low : old.number p < 11 = known p (subst (λ (f : Pos → Bool). IsTrue (f p)) here t) in
    let most_low : old.number p < n = omega arith in
    subst (λ (f : Pos → ℕ). f p < n) (sym same) most_low
