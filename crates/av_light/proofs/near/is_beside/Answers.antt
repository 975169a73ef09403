use Rattle.std.proofs.Common.{◌≡◌, ◌-ℤ◌, rules, subst, to_z-of_z, w64, FitsSigned}
use Rattle.std.specs.Prelude.{IsTrue, ◌↔◌}
use Rattle.av_light.specs.Lamps.{IsStep}
use Rattle.av_light.proofs.near.is_beside.Goals as goal

pub returns : goal.returns
returns c =
    let east = c.args.other.x -ℤ c.args.chunk.x in
    let south = c.args.other.z -ℤ c.args.chunk.z in
    let fits_x : FitsSigned w64 c.steps-x.result = search rules in
    let fits_z : FitsSigned w64 c.steps-z.result = search rules in
    let x : c.steps-x.result ≡ east = search rules in
    let z : c.steps-z.result ≡ south = search rules in
    let h = simp to_z-of_z at c.is_step.ensures in
    subst (λ b. IsTrue c.is_step.result ↔ IsStep east b) z (subst (λ a. IsTrue c.is_step.result ↔ IsStep a c.steps-z.result) x h)
