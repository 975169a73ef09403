use Rattle.std.proofs.Common.{◌≡◌, All, None, take}
use Rattle.av_world.proofs.lending.are_out.Given as goal

abbrev pub invariant-loop-section : goal.invariant-loop-section
invariant-loop-section l = All (λ o. o ≡ None) (take l.section-index l.sections)
