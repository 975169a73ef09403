use Rattle.std.proofs.Common.{◌≡◌, ◌≤◌, subst, sym}
use Rattle.av_pack.specs.Packing.{bits_for}
use Rattle.av_pack.proofs.Bits.{searching_from_4, searching_more, searching_done}
use Rattle.av_pack.proofs.Laws.{bits_for-least}
use Rattle.av_pack.proofs.packing.bits_for.Goals as goal

pub loop-bits-init : goal.loop-bits-init
loop-bits-init c = searching_from_4 c.args.len

pub loop-bits-preserved : goal.loop-bits-preserved
loop-bits-preserved c = searching_more _ _ c.requires c.loop-bits.invariant c.loop-bits-test.true

pub returns-clause-least : goal.returns-clause-least
returns-clause-least c =
    let value : c.loop-bits.bits ≡ bits_for c.args.len = (searching_done c.loop-bits.bits c.args.len c.loop-bits.invariant c.loop-bits-test.false).0 in
    λ bits low few. subst (λ b. b ≤ bits) (sym value) (bits_for-least c.args.len bits low few)
