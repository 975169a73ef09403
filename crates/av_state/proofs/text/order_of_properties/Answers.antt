use Rattle.std.proofs.Common.{◌≡◌, ◌∙◌, sym, length, arith}
use Rattle.av_state.specs.Order.{property_cmp}
use Rattle.av_state.specs.Texts.{property_told}
use Rattle.av_state.specs.Views.{property_of}
use Rattle.av_state.proofs.Compared.{longer, ended}
use Rattle.av_state.proofs.text.order_of_properties.Goals as goal

pub returns-then-index-sought : goal.returns-then-index-sought
returns-then-index-sought c =
    sym (longer property_cmp property_of property_told c.loop-index.index c.args.stored.now c.args.sought.now (omega arith) (omega arith)) ∙ c.loop-index.invariant.1

pub returns : goal.returns
returns c =
    let all : c.loop-index.index ≡ length c.args.stored.now = omega arith in
    ended property_cmp property_of property_told c.cmp.result c.loop-index.index c.args.stored.now c.args.sought.now c.cmp.ensures all c.loop-index.invariant.0 ∙ c.loop-index.invariant.1
