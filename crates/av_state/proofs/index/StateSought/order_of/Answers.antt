use Rattle.std.proofs.Common.{ap, ◌∙◌}
use Rattle.std.specs.Ordering.{nat_cmp, ordering_then}
use Rattle.std.specs.Cmp.Lexicographic.{slice_cmp}
use Rattle.av_state.specs.Order.{property_cmp}
use Rattle.av_state.specs.Views.{property_of}
use Rattle.av_state.proofs.Compared.{slice_cmp-views}
use Rattle.av_state.proofs.index.StateSought.order_of.Goals as goal

pub returns : goal.returns
returns c =
    let s = c.args.stored.now in
    let t = c.args.self.now in
    c.cmp.ensures ∙ ap (ordering_then (slice_cmp nat_cmp s.name.items t.name.items)) (slice_cmp-views property_cmp property_of property_of s.properties.items t.properties.items)
