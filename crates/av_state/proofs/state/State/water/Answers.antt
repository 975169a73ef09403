use Rattle.std.proofs.Common.{◌≡◌, true, sym, subst, rules}
use Rattle.av_state.specs.BlockState.{BlockState, water, is_storable}
use Rattle.av_state.specs.Views.{properties_of}
use Rattle.av_state.proofs.Storable.{water-storable}
use Rattle.av_state.proofs.state.State.water.Goals as goal

pub invariant_of-result : goal.invariant_of-result
invariant_of-result c =
    let same : record { name = c.in_ok-from_slice-3.field-0.items; properties = properties_of c.push.new.self.items } ≡ water c.args.level = search rules in
    let P : BlockState → Type 0 = λ s. is_storable s ≡ true in
    record { storable = subst P (sym same) (water-storable c.args.level c.requires) }
