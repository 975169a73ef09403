use Rattle.std.proofs.Common.{◌≡◌, ℕ, List, Option, Some, None, IfSome, IfNone, map, slice_get, sym, subst}
use Rattle.av_state.specs.BlockState.{BlockState}
use Rattle.av_state.specs.StateList.{number_in}
use Rattle.av_state.specs.States.{state_of}
use Rattle.av_state.specs.declared.state.State.{State}
use Rattle.av_state.proofs.Found.{number_in-found}
use Rattle.av_state.proofs.table.StateTable.find.Goals as goal

pub returns : goal.returns
returns g c = by c.find.result c.find.ensures.there c.find.ensures.absent
  where
    s : BlockState
    s = g.T.Sought.sought c.args.sought.now

    read : List BlockState
    read = map state_of c.as_slice.result.now

    by : (o : Option ℕ) → IfSome o (λ n. slice_get read n ≡ Some s) → IfNone o (number_in read s ≡ None) → o ≡ number_in (map state_of c.args.self.now.states.items) s
    by (Some n) there absent = sym (number_in-found c.as_slice.ensures.value c.args.self.now.numbered there)
    by None there absent = sym (subst (λ (xs : List State). number_in (map state_of xs) s ≡ None) c.as_slice.ensures.value absent)
