use Rattle.std.proofs.Common.{◌≡◌, List, slice_get, subst, Some}
use Rattle.av_groups.specs.declared.groups.Group.{Group}
use Rattle.av_lending.specs.Brought.{IsNext}
use Rattle.av_lending.proofs.lender.Lender.lend.Goals as goal

pub lend_group-requires-clause-next : goal.lend_group-requires-clause-next
lend_group-requires-clause-next c =
    subst (λ stages. (x : Group) × (slice_get c.args.groups.now.groups.items c.in-Some.number ≡ Some x) × IsNext stages x) c.as_slice.ensures.value
    (subst (λ (gs : List Group). (x : Group) × (slice_get gs c.in-Some.number ≡ Some x) × IsNext c.as_slice.result.now x) c.as_slice-all.ensures.value c.in-Some.ensures)
