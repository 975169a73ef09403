use Rattle.av_ticks.specs.Entries.{due_order, made_order}
use Rattle.av_ticks.proofs.EntryOrder.{due_laws, made_laws}
use Rattle.av_types.proofs.OrderLemmas.{stable_sort}
use Rattle.av_ticks.proofs.laws.ordered_is_stable_sort.Goals as goal

pub returns-clause-due : goal.returns-clause-due
returns-clause-due c = stable_sort due_order due_laws

pub returns-clause-made : goal.returns-clause-made
returns-clause-made c = stable_sort made_order made_laws
