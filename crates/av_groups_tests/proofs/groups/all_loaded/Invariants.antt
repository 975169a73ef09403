use Rattle.std.proofs.Common.{ℕ, ◌<◌, IsTrue, get_or}
use Rattle.av_types.specs.declared.tick.Entry.{Entry}
use Rattle.av_world.specs.Views.{blocks}
use Rattle.av_groups_tests.proofs.groups.all_loaded.Given as goal

abbrev pub invariant-loop-entry : goal.invariant-loop-entry
invariant-loop-entry l = (j : ℕ) (d : Entry) → j < l.entry-index → IsTrue ((blocks l.world).loaded (get_or l.entries j d).pos)
