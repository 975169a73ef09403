use Rattle.std.proofs.Common.{◌≡◌, drop}
use Rattle.std.specs.List.{list_all}
use Rattle.av_types.specs.declared.tick.Entry.{Entry}
use Rattle.av_world.specs.Views.{blocks}
use Rattle.av_serial_tests.proofs.runs.all_loaded.Given as goal

abbrev pub invariant-loop-entry : goal.invariant-loop-entry
invariant-loop-entry l = list_all (λ (e : Entry). (blocks l.world).loaded e.pos) (drop l.entry-index l.entries) ≡ list_all (λ (e : Entry). (blocks l.world).loaded e.pos) l.entries
