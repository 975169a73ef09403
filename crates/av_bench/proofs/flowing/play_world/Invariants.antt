use Rattle.av_rules.specs.Kinds.{kind_count}
use Rattle.av_cells.specs.Rule.{HasKinds}
use Rattle.av_column.specs.Views.{blocks_of}
use Rattle.av_bench.proofs.flowing.play_world.Given as goal

abbrev pub invariant-loop-index : goal.invariant-loop-index
invariant-loop-index l = HasKinds (kind_count l.kinds) (blocks_of l.column)
