use Rattle.av_commands.proofs.tables.read_height.Goals as goal

pub returns-clause-height : goal.returns-clause-height
returns-clause-height g c = record {
  table = _;
  read = c.in_ok-rules.ensures.table;
  height = c.world_height.ensures;
}
