use Rattle.std.specs.Map.{keys_of}
use Rattle.av_cluster.proofs.Indexed.{are_distinct}
use Rattle.av_cluster.proofs.owners.Owners.entries.Goals as goal

pub returns-clause-distinct : goal.returns-clause-distinct
returns-clause-distinct c = are_distinct (keys_of c.args.self.now.entries.items) c.args.self.now.slotted.indexed.distinct
