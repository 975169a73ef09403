use Rattle.std.proofs.Common.{rules, get_or, arith}
use Rattle.std.proofs.lemmas.List.Sorted.{IsPartitionPoint-from_clause}
use Rattle.av_world.specs.Index.{before}
use Rattle.av_world.proofs.Search.{parted}
use Rattle.av_world.proofs.Inserting.{before_or_after, absent_all}
use Rattle.av_world.proofs.slots.insertion_index.Goals as goal

pub returns : goal.returns
returns c =
    let ps = c.args.positions.now in let at = c.args.chunk in
    let point = IsPartitionPoint-from_clause (λ p. before p at) ps c.partition_point.result c.partition_point.ensures.partitioned (parted ps at c.requires.rising) (search rules) in
    record {
      most = omega arith;
      low = λ k d l. point.0 k d (omega arith) l;
      high = λ k d l b. before_or_after (get_or ps k d) at (point.1 k d l b) (absent_all ps at c.requires.absent k d b);
    }
