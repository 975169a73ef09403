use Rattle.std.proofs.Common.{arith, ◌≡◌, length, subst}
use Rattle.av_world.specs.Views.{blocks}
use Rattle.av_cluster.specs.Joining.{owner_in, IsNoted, IsBefore}
use Rattle.av_cluster.proofs.clusters.connect.Goals as goal

pub returns : goal.returns
returns c =
    let e : c.loop-index.index ≡ length c.args.entries.now = (let a = c.loop-index-test.false in let b = c.loop-index.auto.index-end in omega arith) in
    subst (λ n. IsNoted (blocks c.args.world.now) c.args.entries.now c.loop-index.parents (owner_in c.loop-index.owners.entries.items) (IsBefore (blocks c.args.world.now) c.args.entries.now n)) e c.loop-index.invariant
