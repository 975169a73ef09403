-- The owner stands where the section does.
use Rattle.std.proofs.Common.{sym, arith}
use Rattle.std.specs.BTreeMap.{get}
use Rattle.std.specs.Map.{keys_of}
use Rattle.av_cluster.specs.Indices.{key_cmp, index_in}
use Rattle.av_cluster.specs.Joining.{key_of}
use Rattle.av_cluster.proofs.Indexed.{found_there, found_owner}
use Rattle.av_cluster.proofs.owners.Owners.owner.Goals as goal

pub index-requires-2 : goal.index-requires-2
index-requires-2 c =
    let s = c.args.self.now in
    let low = found_there (index_in s.slots.items (keys_of s.entries.items) (get key_cmp s.others)) s.entries.items (key_of c.args.section) c.in_ok-index.index s.slotted.indexed (sym c.in_ok-index.ensures) in
    omega (arith, low, s.entries.ok.0)

pub returns : goal.returns
returns c =
    let s = c.args.self.now in
    sym (found_owner (index_in s.slots.items (keys_of s.entries.items) (get key_cmp s.others)) s.entries.items (key_of c.args.section) c.in_ok-index.index c.index-2.result.now s.slotted.indexed (sym c.in_ok-index.ensures) c.index-2.ensures)
