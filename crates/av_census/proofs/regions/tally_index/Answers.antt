use Rattle.av_types.specs.Positions.{chunk_at}
use Rattle.av_codec.proofs.Found.{if_ok_then}
use Rattle.av_census.proofs.Chunks.{counted_few}
use Rattle.av_census.proofs.Files.{tallies_index}
use Rattle.av_census.proofs.regions.tally_index.Goals as goal

pub add_counted-requires-clause-few : goal.add_counted-requires-clause-few
add_counted-requires-clause-few c =
    let i = c.in_ok-counted.ensures in
    counted_few c.in_ok-counted.counted i.blocks i.left_out i.is i.few

pub returns : goal.returns
returns c =
    let i = c.in_ok-counted.ensures in
    if_ok_then c.add_counted.result c.add_counted.ensures
    (λ left_out added. tallies_index c.args.height c.args.region.now.bytes.now (chunk_at c.args.pos c.args.index) c.args.index c.args.tally.now c.add_counted.new.tally c.in_ok-counted.counted left_out i (added i.blocks i.left_out i.is))
