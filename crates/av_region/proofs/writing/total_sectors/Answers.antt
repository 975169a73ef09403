use Rattle.std.proofs.Common.{arith}
use Rattle.av_region.proofs.Positions.{fails_everywhere}
use Rattle.av_region.proofs.writing.total_sectors.Goals as goal

pub sectors_for-sectors-requires : goal.sectors_for-sectors-requires
sectors_for-sectors-requires g c = fails_everywhere _ _ c.args.payloads.now c.loop-payload.payload-index c.payload-item.result c.requires.small (omega arith) c.payload-item.is
