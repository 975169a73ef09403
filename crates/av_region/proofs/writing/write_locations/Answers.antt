use Rattle.std.proofs.Common.{arith}
use Rattle.av_region.proofs.Positions.{fails_everywhere}
use Rattle.av_region.proofs.writing.write_locations.Goals as goal

pub location_for-location-requires-clause-small : goal.location_for-location-requires-clause-small
location_for-location-requires-clause-small g c = fails_everywhere _ _ c.args.payloads.now c.loop-payload.payload-index c.payload-item.result c.requires.small (omega arith) c.payload-item.is

pub sectors_for-sector-requires : goal.sectors_for-sector-requires
sectors_for-sector-requires g c = fails_everywhere _ _ c.args.payloads.now c.loop-payload.payload-index c.payload-item.result c.requires.small (omega arith) c.payload-item.is
