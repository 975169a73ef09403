-- What a region's rest holds, and a table, may be read by several threads; what a thread reads may go to another.
use Rattle.std.proofs.Crossing.{crosses}
use denote.Param.Send.{IsSend, IsSync, sendable}
use Rattle.av_tags.proofs.tag.Tag.TheLaws.TheKnot as tags
use Rattle.av_tags.specs.contracts.tag.Named as Named
use Rattle.av_tags.specs.contracts.tag.Tag as Tag
use Rattle.av_state.specs.contracts.table.StateTable as StateTable
use Rattle.av_chunk.specs.contracts.chunk.Reading as Reading
use Rattle.av_chunk.specs.contracts.rest.ChunkRest as ChunkRest
use Rattle.av_world.proofs.Crossings.{ticks_send}
use Rattle.av_image.specs.contracts.rest.RegionRest as RegionRest

pub table_sync : IsSync StateTable.the_row
table_sync = search (sendable, crosses) depth 60 fits 20000

-- tags hold tags
tag_sync : IsSync Tag.the_row
tag_sync = search (sendable, crosses, tags.crosses) depth 60 fits 20000

tag_send : IsSend Tag.the_row
tag_send = search (sendable, crosses, tags.crosses) depth 60 fits 20000

named_sync : IsSync Named.the_row
named_sync = search (sendable, crosses, tags.crosses) depth 60 fits 20000

named_send : IsSend Named.the_row
named_send = search (sendable, crosses, tags.crosses) depth 60 fits 20000

rest_sync : IsSync (ChunkRest.the_field).row
rest_sync = search (sendable, crosses, tag_sync, named_sync) depth 60 fits 20000

rest_send : IsSend (ChunkRest.the_field).row
rest_send = search (sendable, crosses, tag_send, named_send) depth 60 fits 20000

pub region_sync : IsSync RegionRest.the_row
region_sync = search (sendable, crosses, rest_sync) depth 60 fits 20000

pub reading_send : IsSend Reading.the_row
reading_send = search (sendable, crosses, rest_send, ticks_send) depth 60 fits 20000
