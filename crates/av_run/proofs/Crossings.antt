-- What a region keeps at an index may be given back by another thread.
use Rattle.std.proofs.Crossing.{crosses}
use denote.Param.Send.{IsSend, sendable}
use Rattle.av_tags.proofs.tag.Tag.TheLaws.TheKnot as tags
use Rattle.av_tags.specs.contracts.tag.Named as Named
use Rattle.av_tags.specs.contracts.tag.Tag as Tag
use Rattle.av_chunk.specs.contracts.rest.ChunkRest as ChunkRest
use Rattle.av_image.specs.contracts.rest.Slot as Slot

-- tags hold tags
tag_send : IsSend Tag.the_row
tag_send = search (sendable, crosses, tags.crosses) depth 60 fits 20000

named_send : IsSend Named.the_row
named_send = search (sendable, crosses, tags.crosses) depth 60 fits 20000

rest_send : IsSend (ChunkRest.the_field).row
rest_send = search (sendable, crosses, tag_send, named_send) depth 60 fits 20000

pub slot_send : IsSend Slot.the_row
slot_send = search (sendable, crosses, rest_send) depth 60 fits 20000
