use Rattle.std.proofs.Common.{◌∙◌, ap}
use Rattle.av_nbt.specs.Writing.{written_document}
use Rattle.av_image.proofs.writing.payloads.written_chunk.Goals as goal

pub returns : goal.returns
returns c = c.in-Ok-encode.ensures.written ∙ ap written_document c.in-Ok.ensures.ok
