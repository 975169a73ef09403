use Rattle.av_codec.proofs.Found.{if_ok_then}
use Rattle.av_map.specs.Payloads.{bad}
use Rattle.av_map.proofs.reading.Scene.read_patch.Goals as goal

pub returns-in-Err : goal.returns-in-Err
returns-in-Err c = if_ok_then c.unread.result c.unread.ensures (λ patch is. bad c.in-Err.fault is.0 (c.in-Err.ensures.err is.0) is.1)
