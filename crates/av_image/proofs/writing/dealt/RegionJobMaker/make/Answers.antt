use Rattle.av_image.proofs.SlotPayloads.{loaded_slot, loaded_is}
use Rattle.av_image.proofs.writing.dealt.RegionJobMaker.make.Goals as goal

pub loaded_payload-requires-clause-there : goal.loaded_payload-requires-clause-there
loaded_payload-requires-clause-there c =
    (loaded_slot c.args.self.now c.args.index c.index.result.now c.requires c.index.ensures c.chunk_at-at.result c.in-Loaded.rest c.chunk_at-at.ensures c.in-Loaded.is).0

pub loaded_payload-requires-clause-own : goal.loaded_payload-requires-clause-own
loaded_payload-requires-clause-own c =
    (loaded_slot c.args.self.now c.args.index c.index.result.now c.requires c.index.ensures c.chunk_at-at.result c.in-Loaded.rest c.chunk_at-at.ensures c.in-Loaded.is).1

pub loaded_payload-requires-clause-height : goal.loaded_payload-requires-clause-height
loaded_payload-requires-clause-height c =
    (loaded_slot c.args.self.now c.args.index c.index.result.now c.requires c.index.ensures c.chunk_at-at.result c.in-Loaded.rest c.chunk_at-at.ensures c.in-Loaded.is).2

pub returns : goal.returns
returns c =
    loaded_is c.args.self.now c.args.index c.index.result.now c.requires c.index.ensures c.chunk_at-at.result c.in-Loaded.rest c.in_ok-bytes.bytes.items c.chunk_at-at.ensures c.in-Loaded.is c.in_ok-bytes.ensures
