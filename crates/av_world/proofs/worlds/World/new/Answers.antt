use Rattle.std.proofs.Common.{List, ap}
use Rattle.av_chunk.specs.declared.chunk.Chunk.{Chunk}
use Rattle.av_world.specs.Sections.{grid_of}
use Rattle.av_world.proofs.Filled.{whole_empty}
use Rattle.av_world.proofs.worlds.World.new.Goals as goal

pub returns-clause-whole : goal.returns-clause-whole
returns-clause-whole c =
    whole_empty c.args.height c.new.result.items (grid_of c.args.height c.new.result.items c.new-2.result.items)
    (λ s. ap (λ (cs : List Chunk). grid_of c.args.height c.new.result.items cs s) c.new-2.ensures.items) c.new.ensures.items
