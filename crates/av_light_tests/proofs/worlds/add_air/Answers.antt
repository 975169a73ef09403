use Rattle.std.proofs.Common.{subst}
use Rattle.av_types.specs.declared.position.Height.{Height}
use Rattle.av_world.specs.Inserted.{IsNewChunk}
use Rattle.av_light_tests.proofs.worlds.add_air.Goals as goal

pub insert-requires-clause-fits : goal.insert-requires-clause-fits
insert-requires-clause-fits c = subst (λ (h : Height). IsNewChunk c.args.at h c.in_ok-chunk.chunk) c.height-height.ensures (c.in_ok-chunk.ensures c.args.at)
