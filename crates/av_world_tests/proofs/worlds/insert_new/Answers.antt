use Rattle.std.proofs.Common.{subst}
use Rattle.av_types.specs.declared.position.Height.{Height}
use Rattle.av_world_tests.specs.Flat.{IsFlat}
use Rattle.av_world_tests.proofs.Plain.{plain_inserted}
use Rattle.av_world_tests.proofs.worlds.insert_new.Goals as goal

pub returns : goal.returns
returns c =
    let e = c.in_ok-insert.ensures in
    plain_inserted c.args.world.now c.insert.new.self c.args.at c.in_ok-chunk.chunk c.requires.plain (subst (λ (h : Height). IsFlat h c.in_ok-chunk.chunk) c.height.ensures c.in_ok-chunk.ensures.flat) e.grid e.whole
