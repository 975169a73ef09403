use Rattle.std.proofs.Common.{◌<◌, length, ap, arith}
use Rattle.av_world.specs.Views.{height_of, positions_of, blocks}
use Rattle.av_section_light.specs.Light.{IsChunkLight}
use Rattle.av_light.proofs.LampLists.{at_index}
use Rattle.av_light.proofs.dealt.LampsMaker.make.Goals as goal

pub returns : goal.returns
returns c =
    let k = c.args.self.now.kinds.now in let w = c.args.self.now.world.now in
    let same = c.positions-positions.ensures.value in
    let less : c.args.index < length c.positions-positions.result.now = omega (arith, c.requires, ap length same) in
    record {
      within = c.requires;
      light = at_index (λ p. IsChunkLight k (blocks w) (height_of w) p c.in_ok-light.light) c.positions-positions.result.now (positions_of w) c.args.index _ same less c.in_ok-light.ensures;
    }
