use Rattle.std.proofs.lemmas.Slice.Zip.{AllZip-long}
use Rattle.av_world.specs.Views.{height_of, positions_of, blocks}
use Rattle.av_section_light.specs.Light.{IsChunkLight}
use Rattle.av_light.proofs.Lit.{lit, all_sections}
use Rattle.av_light.proofs.all.light_all.Goals as goal

pub returns-clause-count : goal.returns-clause-count
returns-clause-count g c =
    let k = c.args.kinds.now in let w = c.args.world.now in
    AllZip-long (IsChunkLight k (blocks w) (height_of w)) (positions_of w) _ (c.in_ok-lights.ensures {u = tt})

pub returns-clause-sections : goal.returns-clause-sections
returns-clause-sections g c =
    let k = c.args.kinds.now in let w = c.args.world.now in
    all_sections k (blocks w) (height_of w) (positions_of w) _ (c.in_ok-lights.ensures {u = tt})

pub returns-clause-blocks : goal.returns-clause-blocks
returns-clause-blocks g c = lit c.args.kinds.now c.args.world.now _ (c.in_ok-lights.ensures {u = tt})
