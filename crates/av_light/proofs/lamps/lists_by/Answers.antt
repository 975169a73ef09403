use Rattle.std.proofs.Common.{ap, ◌∙◌, Vec, Global}
use Rattle.rayon.proofs.ToStd.{slice-AllZip}
use Rattle.av_types.specs.declared.position.Pos.{Pos}
use Rattle.av_types.specs.declared.position.ChunkPos.{ChunkPos}
use Rattle.av_world.specs.Views.{positions_of, blocks}
use Rattle.av_section_light.specs.Light.{terrain_of}
use Rattle.av_section_light.specs.Lamps.{HasLamps}
use Rattle.av_light.proofs.LampLists.{GoodAt, all_good}
use Rattle.av_light.proofs.lamps.lists_by.Goals as goal

pub returns : goal.returns
returns g c =
    let w = c.args.world.now in
    let has : ChunkPos → Vec Pos Global → Type 0 = λ d xs. HasLamps (terrain_of c.args.kinds.now (blocks w)) d xs.items in
    let h = c.in_ok-lists.ensures {u = tt} in
    let chain = rw (c.map.ensures.base, c.map.ensures.f) at h.1 in
    let slice = ap (λ it. it.slice.now) c.with_min_len.ensures.base ∙ c.par_iter.ensures in
    let zip = slice-AllZip chain.0 (positions_of w) (chain.1 ∙ slice ∙ c.positions-positions.ensures.value) (GoodAt _ has) h.0 chain.2 in
    all_good _ (λ v. v.items) has (positions_of w) h.0 c.in_ok-lists.lists zip h.2
