use Rattle.av_world.specs.Views.{positions_of, blocks}
use Rattle.av_section_light.specs.Light.{terrain_of}
use Rattle.av_section_light.specs.Lamps.{HasLamps}
use Rattle.av_light.proofs.LampLists.{AreLamps-all, has_lists}
use Rattle.av_light.proofs.lamps.Lamps.new.Goals as goal

pub invariant_of-result : goal.invariant_of-result
invariant_of-result g c =
    let k = c.args.kinds.now in let w = c.args.world.now in
    record {
      known = AreLamps-all k w _ (λ i d less. has_lists (HasLamps (terrain_of k (blocks w))) (positions_of w) c.in_ok-lists.lists.items (c.in_ok-lists.ensures {u = tt}) i d less);
    }
