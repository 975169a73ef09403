use Rattle.std.proofs.Common.{◌≡◌, length, take}
use Rattle.std.specs.List.{AllZip}
use Rattle.av_world.specs.Views.{height_of, positions_of, blocks}
use Rattle.av_section_light.specs.Light.{IsChunkLight}
use Rattle.av_dealt.specs.Dealt.{AreAtIndices}
use Rattle.av_light.specs.AtIndex.{IsChunkLightAt}
use Rattle.av_light.proofs.dealt.in_order.Given as goal

abbrev pub invariant-loop-index : goal.invariant-loop-index
invariant-loop-index l =
    record {
      lit : AllZip (IsChunkLight l.lamps.kinds.now (blocks l.lamps.world.now) (height_of l.lamps.world.now)) (take l.index (positions_of l.lamps.world.now)) l.lights.items;
      long : length l.slots.items ≡ length (positions_of l.lamps.world.now);
      own : AreAtIndices (IsChunkLightAt l.lamps.kinds.now l.lamps.world.now) l.slots.items;
    }
