use Rattle.std.proofs.Common.{◌≡◌, length}
use Rattle.std.specs.List.{All}
use Rattle.av_dealt.specs.Dealt.{AreAtIndices, IsDealt}
use Rattle.av_dealt.proofs.dealing.put_all.Given as goal

abbrev pub invariant-loop-index : goal.invariant-loop-index
invariant-loop-index g l = record {
  each : All (IsDealt (g.M.Maker.count l.maker) (g.M.Maker.is_of l.maker)) l.things.items;
  long : length l.slots.items ≡ g.M.Maker.count l.maker;
  own : AreAtIndices (g.M.Maker.is_of l.maker) l.slots.items;
}

abbrev pub decreases-loop-index : goal.decreases-loop-index
decreases-loop-index g l = length l.things.items
