use Rattle.std.proofs.Common.{◌≡◌, length}
use Rattle.std.specs.List.{All}
use Rattle.av_dealt.specs.Dealt.{AreAtIndices, IsTaken}
use Rattle.av_dealt.proofs.dealing.gathered.Given as goal

abbrev pub invariant-loop-things : goal.invariant-loop-things
invariant-loop-things g l = record {
  each : All (IsTaken (g.M.Maker.count l.maker) (g.M.Maker.is_of l.maker)) l.taken.items;
  long : length l.slots.items ≡ g.M.Maker.count l.maker;
  own : AreAtIndices (g.M.Maker.is_of l.maker) l.slots.items;
}

abbrev pub decreases-loop-things : goal.decreases-loop-things
decreases-loop-things g l = length l.taken.items
