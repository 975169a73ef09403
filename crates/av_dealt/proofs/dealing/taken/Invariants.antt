use Rattle.std.specs.List.{All}
use Rattle.av_dealt.specs.Dealt.{IsDealt}
use Rattle.av_dealt.proofs.dealing.taken.Given as goal

abbrev pub invariant-loop : goal.invariant-loop
invariant-loop g l = All (IsDealt (g.M.Maker.count l.maker) (g.M.Maker.is_of l.maker)) l.things.items
