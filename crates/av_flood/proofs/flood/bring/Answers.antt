use Rattle.std.proofs.Common.{arith, ◌-◌, ◌<◌}
use Rattle.av_flood.proofs.Floods.{IsGrown-pushed, IsSoundAt-next, IsBrought-pushed}
use Rattle.av_flood.proofs.flood.bring.Goals as goal

pub returns-clause-grown : goal.returns-clause-grown
returns-clause-grown g c =
    let known = c.in-Some.ensures {u = tt} in
    let more : c.args.seen < c.args.level - c.in-Some.cost = omega (arith, c.saturating_sub.ensures, c.if-saturating_sub-seen.false) in
    IsGrown-pushed _ _ _ _ _ _ _ c.in_ok-push.ensures (let e = known.1 in omega arith)
    (IsSoundAt-next _ _ _ _ _ _ c.requires.beside c.requires.comes known.0 (omega arith) (omega (arith, known.1)) (c.requires.matters _ more))

pub returns-clause-brought : goal.returns-clause-brought
returns-clause-brought g c =
    let more : c.args.seen < c.args.level - c.in-Some.cost = omega (arith, c.saturating_sub.ensures, c.if-saturating_sub-seen.false) in
    IsBrought-pushed _ _ _ _ _ _ _ (c.in-Some.ensures {u = tt}).1 (omega arith) c.in_ok-push.ensures
