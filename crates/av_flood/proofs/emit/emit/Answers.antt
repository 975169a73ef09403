use Rattle.std.proofs.Common.{arith, subst, sym, ◌<◌}
use Rattle.av_flood.specs.Board.{raw_of}
use Rattle.av_flood.specs.Blocks.{IsNear}
use Rattle.av_flood.proofs.Boards.{matters_above}
use Rattle.av_flood.proofs.Floods.{IsGrown-pushed, IsSoundAt-emitted, WaitsIfEmitting-pushed, WaitsIfEmitting-noted, WaitsIfEmitting-off}
use Rattle.av_flood.proofs.Marks.{IsNoted-emitted, dark_marked}
use Rattle.av_flood.proofs.emit.emit.Goals as goal

pub returns-in_default-clause-ready : goal.returns-in_default-clause-ready
returns-in_default-clause-ready g c =
    WaitsIfEmitting-off _ _ c.args.flood.now.height _ _ (λ l. subst (λ h. IsNear h c.args.pos) (sym c.requires.height) (g.met.B.Blocks.near c.args.blocks.now c.args.pos l))
    (g.met.B.Blocks.dim c.args.blocks.now c.args.pos) (c.in_default.ensures {u = tt}).off

pub returns-then-level-byte-clause-ready : goal.returns-then-level-byte-clause-ready
returns-then-level-byte-clause-ready g c =
    let is = c.byte.ensures.on_board c.in-Some.ensures in
    WaitsIfEmitting-noted _ _ _ (raw_of c.args.flood.now) _ _ (c.in-Some-emission.ensures {u = tt}).1 (omega (arith, is, c.if-level-byte.true)) c.requires.noted

pub returns-clause-dark : goal.returns-clause-dark
returns-clause-dark g c =
    let known = c.in-Some-emission.ensures {u = tt} in
    let dim = g.met.B.Blocks.dim c.args.blocks.now c.args.pos in
    dark_marked (raw_of c.args.flood.now) (raw_of c.mark.new.self) c.args.pos c.in-Some-emission.level (omega (arith, known.1, dim)) c.mark.ensures.bytes c.requires.dark

pub returns-clause-noted : goal.returns-clause-noted
returns-clause-noted g c = IsNoted-emitted _ _ (raw_of c.args.flood.now) (raw_of c.mark.new.self) _ _ c.args.pos c.in-Some-emission.level c.mark.ensures.bytes c.in_ok-push.ensures c.requires.noted

pub returns-clause-grown : goal.returns-clause-grown
returns-clause-grown g c =
    let known = c.in-Some-emission.ensures {u = tt} in
    let dim = g.met.B.Blocks.dim c.args.blocks.now c.args.pos in
    let on_board = c.in-Some.ensures {u = tt} in
    let more : c.byte.result < c.in-Some-emission.level = omega (arith, c.if-level-byte.false) in
    IsGrown-pushed _ _ _ _ _ _ _ c.in_ok-push.ensures (omega (arith, known.1, dim))
    (IsSoundAt-emitted _ _ _ _ known.1 known.0 (omega arith) (matters_above _ c.args.flood.now.height _ c.in-Some.index _ on_board (let far = c.byte.ensures.far in omega (arith, far, more))))

pub returns-clause-ready : goal.returns-clause-ready
returns-clause-ready g c = WaitsIfEmitting-pushed _ _ _ _ _ _ (c.in-Some-emission.ensures {u = tt}).1 c.in_ok-push.ensures
