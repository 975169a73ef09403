use Rattle.std.proofs.Common.{◌≡◌, ◌+◌, sym, ap, ◌∙◌, arith}
use Rattle.av_cells.specs.Kinds.{kinds_of}
use Rattle.av_cells.specs.Positions.{step}
use Rattle.av_cells.specs.Rule.{can_pass, can_drop}
use Rattle.av_drop.proofs.Ahead.{first_is_front, next_is_front, drops_is}
use Rattle.av_drop.proofs.Nearest.{none_at_first, none_at_next}
use Rattle.av_drop.proofs.Walks.{first_is_drop, none_is_drop}
use Rattle.av_drop.proofs.search.drop_distance.Goals as goal

pub returns-then-first : goal.returns-then-first
returns-then-first g c =
    let k = kinds_of c.args.kinds.now in
    let w = g.C.Cells.world c.args.cells.now in
    first_is_drop k w (step c.args.pos c.args.direction) 0 (omega arith)
    (sym (ap (can_drop k w 0) c.step.ensures) ∙ sym c.look-first.ensures.drops_is ∙ c.if-first.true)
    (λ m less. absurd (omega (arith, less)))

pub loop-steps-init : goal.loop-steps-init
loop-steps-init g c =
    let k = kinds_of c.args.kinds.now in
    let w = g.C.Cells.world c.args.cells.now in
    let at : c.step.result ≡ step c.args.pos c.args.direction = c.step.ensures in
    record {
      seen = c.new-around.ensures k w c.args.pos;
      front = first_is_front k w c.args.pos c.args.direction c.look-first.result.passes c.first_front-front.result c.first_front-front.ensures (c.look-first.ensures.passes_is ∙ ap (can_pass k w) at);
      none = none_at_first k w (step c.args.pos c.args.direction) (ap (can_drop k w 0) (sym at) ∙ sym c.look-first.ensures.drops_is ∙ c.if-first.false);
    }

pub returns-then-next : goal.returns-then-next
returns-then-next g c =
    let k = kinds_of c.args.kinds.now in
    let w = g.C.Cells.world c.args.cells.now in
    let i = c.loop-steps.invariant in
    let s = step c.args.pos c.args.direction in
    let next = c.advance-next in
    first_is_drop k w s (c.loop-steps.steps + 1) (omega (arith, c.loop-steps-test.true))
    (sym (drops_is k w c.args.pos s (c.loop-steps.steps + 1) c.loop-steps.front next.result.front next.result.drops (next_is_front k w c.args.pos s c.loop-steps.steps c.loop-steps.front next.result.front next.result.drops c.loop-steps-test.true i.front next.ensures.is) next.ensures.is) ∙ c.if-next.true)
    i.none

pub loop-steps-preserved : goal.loop-steps-preserved
loop-steps-preserved g c =
    let k = kinds_of c.args.kinds.now in
    let w = g.C.Cells.world c.args.cells.now in
    let i = c.loop-steps.invariant in
    let s = step c.args.pos c.args.direction in
    let next = c.advance-next in
    record {
      seen = next.ensures.seen;
      front = next_is_front k w c.args.pos s c.loop-steps.steps c.loop-steps.front next.result.front next.result.drops c.loop-steps-test.true i.front next.ensures.is;
      none = none_at_next k w s c.loop-steps.steps i.none
          (sym (drops_is k w c.args.pos s (c.loop-steps.steps + 1) c.loop-steps.front next.result.front next.result.drops (next_is_front k w c.args.pos s c.loop-steps.steps c.loop-steps.front next.result.front next.result.drops c.loop-steps-test.true i.front next.ensures.is) next.ensures.is) ∙ c.if-next.false);
    }

pub returns : goal.returns
returns g c =
    none_is_drop (kinds_of c.args.kinds.now) (g.C.Cells.world c.args.cells.now) (step c.args.pos c.args.direction)
    (λ m less. c.loop-steps.invariant.none m (omega (arith, less, c.loop-steps-test.false, c.loop-steps.auto.steps-end)))
