use Rattle.std.proofs.Common.{◌+◌, sym, ◌∙◌, arith, subst, ◌≡◌}
use Rattle.av_cells.specs.Kinds.{kinds_of}
use Rattle.av_drop.specs.Fronts.{HaveNone}
use Rattle.av_drop.proofs.Nearest.{all_are_chosen, first_dropping_are_chosen, still_none}
use Rattle.av_drop.proofs.search.nearest_by_walks.Goals as goal

pub loop-steps-init : goal.loop-steps-init
loop-steps-init g c =
    record {
      seen = c.new-around.ensures (kinds_of c.args.kinds.now) (g.C.Cells.world c.args.cells.now) c.args.pos;
      fronts = c.first_fronts-fronts.ensures (kinds_of c.args.kinds.now) (g.C.Cells.world c.args.cells.now) c.args.pos c.requires.ways;
      none = c.requires.none;
    }

pub returns-then-has_any : goal.returns-then-has_any
returns-then-has_any g c =
    first_dropping_are_chosen (kinds_of c.args.kinds.now) (g.C.Cells.world c.args.cells.now) c.args.pos c.args.ways c.advance_all-next.result.drops (c.loop-steps.steps + 1) (omega (arith, c.loop-steps-test.true)) c.requires.ways
    c.loop-steps.invariant.none (c.advance_all-next.ensures.drops c.loop-steps.steps c.loop-steps-test.true c.loop-steps.invariant.fronts) (sym c.has_any.ensures ∙ c.if-has_any.true)

pub loop-steps-preserved : goal.loop-steps-preserved
loop-steps-preserved g c =
    record {
      seen = c.advance_all-next.ensures.seen;
      fronts = c.advance_all-next.ensures.fronts c.loop-steps.steps c.loop-steps-test.true c.loop-steps.invariant.fronts;
      none = still_none (kinds_of c.args.kinds.now) (g.C.Cells.world c.args.cells.now) c.args.pos c.args.ways c.advance_all-next.result.drops (c.loop-steps.steps + 1)
          c.loop-steps.invariant.none (c.advance_all-next.ensures.drops c.loop-steps.steps c.loop-steps-test.true c.loop-steps.invariant.fronts) (sym c.has_any.ensures ∙ c.if-has_any.false);
    }

pub returns : goal.returns
returns g c =
    all_are_chosen (kinds_of c.args.kinds.now) (g.C.Cells.world c.args.cells.now) c.args.pos c.args.ways c.requires.ways
    (subst (λ n. HaveNone (kinds_of c.args.kinds.now) (g.C.Cells.world c.args.cells.now) c.args.pos c.args.ways n) (let e : c.loop-steps.steps + 1 ≡ 5 = omega (arith, c.loop-steps-test.false, c.loop-steps.auto.steps-end) in e) c.loop-steps.invariant.none) c.requires.any
