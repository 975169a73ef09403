use Rattle.std.proofs.Common.{arith, refl, subst, sym, ◌∙◌, ◌≡◌, ◌-◌, ◌+◌}
use Rattle.av_flood.specs.Board.{light_of, raw_of}
use Rattle.av_flood.specs.Flooding.{IsFlooding, IsMarked, todo_of}
use Rattle.av_flood.proofs.Boards.{matters_own, lit_raw}
use Rattle.av_flood.proofs.Floods.{IsFlooding-started, IsLight-flooded}
use Rattle.av_flood.proofs.Marks.{IsMarked-noted}
use Rattle.av_flood.proofs.flood.fill.Goals as goal

pub loop-step-init : goal.loop-step-init
loop-step-init g c =
    let started = c.in_ok-start.ensures {u = tt} in
    let t = g.B.Blocks.terrain c.args.blocks.now in
    record {
      chunk = refl;
      height = started.height ∙ c.requires.height;
      marked = subst (λ k. IsMarked t k 15 (raw_of c.start.new.flood) (todo_of c.start.new.buckets)) (sym started.chunk) (IsMarked-noted _ _ 15 _ _ started.dark started.noted);
      flooding = subst (λ k. IsFlooding t k 15 (light_of c.start.new.flood) (todo_of c.start.new.buckets)) (sym started.chunk)
          (IsFlooding-started _ _ (light_of c.start.new.flood) _ (λ p. let e = lit_raw (raw_of c.start.new.flood p) in let l = started.dark p in omega (arith, e, l)) started.started);
    }

pub loop-step-preserved : goal.loop-step-preserved
loop-step-preserved g c =
    let now = c.in_ok-settle_level.ensures {u = tt} in
    let one : 15 - c.loop-step.step - 1 ≡ 15 - (c.loop-step.step + 1) = omega arith in
    record {
      chunk = now.chunk ∙ c.loop-step.invariant.chunk;
      height = now.height ∙ c.loop-step.invariant.height;
      marked = subst (λ n. IsMarked (g.B.Blocks.terrain c.args.blocks.now) c.settle_level.new.flood.chunk n (raw_of c.settle_level.new.flood) (todo_of c.settle_level.new.buckets)) one now.marked;
      flooding = subst (λ n. IsFlooding (g.B.Blocks.terrain c.args.blocks.now) c.settle_level.new.flood.chunk n (light_of c.settle_level.new.flood) (todo_of c.settle_level.new.buckets)) one now.flooding;
    }

pub returns-clause-light : goal.returns-clause-light
returns-clause-light g c =
    let none : 15 - c.loop-step.step ≡ 0 = omega arith in
    λ p e. IsLight-flooded (g.B.Blocks.terrain c.args.blocks.now) c.args.flood.now.chunk (light_of c.loop-step.flood) (todo_of c.loop-step.buckets)
    (subst (λ k. IsFlooding (g.B.Blocks.terrain c.args.blocks.now) k 0 (light_of c.loop-step.flood) (todo_of c.loop-step.buckets)) (c.loop-step.invariant.chunk ∙ (c.in_ok-start.ensures {u = tt}).chunk)
    (subst (λ n. IsFlooding (g.B.Blocks.terrain c.args.blocks.now) c.loop-step.flood.chunk n (light_of c.loop-step.flood) (todo_of c.loop-step.buckets)) none c.loop-step.invariant.flooding))
    p (matters_own _ _ e)
