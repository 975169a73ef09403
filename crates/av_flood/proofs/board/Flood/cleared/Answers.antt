use Rattle.std.proofs.Common.{arith, ◌≡◌, refl, sym, subst, below_more, ◌*◌, ◌+◌}
use Rattle.std.specs.Prelude.{vec_len}
use Rattle.av_flood.specs.Quiet.{IsFenced}
use Rattle.av_flood.proofs.Quiet.{all_low, all_fresh, count_low, dim_low}
use Rattle.av_flood.proofs.board.Flood.cleared.Goals as goal

pub clear-requires-clause-fenced : goal.clear-requires-clause-fenced
clear-requires-clause-fenced c =
    let inv = c.loop-layer.invariant in
    let same : 30976 * c.args.self.height.sections + 1936 ≡ 1936 * vec_len c.loop-layer.touched + 1936 = omega (arith, inv.layers) in
    subst (λ n. IsFenced n c.loop-layer.light.items) same inv.fenced

pub loop-layer-preserved : goal.loop-layer-preserved
loop-layer-preserved c =
    let inv = c.loop-layer.invariant in
    let now = c.clear.ensures in
    let same : 1936 * vec_len c.loop-layer.touched + 1936 ≡ 30976 * c.args.self.height.sections + 1936 = omega (arith, inv.layers) in
    record {
      long = omega (arith, now.light, inv.long);
      layers = omega (arith, now.touched, inv.layers);
      quiet = now.quiet;
      fenced = subst (λ n. IsFenced n c.clear.new.light.items) same now.fenced;
      done = below_more _ _ (λ y l. now.others y (inv.done y l)) now.here;
    }

pub invariant_of-result : goal.invariant_of-result
invariant_of-result c =
    let inv = c.loop-layer.invariant in
    let n = 16 * c.args.self.height.sections in
    let same : 30976 * c.args.self.height.sections + 1936 ≡ 1936 * n + 1936 = omega arith in
    let low = all_low c.loop-layer.touched.items c.loop-layer.light.items n c.loop-layer.layer inv.quiet (subst (λ m. IsFenced m c.loop-layer.light.items) same inv.fenced) inv.done
    (omega (arith, inv.long, c.loop-layer.light.ok.0)) (omega (arith, c.loop-layer-test.false, c.len-layer-end.ensures, c.args.self.layers)) in
    record { long = inv.long; layers = inv.layers; quiet = inv.quiet; fenced = inv.fenced; counted = sym (count_low c.loop-layer.light.items low); dim = dim_low c.loop-layer.light.items low }

pub returns-clause-fresh : goal.returns-clause-fresh
returns-clause-fresh c =
    let inv = c.loop-layer.invariant in
    let n = 16 * c.args.self.height.sections in
    let same : 30976 * c.args.self.height.sections + 1936 ≡ 1936 * n + 1936 = omega arith in
    all_fresh c.loop-layer.touched.items c.loop-layer.light.items n c.loop-layer.layer inv.quiet (subst (λ m. IsFenced m c.loop-layer.light.items) same inv.fenced) inv.done
    (omega (arith, inv.long, c.loop-layer.light.ok.0)) (omega (arith, c.loop-layer-test.false, c.len-layer-end.ensures, c.args.self.layers)) c.args.chunk c.args.self.height refl
