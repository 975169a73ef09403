use Rattle.std.proofs.Common.{◌≡◌, ◌<◌, ◌+◌, ◌*◌, ◌∙◌, ℕ, true, false, arith, ap, refl, sym, subst, get_or, length}
use Rattle.std.proofs.lemmas.List.{get_or-replicate}
use Rattle.av_flood.specs.Quiet.{IsFenced}
use Rattle.av_flood.proofs.Quiet.{AreDark-fenced, AreDark-quiet, all_low, all_fresh, count_low, dim_low}
use Rattle.av_flood.proofs.board.Flood.fresh.Goals as goal

pub invariant_of-result : goal.invariant_of-result
invariant_of-result c =
    let n = 16 * c.args.height.sections in
    let light = c.in_ok-dark_bytes.field-0 in
    let touched = c.in_ok-vec.field-0 in
    let made = c.in_ok-dark_bytes.ensures {u = tt} in
    let flags = (c.in_ok-vec.ensures {u = tt}).items_if_clones_equal (λ y e. e) in
    let long : length light.items ≡ 1936 * n + 3872 = omega (arith, made.long, light.ok.0) in
    let count : length touched.items ≡ n = omega (arith, (c.in_ok-vec.ensures {u = tt}).len, touched.ok.0) in
    let done = λ (s : ℕ) (l : s < n). ap (λ xs. get_or xs s true) flags ∙ get_or-replicate n s false true l in
    let fenced = AreDark-fenced n light.items long made.dark in
    let quiet = AreDark-quiet touched.items n light.items count made.dark in
    let low = all_low touched.items light.items n n quiet fenced done long (omega arith) in
    let same : 1936 * n + 1936 ≡ 30976 * c.args.height.sections + 1936 = omega arith in
    record {
      long = omega (arith, made.long);
      layers = (c.in_ok-vec.ensures {u = tt}).len;
      quiet = quiet;
      fenced = subst (λ m. IsFenced m light.items) same fenced;
      counted = sym (count_low light.items low);
      dim = dim_low light.items low;
    }

pub returns-clause-fresh : goal.returns-clause-fresh
returns-clause-fresh c =
    let n = 16 * c.args.height.sections in
    let light = c.in_ok-dark_bytes.field-0 in
    let touched = c.in_ok-vec.field-0 in
    let made = c.in_ok-dark_bytes.ensures {u = tt} in
    let flags = (c.in_ok-vec.ensures {u = tt}).items_if_clones_equal (λ y e. e) in
    let long : length light.items ≡ 1936 * n + 3872 = omega (arith, made.long, light.ok.0) in
    let count : length touched.items ≡ n = omega (arith, (c.in_ok-vec.ensures {u = tt}).len, touched.ok.0) in
    let done = λ (s : ℕ) (l : s < n). ap (λ xs. get_or xs s true) flags ∙ get_or-replicate n s false true l in
    all_fresh touched.items light.items n n (AreDark-quiet touched.items n light.items count made.dark) (AreDark-fenced n light.items long made.dark) done long (omega arith) c.args.chunk c.args.height refl
