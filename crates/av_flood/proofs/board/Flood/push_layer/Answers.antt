use Rattle.std.proofs.Common.{◌≡◌, ◌<◌, ◌+◌, ◌*◌, ◌∙◌, ◌++◌, ℕ, length, arith, ap, sym, subst}
use Rattle.std.proofs.lemmas.Result.{on_ok_weaker}
use Rattle.av_flood.specs.Board.{light_at, HasLightSoFar}
use Rattle.av_flood.proofs.Halves.{HasLightSoFar-appended}
use Rattle.av_flood.proofs.Quiet.{dark_layer, read_as}
use Rattle.av_flood.proofs.board.Flood.push_layer.Goals as goal

pub returns-then-not-index-clause-halves : goal.returns-then-not-index-clause-halves
returns-then-not-index-clause-halves c =
    let f = c.args.self.now in
    let untouched = read_as f.touched.items c.args.y c.index.result.now (omega (arith, f.layers, f.touched.ok.0, c.requires.y)) c.index.ensures c.if-not-index.true in
    on_ok_weaker c.push_dark.result
    (λ all. all (light_at f) c.requires.halves (λ j low high. dark_layer f.chunk f.height f.touched.items f.light.items c.args.y f.quiet c.requires.y untouched j
    (omega (arith, c.requires.before)) (omega (arith, c.requires.before))))
    c.push_dark.ensures.halves

pub returns-clause-halves : goal.returns-clause-halves
returns-clause-halves c =
    let light = light_at c.args.self.now in
    let long : length c.args.bytes.now.items ≡ 128 * c.args.y = omega (arith, c.requires.before, c.args.bytes.now.ok.0) in
    let low = λ (k : ℕ) (l : k < length c.halves.result). c.halves.ensures.low k (omega (arith, c.halves.ensures.count)) ∙ c.layer.ensures.light (2 * k) (omega (arith, c.halves.ensures.count)) ∙ ap light (let e : 256 * c.args.y + 2 * k ≡ 2 * (length c.args.bytes.now.items + k) = omega arith in e) in
    let high = λ (k : ℕ) (l : k < length c.halves.result). c.halves.ensures.high k (omega (arith, c.halves.ensures.count)) ∙ c.layer.ensures.light (2 * k + 1) (omega (arith, c.halves.ensures.count)) ∙ ap light (let e : 256 * c.args.y + (2 * k + 1) ≡ 2 * (length c.args.bytes.now.items + k) + 1 = omega arith in e) in
    subst (HasLightSoFar light) (sym ((c.in_ok-extend_from_slice.ensures {u = tt}).items ∙ ap (λ xs. c.args.bytes.now.items ++ xs) c.as_slice.ensures)) (HasLightSoFar-appended light c.args.bytes.now.items c.halves.result c.requires.halves low high)
