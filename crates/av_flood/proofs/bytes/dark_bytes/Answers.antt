use Rattle.std.proofs.Common.{◌≡◌, ◌+◌, ◌-◌, ◌*◌, ◌∙◌, ◌++◌, arith, ap, get_or, length}
use Rattle.std.specs.Prelude.{vec_len}
use Rattle.std.proofs.lemmas.List.{get_or_append_left}
use Rattle.av_flood.proofs.Quiet.{first_layer, next_layer, last_layer}
use Rattle.av_flood.proofs.bytes.dark_bytes.Goals as goal

pub loop-layer-init : goal.loop-layer-init
loop-layer-init c =
    let made = c.in_ok-light.ensures {u = tt} in
    let sized = c.in_ok-resize.ensures {u = tt} in
    record {
      long = omega (arith, sized.len);
      first = λ i l. first_layer 1936 (1936 - vec_len c.in_ok-light.light) _ _ sized.items made.items i;
      within = λ i l. absurd (omega arith);
    }

pub loop-layer-preserved : goal.loop-layer-preserved
loop-layer-preserved c =
    let inv = c.loop-layer.invariant in
    let old = c.loop-layer.light.items in
    let dark = c.dark_layer-dark.result in
    let more = c.in_ok-extend_from_slice.ensures {u = tt} in
    let size : length c.as_slice.result.now ≡ 1936 = ap length c.as_slice.ensures ∙ c.dark_layer-dark.ensures.count in
    let is = more.items ∙ ap (λ xs. old ++ xs) c.as_slice.ensures in
    let long : length old ≡ 1936 * c.loop-layer._layer + 1936 = omega (arith, inv.long, c.loop-layer.light.ok.0) in
    record {
      long = omega (arith, more.len, inv.long, size);
      first = λ i l. ap (λ xs. get_or xs i 64) is ∙ get_or_append_left old dark 64 i (omega (arith, long)) ∙ inv.first i l;
      within = λ i l. ap (λ xs. get_or xs (1936 + i) 0) is ∙ next_layer c.loop-layer._layer old dark long c.dark_layer-dark.ensures.count c.dark_layer-dark.ensures.bytes inv.within i l;
    }

pub returns-clause-dark : goal.returns-clause-dark
returns-clause-dark c =
    let inv = c.loop-layer.invariant in
    let sized = c.in_ok-resize-2.ensures {u = tt} in
    let end : c.loop-layer._layer ≡ c.args.layers = omega arith in
    last_layer _ _ _ c.loop-layer.light.items _ sized.items (omega (arith, inv.long, c.loop-layer.light.ok.0)) (omega (arith, inv.long, c.loop-layer.light.ok.0, end)) inv.first (λ i l. inv.within i (omega (arith, end)))
