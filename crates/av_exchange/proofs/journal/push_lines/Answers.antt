use Rattle.std.proofs.Common.{◌∙◌, ◌<◌, ◌++◌, ap, arith, sym, append-nil, List, ℕ, length, string_bytes}
use Rattle.av_exchange.proofs.Stepwise.{text_more}
use Rattle.av_exchange.proofs.journal.push_lines.Goals as goal

pub loop-line-init : goal.loop-line-init
loop-line-init c = sym (append-nil _)

pub loop-line-preserved : goal.loop-line-preserved
unfolding lib.Utf8.encode
loop-line-preserved c =
    let within : c.loop-line.line-index < length c.args.lines.now = omega arith in
    text_more _ c.args.lines.now c.loop-line.line-index c.line-item.result _ _ _ within c.line-item.is c.loop-line.invariant
    (c.in_ok-push_str.ensures.bytes ∙ ap (λ (n : List ℕ). string_bytes c.loop-line.text ++ n) c.as_str.ensures.value) c.in_ok-push.ensures.bytes
