use Rattle.std.proofs.Common.{◌≡◌, ◌∙◌, ◌<◌, ◌+◌, ◌++◌, ◌∷◌, [], ap, sym, subst, arith, List, ℕ, codes, length, map, take, get_or, add-one, string_bytes}
use Rattle.std.proofs.Math.Seq.{take-suc}
use Rattle.std.proofs.lemmas.List.{map-append}
use Rattle.std.specs.Io.KnownBytes.{Appends}
use Rattle.av_reports.specs.Output.{line}
use Rattle.av_reports.specs.Reasons.{reason_lines}
use Rattle.av_reports.proofs.Lines.{appends_more, appends_none, lines_next}
use Rattle.av_reports.proofs.reasons.write_reasons.Goals as goal

-- one line more, of things with a text each
one_more : (X : Type 0) (text : X → List ℕ) (xs : List X) (i : ℕ) (x : X) → i < length xs → x ≡ get_or xs i x
    → reason_lines (map text (take (i + 1) xs)) ≡ reason_lines (map text (take i xs)) ++ line (codes "  " ++ text x)
one_more X text xs i x lt is =
    ap (λ (n : ℕ). reason_lines (map text (take n xs))) (add-one i)
    ∙ (ap (λ (ys : List X). reason_lines (map text ys)) (take-suc xs i x lt)
    ∙ (ap reason_lines (map-append text (take i xs) (get_or xs i x ∷ []))
    ∙ (lines_next (List ℕ) (λ (r : List ℕ). codes "  " ++ r) (map text (take i xs)) (text (get_or xs i x))
    ∙ ap (λ (y : X). reason_lines (map text (take i xs)) ++ line (codes "  " ++ text y)) (sym is))))

pub loop-reason-init : goal.loop-reason-init
loop-reason-init g c = appends_none (g.E.Write.contents c.args.err.now)

pub loop-reason-preserved : goal.loop-reason-preserved
loop-reason-preserved g c =
    let reasons = c.args.reasons.now in
    let i = c.loop-reason.reason-index in
    let reason = c.reason-item.result in
    let within : i < length reasons = omega arith in
    subst (λ (t : List ℕ). Appends (g.E.Write.contents c.args.err.now) (g.E.Write.contents c.write_reason.new.err) t) (sym (one_more _ string_bytes reasons i reason within c.reason-item.is))
    (appends_more (g.E.Write.contents c.args.err.now) (g.E.Write.contents c.loop-reason.err) (g.E.Write.contents c.write_reason.new.err)
    (reason_lines (map string_bytes (take i reasons))) (line (codes "  " ++ string_bytes reason)) c.loop-reason.invariant
    (rw c.as_str.ensures.value at c.in_ok-write_reason.ensures))
