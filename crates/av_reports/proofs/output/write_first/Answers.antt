use Rattle.std.proofs.Common.{◌≡◌, ℕ, ◌-◌, List, ◌++◌, length, take, drop, sym, ap, ◌∙◌, append_assoc, take-append-drop}
use Rattle.std.proofs.lemmas.List.{take_rest}
use Rattle.av_reports.proofs.Lines.{appends_more}
use Rattle.av_reports.proofs.output.write_first.Goals as goal

moves_front : (all first rest : List ℕ) (n : ℕ) → all ≡ first ++ rest → all ≡ (first ++ take n rest) ++ take (length rest - n) (drop n rest)
moves_front all first rest n e =
    e ∙ (ap (λ (l : List ℕ). first ++ l) (sym (take-append-drop n rest)) ∙ (sym (append_assoc first (take n rest) (drop n rest))
    ∙ ap (λ (l : List ℕ). (first ++ take n rest) ++ l) (sym (take_rest rest n))))

pub loop-rest-preserved : goal.loop-rest-preserved
loop-rest-preserved g c =
    let (first, split, written) = c.loop-rest.invariant in
    let rest = c.loop-rest.rest.now in
    let n = c.in_ok-written.written in
    (first ++ take n rest, moves_front _ first rest n split, appends_more _ _ _ _ _ written c.in_ok-written.ensures.bytes)
