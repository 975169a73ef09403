use Rattle.std.proofs.Common.{◌≡◌, ◌∙◌, ◌<◌, arith, ap, sym, subst, true, false, [], cond, length, Bool, List, ℕ, Option, OnOk}
use Rattle.std.specs.List.{list_any}
use Rattle.std.specs.Io.KnownBytes.{Appends}
use Rattle.std.proofs.lemmas.List.{take_all}
use Rattle.std.proofs.lemmas.List.Folds.{list_any_at}
use Rattle.av_survey.specs.declared.finding.Finding.{Finding}
use Rattle.av_reports.specs.Output.{is_compression, packed_advice}
use Rattle.av_reports.proofs.Lines.{appends_none}
use Rattle.av_commands.proofs.checking.write_advice.Goals as goal

-- whether a finding is of a chunk of another compression
packed : Finding → Bool
packed f = is_compression f.fault

pub returns-then-is_compression : goal.returns-then-is_compression
unfolding packed
returns-then-is_compression g c =
    let found = c.args.found.now in
    let within : c.loop-finding.finding-index < length found = omega arith in
    let is : packed c.finding-item.result ≡ true = sym c.is_compression.ensures ∙ c.if-is_compression.true in
    let any : list_any packed found ≡ true = list_any_at packed found c.loop-finding.finding-index c.finding-item.result within (rw c.finding-item.is at is) in
    let wrote : OnOk c.write_packed_advice.result (Appends (g.E.Write.contents c.args.err.now) (g.E.Write.contents c.write_packed_advice.new.err) packed_advice) =
    subst (λ (a : Option (List ℕ)). OnOk c.write_packed_advice.result (Appends a (g.E.Write.contents c.write_packed_advice.new.err) packed_advice)) c.loop-finding.invariant.same c.write_packed_advice.ensures in
    subst (λ (b : Bool). OnOk c.write_packed_advice.result (Appends (g.E.Write.contents c.args.err.now) (g.E.Write.contents c.write_packed_advice.new.err) (cond b packed_advice []))) (sym any) wrote

pub returns : goal.returns
unfolding packed
returns g c =
    let found = c.args.found.now in
    let none : list_any packed found ≡ false = sym (ap (list_any packed) (take_all c.loop-finding.finding-index found c.loop-finding-test.false)) ∙ c.loop-finding.invariant.none in
    subst (λ (b : Bool). Appends (g.E.Write.contents c.args.err.now) (g.E.Write.contents c.loop-finding.err) (cond b packed_advice [])) (sym none)
    (subst (λ (a : Option (List ℕ)). Appends (g.E.Write.contents c.args.err.now) a []) (sym c.loop-finding.invariant.same) (appends_none (g.E.Write.contents c.args.err.now)))
