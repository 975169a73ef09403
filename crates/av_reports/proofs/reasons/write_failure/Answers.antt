use Rattle.std.proofs.Common.{◌≡◌, ◌∙◌, sym, subst, refl, List, ℕ, [], Bool, true, false, Option, Result, Ok, Err, OnOk, map, string_bytes}
use Rattle.std.proofs.lemmas.List.{append-nil}
use Rattle.std.specs.Io.KnownBytes.{Appends}
use Rattle.av_types.specs.declared.fault.Fault.{Fault}
use Rattle.av_reports.specs.Output.{fault_lines}
use Rattle.av_reports.specs.Reasons.{TellsFailure, reason_lines}
use Rattle.av_reports.proofs.Lines.{appends_more}
use Rattle.av_reports.proofs.reasons.write_failure.Goals as goal

explained : {T E : Type 0} (r : Result T E) (explains : Bool) (e : Fault) (a b c : Option (List ℕ)) (texts : List (List ℕ))
    → explains ≡ true → Appends a b (fault_lines e) → OnOk r (Appends b c (reason_lines texts)) → OnOk r (TellsFailure explains e a c)
explained (Err x) explains e a b c texts asked first second = tt
explained (Ok x) explains e a b c texts asked first second = record {
  reasons = texts;
  unasked = λ quiet. let clash : true ≡ false = sym asked ∙ quiet in cc;
  written = appends_more a b c (fault_lines e) (reason_lines texts) first second;
}

pub returns-then-explains : goal.returns-then-explains
returns-then-explains g c =
    explained c.write_reasons.result c.args.explains c.args.failure.now.fault (g.E.Write.contents c.args.err.now) (g.E.Write.contents c.write_fault.new.err)
    (g.E.Write.contents c.write_reasons.new.err) (map string_bytes c.as_slice.result.now) c.if-explains.true c.in_ok-write_fault.ensures c.write_reasons.ensures

pub returns : goal.returns
returns g c = record {
  reasons = [];
  unasked = λ quiet. refl;
  written = subst (λ (t : List ℕ). Appends (g.E.Write.contents c.args.err.now) (g.E.Write.contents c.write_fault.new.err) t) (sym (append-nil (fault_lines c.args.failure.now.fault)))
      c.in_ok-write_fault.ensures;
}
