use Rattle.std.proofs.Common.{◌≡◌, Option, Some, None, Result, Ok, Err, IfOk, IfErr, ap, sym, ◌∙◌}
use Rattle.std.proofs.lemmas.Bool.{false≢true}
use Rattle.av_types.specs.declared.fault.Fault.{Fault}
use Rattle.av_types.specs.declared.fault.Fault.TheVariants.{BadTable}
use Rattle.av_rules.specs.Reads.{Reads}
use Rattle.av_types.specs.Options.{◌>>=◌}
use Rattle.av_rules.specs.Document.{table_in, table_spelled}
use Rattle.av_rules.specs.declared.rules.Rules.{Rules}
use Rattle.av_rules.specs.Rows.{BlockTable}
use Rattle.av_rules.specs.Tables.{table_of}
use Rattle.av_rules.proofs.rules.Rules.read.Goals as goal

spelled_ok : (r : Result Rules Fault) (o spelled : Option BlockTable) → spelled ≡ o → Reads table_of o r → IfOk r (λ x. spelled ≡ Some (table_of x))
spelled_ok (Ok x) o spelled e h = e ∙ h
spelled_ok (Err x) o spelled e h = tt

spelled_refused : (U : Type 0) (r : Result Rules Fault) (o spelled : Option BlockTable) → spelled ≡ o → Reads table_of o r → IfErr r (λ x. x ≡ BadTable → U → spelled ≡ None)
spelled_refused U (Ok x) o spelled e h = tt
spelled_refused U (Err x) o spelled e h = λ b u. e ∙ h.at_cause b

pub returns-in-Ok-clause-ok : goal.returns-in-Ok-clause-ok
unfolding table_spelled
returns-in-Ok-clause-ok c = spelled_ok c.read_table.result _ _ (ap (λ o. o >>= table_in) c.in-Ok.ensures.ok.1) c.read_table.ensures

pub returns-in-Ok-clause-refused : goal.returns-in-Ok-clause-refused
unfolding table_spelled
returns-in-Ok-clause-refused c = spelled_refused _ c.read_table.result _ _ (ap (λ o. o >>= table_in) c.in-Ok.ensures.ok.1) c.read_table.ensures

pub returns-else-is_memory-clause-refused : goal.returns-else-is_memory-clause-refused
unfolding table_spelled
returns-else-is_memory-clause-refused c =
    λ b u. ap (λ o. o >>= table_in) (c.in-Err.ensures.refused (λ m. false≢true (sym c.if-is_memory.false ∙ c.is_memory.ensures.1 m)) u)
