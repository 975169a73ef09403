use Rattle.std.proofs.Common.{◌≡◌, ◌∙◌, sym, Option, Some, None, Bor, option_map, IfSome, IfNone}
use Rattle.std.proofs.lemmas.Option.{none-some}
use Rattle.clap.specs.Words.{found_of, Text}
use Rattle.clap.proofs.WalkLemmas.{first_value-rows}
use Rattle.av_words.proofs.values.text_of.Goals as goal

value : (r : Option (Bor Text)) (t : Option Text) → t ≡ option_map (λ s. s.now) r → IfSome r (λ s. t ≡ Some s.now)
value None t is = tt
value (Some s) t is = is

none : (r : Option (Bor Text)) (t : Option Text) → t ≡ option_map (λ s. s.now) r → IfNone r ((s : Bor Text) → t ≡ Some s.now → ⊥)
none None t is = λ s some. none-some s.now (sym is ∙ some)
none (Some s) t is = tt

pub returns-clause-either : goal.returns-clause-either
returns-clause-either c = sym (first_value-rows (found_of c.args.matches.now) c.args.name.now) ∙ sym c.get_str.ensures

pub returns-clause-value : goal.returns-clause-value
returns-clause-value c = value c.get_str.result _ (sym (first_value-rows (found_of c.args.matches.now) c.args.name.now) ∙ sym c.get_str.ensures)

pub returns-clause-none : goal.returns-clause-none
returns-clause-none c = none c.get_str.result _ (sym (first_value-rows (found_of c.args.matches.now) c.args.name.now) ∙ sym c.get_str.ensures)
