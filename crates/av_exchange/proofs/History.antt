-- Histories of folders.
use Rattle.std.proofs.Common.{◌≡◌, ◌∙◌, ap, sym, refl, List, [], ◌++◌, append_assoc, append-nil, Option, Some, None}
use Rattle.av_exchange.specs.Steps.{History, Step, with_steps}

pub no_steps : (t : Option History) → t ≡ with_steps t []
no_steps None = refl
no_steps (Some t) = ap (λ (s : List Step). Some (record { first = t.first; steps = s })) (sym (append-nil t.steps))

pub more_steps : (t : Option History) (a b : List Step) → with_steps (with_steps t a) b ≡ with_steps t (a ++ b)
more_steps None a b = refl
more_steps (Some t) a b = ap (λ (s : List Step). Some (record { first = t.first; steps = s })) (append_assoc t.steps a b)

-- one call behind others
pub then_steps : (t u v : Option History) (a b : List Step) → u ≡ with_steps t a → v ≡ with_steps u b → v ≡ with_steps t (a ++ b)
then_steps t u v a b first next = next ∙ (ap (λ (o : Option History). with_steps o b) first ∙ more_steps t a b)
