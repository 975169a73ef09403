-- Phases of steps, one list of them behind another.
use Rattle.std.proofs.Common.{◌≡◌, ◌∙◌, ap, sym, subst, refl, List, [], ◌∷◌, ◌++◌, append_assoc, Option}
use Rattle.av_exchange.specs.Steps.{AreSomeOf, History, IsCutOff, Step, Synced, all_of, during, ended, later, none, with_steps}
use Rattle.av_exchange.specs.Outcomes.{HasStopped}
use Rattle.av_exchange.proofs.Crash.{none_some}
use Rattle.av_exchange.proofs.History.{then_steps}

all_behind : (a b : List (List Step)) → all_of (a ++ b) ≡ all_of a ++ all_of b
all_behind [] b = refl
all_behind (p ∷ a) b = ap (λ (l : List Step). p ++ (Synced ∷ l)) (all_behind a b) ∙ sym (append_assoc p (Synced ∷ all_of a) (all_of b))

not_begun : (b : List (List Step)) → IsCutOff b []
not_begun [] = ended
not_begun (p ∷ b) = during p b [] (none_some p)

cut_in : (a b : List (List Step)) (left : List Step) → IsCutOff a left → IsCutOff (a ++ b) left
cut_in _ b _ ended = not_begun b
cut_in _ b _ (during p a left some) = during p (a ++ b) left some
cut_in _ b _ (later p a left cut) = later p (a ++ b) left (cut_in a b left cut)

cut_behind : (a b : List (List Step)) (left : List Step) → IsCutOff b left → IsCutOff (a ++ b) (all_of a ++ left)
cut_behind [] b left cut = cut
cut_behind (p ∷ a) b left cut =
    subst (IsCutOff (p ∷ (a ++ b))) (sym (append_assoc p (Synced ∷ all_of a) left)) (later p (a ++ b) (all_of a ++ left) (cut_behind a b left cut))

-- all of the first ones, and all of the others
pub all_then : (a b : List (List Step)) (old mid new : Option History) → mid ≡ with_steps old (all_of a) → new ≡ with_steps mid (all_of b)
    → new ≡ with_steps old (all_of (a ++ b))
all_then a b old mid new first next = then_steps old mid new (all_of a) (all_of b) first next ∙ ap (with_steps old) (sym (all_behind a b))

-- stopped among the first ones, or behind them
pub stopped_in : (a b : List (List Step)) (old new : Option History) → HasStopped a old new → HasStopped (a ++ b) old new
stopped_in a b old new part = record { left = part.left; cut_off = cut_in a b part.left part.cut_off; steps = part.steps }

pub stopped_behind : (a b : List (List Step)) (old mid new : Option History) → mid ≡ with_steps old (all_of a) → HasStopped b mid new
    → HasStopped (a ++ b) old new
stopped_behind a b old mid new first part = record {
  left = all_of a ++ part.left;
  cut_off = cut_behind a b part.left part.cut_off;
  steps = then_steps old mid new (all_of a) part.left first part.steps;
}
