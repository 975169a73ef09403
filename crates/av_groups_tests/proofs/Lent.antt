-- Groups that are lent for, one more and one fewer.
use Rattle.std.proofs.Common.{◌≡◌, ◌++◌, ◌∷◌, [], List, Option, Some, IfSome, All, sym, subst}
use Rattle.std.proofs.lemmas.List.Elements.{All-nil, All-cons, All-push, All-head, All-tail}
use Rattle.av_lending.specs.declared.lent.Lent.{Lent}
use Rattle.av_lending.specs.declared.plans.Plan.{Plan}
use Rattle.av_lending.specs.Plans.{IsLentAfter}

abbrev IsLentOf : Plan → Lent → Type 0
IsLentOf p l = IsLentAfter p l.number l.number l.world

pub one_more : (p : Plan) (xs ys : List Lent) (x : Lent) (o : Option Lent) → ys ≡ xs ++ x ∷ [] → o ≡ Some x → IfSome o (IsLentOf p) → All (IsLentOf p) xs → All (IsLentOf p) ys
one_more p xs ys x o are is one all = subst (All (IsLentOf p)) (sym are) (All-push (IsLentOf p) xs x all (subst (λ (t : Option Lent). IfSome t (IsLentOf p)) is one))

parts : (p : Plan) (xs : List Lent) (x : Lent) → All (IsLentOf p) (xs ++ x ∷ []) → All (IsLentOf p) xs × IsLentOf p x
parts p [] x all = (All-nil (IsLentOf p), All-head (IsLentOf p) x [] all)
parts p (y ∷ xs) x all =
    let rest = parts p xs x (All-tail (IsLentOf p) y (xs ++ x ∷ []) all) in
    (All-cons (IsLentOf p) y xs (All-head (IsLentOf p) y (xs ++ x ∷ []) all) rest.0, rest.1)

pub one_fewer : (p : Plan) (xs ys : List Lent) (x : Lent) → ys ≡ xs ++ x ∷ [] → All (IsLentOf p) ys → All (IsLentOf p) xs × IsLentOf p x
one_fewer p xs ys x are all = parts p xs x (subst (All (IsLentOf p)) are all)
