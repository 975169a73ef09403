-- What holds at the exit of a `?`.
use Rattle.std.proofs.Common.{◌≡◌, Result, Ok, Err, IfErr, sym, subst}
use Rattle.std.specs.Prelude.{IsErrAnd, OnErr}

-- an error that is passed on
pub err_from : {T E : Type 0} (r : Result T E) (x : E) (P : E → Type 0) → IsErrAnd r (λ e. e ≡ x) → P x → IfErr r P
err_from (Ok v) x P h p = tt
err_from (Err e) x P h p = subst P (sym h) p

-- what holds whatever the error
pub on_err_from : {T E P : Type 0} (r : Result T E) → P → OnErr r P
on_err_from (Ok v) p = tt
on_err_from (Err e) p = p
