-- The first key is that of the first property.
use Rattle.std.proofs.Common.{◌≡◌, ℕ, List, [], ◌∷◌, Some, ap, sym, ◌∙◌}
use Rattle.std.specs.List.{slice_get}
use Rattle.std.specs.Ordering.{is_lt, nat_cmp}
use Rattle.std.specs.Cmp.Lexicographic.{slice_cmp}
use Rattle.std.proofs.lemmas.Option.{none-some, same_Some}
use Rattle.av_state.specs.BlockState.{starts_above}
use Rattle.av_state.specs.Views.{properties_of}
use Rattle.av_state.specs.declared.state.Property.{Property}
use Rattle.av_state.proofs.state.starts_above.Goals as goal

first_key : (k : List ℕ) (ps : List Property) (p : Property) → Some p ≡ slice_get ps 0 → is_lt (slice_cmp nat_cmp k p.key.items) ≡ starts_above k (properties_of ps)
first_key k [] p h = absurd (none-some p (sym h))
first_key k (q ∷ ps) p h = ap (λ (x : Property). is_lt (slice_cmp nat_cmp k x.key.items)) (same_Some p q h)

pub returns-in-Some : goal.returns-in-Some
returns-in-Some c =
    c.is_lt.ensures ∙ ap is_lt c.cmp.ensures ∙ ap (λ k. is_lt (slice_cmp nat_cmp c.args.key.now k)) c.as_slice.ensures.value
    ∙ first_key c.args.key.now c.args.properties.now c.in-Some.first.now c.in-Some.ensures.value
