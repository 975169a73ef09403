use Rattle.std.proofs.Common.{◌≡◌, ◌<◌, ◌≤◌, ℕ, List, length, map, subst, rules, Result, Ok, Err, MatchResult}
use Rattle.std.specs.List.{HoldsAt}
use Rattle.std.specs.List.Sorted.{IsNonDecreasingBy, IsPartitionPoint}
use Rattle.std.specs.Ordering.{ordering_index}
use Rattle.std.specs.declared.cmp.Ordering.TheVariants.{Less, Equal, Greater}
use Rattle.std.proofs.lemmas.Fn.{always_returns_same}
use Rattle.std.specs.declared.cmp.Ordering.{Ordering}
use Rattle.av_state.specs.BlockState.{BlockState}
use Rattle.av_state.specs.States.{state_of}
use Rattle.av_state.specs.Index.{compared, IsRankFor, HasRank}
use Rattle.av_state.proofs.Placing.{searchable, found, ranked}
use Rattle.av_state.proofs.index.Index.rank.Goals as goal

pub returns : goal.returns
returns g c = by c.binary_search_by.result (subst B c.as_slice.ensures.value c.binary_search_by.ensures.bound) (subst P c.as_slice.ensures.value (c.binary_search_by.ensures.position ord (always_returns_same _ (λ a r. r ≡ ord a.0.now) _ (λ a r h call. (search rules, search rules)))))
  where
    states : List BlockState
    states = map state_of c.args.states.now

    prints : List ℕ
    prints = c.args.self.now.fingerprints.items

    order : List ℕ
    order = c.args.self.now.order.items

    s : BlockState
    s = g.T.Sought.sought c.args.sought.now

    ord : ℕ → Ordering
    ord = compared prints states c.args.fingerprint s

    B : List ℕ → Type 0
    B xs = MatchResult c.binary_search_by.result (λ i. i < length xs) (λ i. i ≤ length xs)

    P : List ℕ → Type 0
    P xs = MatchResult c.binary_search_by.result (λ i. HoldsAt (λ n. ord n ≡ Equal) xs i) (λ i. IsNonDecreasingBy (λ n. ordering_index (ord n)) xs → IsPartitionPoint (λ n. ord n ≡ Less) (λ n. ord n ≡ Greater) xs i)

    by : (r : Result ℕ ℕ) → MatchResult r (λ i. i < length order) (λ i. i ≤ length order) → MatchResult r (λ i. HoldsAt (λ n. ord n ≡ Equal) order i) (λ i. IsNonDecreasingBy (λ n. ordering_index (ord n)) order → IsPartitionPoint (λ n. ord n ≡ Less) (λ n. ord n ≡ Greater) order i)
        → MatchResult r (HasRank states s order) (IsRankFor states s order)
    by (Ok i) bound position = record { within = bound; is = λ d. found states prints order c.args.self.now.slots c.requires.index s c.args.fingerprint c.requires.fingerprint i d bound position }
    by (Err i) bound position = ranked states prints order c.args.self.now.slots c.requires.index s c.args.fingerprint c.requires.fingerprint i bound (position (searchable states prints order c.args.self.now.slots c.requires.index s c.args.fingerprint c.requires.fingerprint))
