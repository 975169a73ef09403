-- What two files have at an index.
use Rattle.std.proofs.Common.{◌≡◌, ◌∙◌, ap, sym, subst, List, ℕ, Bor, Option, Some, None, Result, Ok, Err, option_map}
use Rattle.std.specs.Prelude.{MatchOption}
use Rattle.std.specs.Option.{IsSomeAnd}
use Rattle.std.specs.Result.{IsOkAnd}
use Rattle.av_types.specs.declared.fault.Fault.{Fault}
use Rattle.av_region.specs.Region.{Holds, IsAbsent}
use Rattle.av_changes.specs.Changes.{IsSameAt, neither, both}

abbrev pub Payload : Type 0
Payload = Option (Bor (List ℕ))

abbrev pub bytes_of : Payload → Option (List ℕ)
bytes_of p = option_map (λ b. b.now) p

-- what a file has at an index, as reading it answers
pub record IsRead (file : List ℕ) (index : ℕ) (r : Result Payload Fault) : Type 0 where
  pub absent : IsAbsent file index → r ≡ Ok None
  pub held : (payload : List ℕ) → Holds file index payload → IsOkAnd r (λ found. IsSomeAnd found (λ p. p.now ≡ payload))

-- a payload, or none
abbrev pub HasPayload : List ℕ → ℕ → Option (List ℕ) → Type 0
HasPayload file index None = IsAbsent file index
HasPayload file index (Some payload) = Holds file index payload

some_is : (found : Payload) (payload : List ℕ) → IsSomeAnd found (λ p. p.now ≡ payload) → bytes_of found ≡ Some payload
some_is None payload is = absurd is
some_is (Some p) payload is = ap Some is

found_of : Payload → Result Payload Fault → Payload
found_of other (Ok p) = p
found_of other (Err e) = other

ok_is : (a b : Payload) (r : Result Payload Fault) → r ≡ Ok a → r ≡ Ok b → a ≡ b
unfolding found_of
ok_is a b r one two = ap (found_of a) (sym one ∙ two)

-- what is read is what the file has
pub read_is : (file : List ℕ) (index : ℕ) (r : Result Payload Fault) (found : Payload) (o : Option (List ℕ)) → IsRead file index r → r ≡ Ok found
    → HasPayload file index o → bytes_of found ≡ o
read_is file index r found None read is has = ap bytes_of (ok_is found None r is (read.absent has))
read_is file index r found (Some payload) read is has =
    some_is found payload (subst (λ (x : Result Payload Fault). IsOkAnd x (λ f. IsSomeAnd f (λ p. p.now ≡ payload))) is (read.held payload has))

-- where a reading fails the file has nothing that counts
pub read_has : (file : List ℕ) (index : ℕ) (r : Result Payload Fault) (e : Fault) (o : Option (List ℕ)) → IsRead file index r → r ≡ Err e
    → HasPayload file index o → ⊥
read_has file index r e None read is has = let bad : Err e ≡ Ok None = sym is ∙ read.absent has in cc
read_has file index r e (Some payload) read is has =
    subst (λ (x : Result Payload Fault). IsOkAnd x (λ f. IsSomeAnd f (λ p. p.now ≡ payload))) is (read.held payload has)

-- two files that are the same at an index have one payload there, or none
pub shared : (old new : List ℕ) (index : ℕ) → IsSameAt old new index → (o : Option (List ℕ)) × HasPayload old index o × HasPayload new index o
shared old new index (neither a b) = (None, a, b)
shared old new index (both payload a b) = (Some payload, a, b)

has_read : (file : List ℕ) (index : ℕ) (found : Payload) → MatchOption found (IsAbsent file index) (λ p. Holds file index p.now) → HasPayload file index (bytes_of found)
has_read file index None has = has
has_read file index (Some p) has = has

pub same_when : (old new : List ℕ) (index : ℕ) (o : Option (List ℕ)) → HasPayload old index o → HasPayload new index o → IsSameAt old new index
same_when old new index None a b = neither a b
same_when old new index (Some payload) a b = both payload a b

-- two readings of the same bytes
pub same_reads : (old new : List ℕ) (index : ℕ) (a b : Payload) → MatchOption a (IsAbsent old index) (λ p. Holds old index p.now)
    → MatchOption b (IsAbsent new index) (λ p. Holds new index p.now) → bytes_of a ≡ bytes_of b → IsSameAt old new index
same_reads old new index a b ha hb is =
    same_when old new index (bytes_of a) (has_read old index a ha)
    (subst (λ (o : Option (List ℕ)). HasPayload new index o) (sym is) (has_read new index b hb))
