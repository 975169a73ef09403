-- Loops over marks.
use Rattle.std.proofs.Common.{◌≡◌, ◌∙◌, ◌<◌, ◌≤◌, ◌+◌, ap, ap₂, refl, sym, subst, arith, inl, inr, ℕ, List, [], ◌∷◌, ◌++◌, length, map, take, get_or, slice_get, Option, Some, None, is_some, Bool, true, bytes_eq, String, Global, option_map, string_bytes}
use Rattle.std.specs.List.{AllByRecursion}
use Rattle.std.proofs.Math.Nat.{eq-or-lt_of_le}
use Rattle.std.proofs.lemmas.List.{length-map, map-append}
use Rattle.std.proofs.lemmas.Slice.Eq.{bytes_eq-Decides}
use Rattle.std.proofs.lemmas.Option.{none-some, same_Some, slice_get-map, slice_get_read}
use Rattle.av_exchange.specs.Names.{IsRegionName, journal_name, journal_of, part_of}
use Rattle.av_exchange.specs.declared.moves.Move.{Move}
use Rattle.av_exchange.specs.Exchange.{AreStaged}
use Rattle.av_exchange.specs.Outcomes.{name_of}
use Rattle.av_exchange.specs.Steps.{History, IfTold, held}
use Rattle.av_exchange.specs.Marks.{AreAsMarked, AreMarksOf, IsAsMarked, IsUnwritten, Marking, as_marked, line_at, unjournaled}
use Rattle.av_exchange.proofs.Stepwise.{one_behind, one_more}

-- one line more
pub one_marked : (k : Marking) (t : Option History) (names : List (String Global)) (i : ℕ) (m : String Global) (name : List ℕ) (old new : List (String Global))
    (line : String Global) → i < length names → m ≡ get_or names i m → name ≡ string_bytes m → new ≡ old ++ line ∷ []
    → AreMarksOf k t (map string_bytes (take i names)) (map string_bytes old) → IfTold t (λ h. string_bytes line ≡ line_at k h name)
    → AreMarksOf k t (map string_bytes (take (i + 1) names)) (map string_bytes new)
one_marked k None names i m name old new line lt is same pushed before one = tt
one_marked k (Some t) names i m name old new line lt is same pushed before one =
    let at = line_at k (held t) in
    ap (map string_bytes) pushed
    ∙ (map-append string_bytes old (line ∷ [])
    ∙ (ap₂ (λ (a : List (List ℕ)) (b : List ℕ). a ++ b ∷ []) before (one ∙ ap at same)
    ∙ sym (ap (map at) (one_more string_bytes names i m lt is) ∙ map-append at (map string_bytes (take i names)) (string_bytes m ∷ []))))

-- one name more that is as it was marked
pub one_checked : (k : Marking) (t : Option History) (names marks : List (String Global)) (i : ℕ) (n m : String Global) (name mark : List ℕ)
    → i < length names → n ≡ get_or names i n → name ≡ string_bytes n → i < length marks → m ≡ get_or marks i m → mark ≡ string_bytes m
    → IfTold t (λ h. AreAsMarked k h (map string_bytes names) (map string_bytes marks) i) → IfTold t (λ h. IsAsMarked k h name (Some mark))
    → IfTold t (λ h. AreAsMarked k h (map string_bytes names) (map string_bytes marks) (i + 1))
one_checked k None names marks i n m name mark ltn isn named ltm ism marked before one = tt
one_checked k (Some t) names marks i n m name mark ltn isn named ltm ism marked before one = λ j lt other at. let within : j ≤ i = omega arith in elim (eq-or-lt_of_le within) [
  | inr less ↦ before j less other at
  | inl same ↦
      let here : slice_get (map string_bytes names) i ≡ Some other = subst (λ (x : ℕ). slice_get (map string_bytes names) x ≡ Some other) same at in
      let this : slice_get (map string_bytes names) i ≡ Some (string_bytes n) = slice_get-map string_bytes names i ∙ ap (option_map string_bytes) (slice_get_read names (length names) i n refl ltn isn) in
      let is_name : other ≡ name = same_Some _ _ (sym here ∙ this) ∙ sym named in
      let is_mark : slice_get (map string_bytes marks) j ≡ Some mark =
      ap (slice_get (map string_bytes marks)) same
      ∙ (slice_get-map string_bytes marks i ∙ (ap (option_map string_bytes) (slice_get_read marks (length marks) i m refl ltm ism) ∙ ap Some (sym marked))) in
      subst (λ (x : List ℕ). IsAsMarked k (held t) x (slice_get (map string_bytes marks) j)) (sym is_name)
      (subst (λ (x : Option (List ℕ)). IsAsMarked k (held t) name x) (sym is_mark) one)
]

-- no journal, or one that lists what was marked
pub nothing_listed : (k : Marking) (t : Option History) (text : Option (String Global)) → text ≡ None → IfTold t (λ h. h journal_name ≡ option_map string_bytes text)
    → IfTold t (IsUnwritten k)
nothing_listed k None text is told = tt
nothing_listed k (Some t) text is told = unjournaled (told ∙ ap (option_map string_bytes) is)

pub all_as_marked : (k : Marking) (t : Option History) (text : Option (String Global)) (s : String Global) (bytes : List ℕ) (names marks : List (String Global))
    → text ≡ Some s → bytes ≡ string_bytes s → bytes ≡ journal_of (map string_bytes names) (map string_bytes marks)
    → AllByRecursion IsRegionName (map string_bytes names) → IfTold t (λ h. h journal_name ≡ option_map string_bytes text) → (n : ℕ) → n ≡ length names
    → IfTold t (λ h. AreAsMarked k h (map string_bytes names) (map string_bytes marks) n) → IfTold t (IsUnwritten k)
all_as_marked k None text s bytes names marks is same journal regions told n all are = tt
all_as_marked k (Some t) text s bytes names marks is same journal regions told n all are =
    as_marked (map string_bytes names) (map string_bytes marks) (told ∙ (ap (option_map string_bytes) is ∙ ap Some (sym same ∙ journal))) regions
    (subst (AreAsMarked k (held t) (map string_bytes names) (map string_bytes marks)) (all ∙ sym (length-map names string_bytes)) are)

-- what has a mark is there
marked_there : (k : Marking) (file : Option (List ℕ)) (mark : Option (String Global)) → option_map string_bytes mark ≡ option_map k file → is_some mark ≡ is_some file
marked_there k None None told = refl
marked_there k (Some bytes) None told = absurd (none-some (k bytes) told)
marked_there k None (Some mark) told = absurd (none-some (string_bytes mark) (sym told))
marked_there k (Some bytes) (Some mark) told = refl

-- what is the old one exactly where a new one waits
pub is_marked : (k : Marking) (t : Option History) (name part mark line : List ℕ) (found : Option (String Global)) (waits old : Bool) → part ≡ part_of name
    → IfTold t (λ h. option_map string_bytes found ≡ option_map k (h part)) → waits ≡ is_some found → IfTold t (λ h. line ≡ line_at k h name)
    → old ≡ bytes_eq line mark → waits ≡ old → IfTold t (λ h. IsAsMarked k h name (Some mark))
is_marked k None name part mark line found waits old parts told is lined compared same = tt
is_marked k (Some t) name part mark line found waits old parts told is lined compared same =
    let there : waits ≡ is_some (held t (part_of name)) = is ∙ (marked_there k (held t part) found told ∙ ap (λ (n : List ℕ). is_some (held t n)) parts) in (
      (λ waiting. ap Some (sym ((bytes_eq-Decides line mark).0 (sym compared ∙ (sym same ∙ (there ∙ waiting)))) ∙ lined)),
      (λ marked. sym there ∙ (same ∙ (compared ∙ (bytes_eq-Decides line mark).1 (lined ∙ sym (same_Some _ _ marked))))),
    )

-- one new file more that is there
pub one_staged : (k : Marking) (t : Option History) (moves : List Move) (i : ℕ) (m : Move) (part : List ℕ) (mark : Option (String Global))
    → i < length moves → m ≡ get_or moves i m → part ≡ string_bytes m.part → IfTold t (AreStaged (map name_of (take i moves)))
    → IfTold t (λ h. option_map string_bytes mark ≡ option_map k (h part)) → is_some mark ≡ true → IfTold t (AreStaged (map name_of (take (i + 1) moves)))
one_staged k None moves i m part mark lt is same before told there = tt
one_staged k (Some t) moves i m part mark lt is same before told there =
    subst (λ (names : List (List ℕ)). AreStaged names (held t)) (sym (one_more name_of moves i m lt is))
    (one_behind (λ (name : List ℕ). is_some (held t (part_of name)) ≡ true) (map name_of (take i moves)) (name_of m) before
    (subst (λ (name : List ℕ). is_some (held t name) ≡ true) (same ∙ m.beside) (sym (marked_there k (held t part) mark told) ∙ there)))
