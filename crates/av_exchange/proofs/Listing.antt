-- A journal's text tells which names it lists.
use Rattle.std.proofs.Common.{◌≡◌, ◌≢◌, ◌∙◌, ◌<◌, ap, ap₂, sym, subst, refl, arith, ℕ, ℤ, pos, negsuc, suc, List, [], ◌∷◌, ◌++◌, append_assoc, codes, drop, get_or, FitsSigned, w32, ◌^◌, Option, Some, None}
use Rattle.std.specs.Int.{IsInRange}
use Rattle.std.specs.Fmt.{decimal, signed_decimal}
use Rattle.std.specs.List.{AllByRecursion}
use Rattle.std.specs.Str.Parse.{AllDigits, digits_value}
use Rattle.std.proofs.lemmas.Option.{none-some, same_Some}
use Rattle.std.proofs.lemmas.Str.Parse.{IsNumeralModel, not_in_digits, numerals_by_value, tells_digits}
use Rattle.std.proofs.lemmas.Fmt.{digits_decimal}
use Rattle.std.specs.Prelude.{length, slice_index}
use Rattle.av_exchange.specs.Names.{IsRegionName, journal_of, lines_of}
use Rattle.av_exchange.specs.Exchange.{IsJournaled}
use Rattle.av_exchange.specs.Steps.{Holdings}

-- no byte ends a line
HasNoEnd : List ℕ → Type 0
HasNoEnd [] = Unit {0}
HasNoEnd (b ∷ bs) = (b ≢ 10) × HasNoEnd bs

by_index : (text : List ℕ) → ((i : ℕ) → i < length text → slice_index text i ≢ 10) → HasNoEnd text
unfolding HasNoEnd
by_index [] at = tt
by_index (b ∷ bs) at = (at 0 (omega arith), by_index bs (λ i lt. at (suc i) (omega arith)))

joined : (a b : List ℕ) → HasNoEnd a → HasNoEnd b → HasNoEnd (a ++ b)
unfolding HasNoEnd
joined [] b na nb = nb
joined (x ∷ a) b na nb = (na.0, joined a b na.1 nb)

own : IsNumeralModel (AllDigits 10) (digits_value 10)
own = numerals_by_value (AllDigits 10) tells_digits

no_digit : IsInRange 48 57 10 → ⊥
no_digit h = absurd (omega arith)

decimal_no_end : (n : ℕ) → n < 2 ^ 64 → HasNoEnd (decimal n)
decimal_no_end n small = by_index (decimal n) (not_in_digits own (decimal n) 10 (digits_decimal own n small) no_digit)

signed_no_end : (z : ℤ) → FitsSigned w32 z → HasNoEnd (signed_decimal z)
unfolding HasNoEnd
signed_no_end (pos n) fits = decimal_no_end n (let small : n < 2 ^ 31 = fits.sfits in omega arith)
signed_no_end (negsuc n) fits = ((λ e. absurd (omega arith)), decimal_no_end (suc n) (let small : n < 2 ^ 31 = fits.sfits in omega arith))

region_no_end : (name : List ℕ) → IsRegionName name → HasNoEnd name
unfolding HasNoEnd
region_no_end name r =
    let x = signed_no_end r.region.x r.fits.0 in
    let z = signed_no_end r.region.z r.fits.1 in
    let last : HasNoEnd (codes ".mca") = ((λ e. absurd (omega arith)), ((λ e. absurd (omega arith)), ((λ e. absurd (omega arith)), ((λ e. absurd (omega arith)), tt)))) in
    let dot : HasNoEnd (codes ".") = ((λ e. absurd (omega arith)), tt) in
    let first : HasNoEnd (codes "r.") = ((λ e. absurd (omega arith)), ((λ e. absurd (omega arith)), tt)) in
    subst HasNoEnd (sym r.named)
    (joined (codes "r.") _ first (joined (signed_decimal r.region.x) _ x (joined (codes ".") _ dot (joined (signed_decimal r.region.z) (codes ".mca") z last))))

head_same : (a b : ℕ) (x y : List ℕ) → a ∷ x ≡ b ∷ y → a ≡ b
head_same a b x y is = ap (λ (l : List ℕ). get_or l 0 0) is

tail_same : (a b : ℕ) (x y : List ℕ) → a ∷ x ≡ b ∷ y → x ≡ y
tail_same a b x y is = ap (λ (l : List ℕ). drop 1 l) is

-- two lines that are followed by something
line_same : (a b x y : List ℕ) → HasNoEnd a → HasNoEnd b → a ++ (10 ∷ x) ≡ b ++ (10 ∷ y) → (a ≡ b) × (x ≡ y)
unfolding HasNoEnd
line_same [] [] x y na nb is = (refl, tail_same 10 10 x y is)
line_same [] (d ∷ b) x y na nb is = absurd (nb.0 (sym (head_same 10 d x _ is)))
line_same (c ∷ a) [] x y na nb is = absurd (na.0 (head_same c 10 _ y is))
line_same (c ∷ a) (d ∷ b) x y na nb is =
    let rest = line_same a b x y na.1 nb.1 (tail_same c d _ _ is) in
    (ap₂ (λ (h : ℕ) (t : List ℕ). h ∷ t) (head_same c d _ _ is) rest.0, rest.1)

region_some : (name : List ℕ) → IsRegionName name → [] ≡ name → ⊥
region_some name r is = let first : 0 ≡ 114 = ap (λ (l : List ℕ). get_or l 0 0) (is ∙ r.named) in absurd (omega (arith, first))

-- a line, and lines behind it
behind_line : (n : List ℕ) (ns : List (List ℕ)) (x : List ℕ) → lines_of (n ∷ ns) ++ (10 ∷ x) ≡ n ++ (10 ∷ (lines_of ns ++ (10 ∷ x)))
behind_line n ns x = append_assoc n (10 ∷ lines_of ns) (10 ∷ x)

-- names that are followed by an empty line
lines_same : (ms ns : List (List ℕ)) (x y : List ℕ) → AllByRecursion IsRegionName ms → AllByRecursion IsRegionName ns
    → lines_of ms ++ (10 ∷ x) ≡ lines_of ns ++ (10 ∷ y) → ms ≡ ns
unfolding HasNoEnd
lines_same [] [] x y am an is = refl
lines_same [] (n ∷ ns) x y am an is =
    absurd (region_some n an.0 ((line_same [] n x _ tt (region_no_end n an.0) (is ∙ behind_line n ns y)).0))
lines_same (m ∷ ms) [] x y am an is =
    absurd (region_some m am.0 ((line_same [] m y _ tt (region_no_end m am.0) (sym is ∙ behind_line m ms x)).0))
lines_same (m ∷ ms) (n ∷ ns) x y am an is =
    let one = line_same m n _ _ (region_no_end m am.0) (region_no_end n an.0) (sym (behind_line m ms x) ∙ (is ∙ behind_line n ns y)) in
    ap₂ (λ (h : List ℕ) (t : List (List ℕ)). h ∷ t) one.0 (lines_same ms ns x y am.1 an.1 one.1)

-- a journal lists no other names
pub journal_same : (ms ns xs ys : List (List ℕ)) → AllByRecursion IsRegionName ms → AllByRecursion IsRegionName ns → journal_of ms xs ≡ journal_of ns ys → ms ≡ ns
journal_same ms ns xs ys am an is = lines_same ms ns (lines_of xs) (lines_of ys) am an (ap (drop 21) is)

pub one_journal : (h : Holdings) (i j : Option (List (List ℕ))) → IsJournaled h i → IsJournaled h j → i ≡ j
one_journal h None None a b = refl
one_journal h None (Some ns) a b = absurd (none-some _ (sym a ∙ b.text))
one_journal h (Some ms) None a b = absurd (none-some _ (sym b ∙ a.text))
one_journal h (Some ms) (Some ns) a b = ap Some (journal_same ms ns a.marks b.marks a.regions b.regions (same_Some _ _ (sym a.text ∙ b.text)))
