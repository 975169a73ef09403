-- One more number of a list, each once.
use Rattle.std.proofs.Common.{◌≡◌, ℕ, zero, suc, ◌<◌, ◌+◌, nat_eq, List, [], ◌∷◌, ◌++◌, length, get_or, take, Bool, true, false, Contains, refl, sym, ap, ◌∙◌, arith, true≢false, length-append, if◌then◌else◌}
use Rattle.std.specs.List.{list_any}
use Rattle.std.proofs.lemmas.Bool.{eq-eqb, eqb-true}
use Rattle.std.proofs.lemmas.List.{take_more}
use Rattle.std.proofs.lemmas.List.Elements.{All-push, All-weaker, Contains-push, Contains-append_left}
use Rattle.std.proofs.lemmas.Map.Views.{Contains-from_any}
use Rattle.std.proofs.Math.Bool.{or-true}
use Rattle.av_section.specs.Distinct.{AreEachOnce, with_number}
use Rattle.av_section.proofs.Distinct.{Distinct-push}

pub any_at : (ks : List ℕ) (n k : ℕ) → k < length ks → get_or ks k n ≡ n → list_any (nat_eq n) ks ≡ true
any_at [] n k low e = absurd (omega arith)
any_at (x ∷ ks) n zero low e = rw (eq-eqb n x (sym e)) refl
any_at (x ∷ ks) n (suc k) low e = rw (any_at ks n k (omega arith) e) (or-true (nat_eq n x))

pub not_among : (ks : List ℕ) (n : ℕ) → list_any (nat_eq n) ks ≡ false → Contains ks n → ⊥
not_among ks n h c = true≢false (sym (any_at ks n c.0 c.1 c.2) ∙ h)

once_or_not : (numbers once : List ℕ) (n : ℕ) (b : Bool) → list_any (nat_eq n) once ≡ b → n < 65536 → AreEachOnce numbers once → AreEachOnce (numbers ++ n ∷ []) (if b then once else once ++ n ∷ [])
once_or_not numbers once n true e small a = record {
  distinct = a.distinct;
  small = a.small;
  there = All-push (Contains once) numbers n a.there (Contains-from_any {eq = nat_eq} eqb-true n once e);
  short = omega (arith, length-append numbers (n ∷ []), a.short);
  same = λ q. absurd (omega (arith, length-append numbers (n ∷ []), a.short, q));
}
once_or_not numbers once n false e small a = record {
  distinct = Distinct-push once n a.distinct (not_among once n e);
  small = All-push (λ x. x < 65536) once n a.small small;
  there = All-push (Contains (once ++ n ∷ [])) numbers n (All-weaker (Contains once) (Contains (once ++ n ∷ [])) (λ x c. Contains-append_left once (n ∷ []) x c) numbers a.there) (Contains-push once n);
  short = omega (arith, length-append numbers (n ∷ []), length-append once (n ∷ []), a.short);
  same = λ q. ap (λ l. l ++ n ∷ []) (a.same (omega (arith, length-append numbers (n ∷ []), length-append once (n ∷ []), q)));
}

pub once_more : (numbers once next : List ℕ) (i n : ℕ) → i < length numbers → n ≡ get_or numbers i 0 → n < 65536 → next ≡ with_number once n → AreEachOnce (take i numbers) once → AreEachOnce (take (i + 1) numbers) next
once_more numbers once next i n low at small e a =
    let longer : take (i + 1) numbers ≡ take i numbers ++ n ∷ [] = take_more numbers i 0 low ∙ ap (λ x. take i numbers ++ x ∷ []) (sym at) in
    rw (longer, e) (once_or_not (take i numbers) once n (list_any (nat_eq n) once) refl small a)
