-- States without a row, counted, and what is answered then.
use Rattle.std.proofs.Common.{◌≡◌, ℕ, zero, suc, ◌+◌, ◌<◌, ◌≤◌, ◌&&◌, nat_lt, List, [], ◌∷◌, length, take, get_or, Bool, true, false, true≢false, cond, Some, refl, sym, ap, ◌∙◌, arith}
use mir.Val.{bool_byte}
use Rattle.std.specs.Prelude.{slice_get, count_by}
use Rattle.std.proofs.lemmas.Bool.Decides.{nat_tests}
use Rattle.std.proofs.lemmas.List.Sums.{sum_by_more}
use Rattle.av_state.specs.BlockState.{BlockState}
use Rattle.av_world.specs.Lands.{land_of}
use Rattle.av_files.specs.Files.{File}
use Rattle.av_files.specs.FirstFault.{AreCountsGood}
use Rattle.av_files.specs.Run.{stated}
use Rattle.av_image.specs.Views.{rest_in}
use Rattle.av_answers.specs.Checked.{IsUncovered}
use Rattle.av_run.specs.Counted.{IsCountedInput}
use Rattle.av_run.specs.declared.checked.CountedInput.{CountedInput}

-- what a list has at an index
got : (xs : List BlockState) (n : ℕ) (s : BlockState) → slice_get xs n ≡ Some s → (n < length xs) × (get_or xs n s ≡ s)
got [] n s h = absurd (no_state n s h)
  where
    no_state : (n : ℕ) (s : BlockState) → slice_get [] n ≡ Some s → ⊥
    no_state n s h = cc
got (x ∷ xs) zero s h = (omega arith, same x s h)
  where
    same : (x s : BlockState) → Some x ≡ Some s → x ≡ s
    same x s h = cc
got (x ∷ xs) (suc n) s h =
    let rest = got xs n s h in
    let low = rest.0 in
    (omega (arith, low), rest.1)

-- one state more
pub counted_more : (p : BlockState → Bool) (xs : List BlockState) (n : ℕ) (s : BlockState) → slice_get xs n ≡ Some s → count_by p (take (n + 1) xs) ≡ count_by p (take n xs) + cond (p s) 1 0
counted_more p xs n s there =
    let at_place = got xs n s there in
    sum_by_more (λ x. cond (p x) 1 0) xs n s at_place.0 ∙ ap (λ x. count_by p (take n xs) + cond (p x) 1 0) at_place.1

-- what a flag is as a number
pub flag-is : (b : Bool) → bool_byte b ≡ cond b 1 0
flag-is true = refl
flag-is false = refl

pub one-le : (b : Bool) → cond b 1 0 ≤ 1
one-le true = omega arith
one-le false = omega arith

pub refused_parts : (b : Bool) (w : ℕ) → (b && nat_lt 0 w) ≡ true → (b ≡ true) × (0 < w)
refused_parts true w h = (refl, grind (arith, nat_tests))
refused_parts false w h = absurd (true≢false (sym h))

pub not_refused : (b : Bool) (w : ℕ) → (b && nat_lt 0 w) ≡ false → b ≡ true → w ≡ 0
not_refused true w h e = grind (arith, nat_tests)
not_refused false w h e = absurd (true≢false (sym e))

-- nothing was run
pub uncovered_answer : (files : List File) (table edits : List ℕ) (n k : ℕ) (strict : Bool) (i : CountedInput) → AreCountsGood files n k → IsCountedInput files table edits n i
    → (strict && nat_lt 0 i.without_row) ≡ true → IsUncovered files table edits n k strict i.without_row
uncovered_answer files table edits n k strict i good s refused =
    let parts = refused_parts strict i.without_row refused in
    record {
      asked = parts.0;
      some = parts.1;
      uncovered = s.uncovered;
      rules = s.read.rules;
      height = s.read.height;
      world = stated s.read.known (land_of i.input.world);
      rest = rest_in i.input.rest;
      accepted = record { counts = good; rules = s.read.spelled; states = s.read.known; read = s.read.load.read; denotes = s.read.load.denotes; no_fault = s.read.read.no_fault };
    }
