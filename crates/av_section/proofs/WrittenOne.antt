-- What is written of a palette of one entry.
use Rattle.std.proofs.Common.{◌≡◌, ℕ, zero, suc, ◌<◌, None, List, [], ◌∷◌, map, length, get_or, All, refl, sym, ap, subst, ◌∙◌, arith}
use Rattle.std.proofs.lemmas.Bool.{eq-eqb}
use Rattle.std.proofs.lemmas.List.Elements.{All-head, All-tail}
use Rattle.av_section.specs.Distinct.{with_number, with_numbers}
use Rattle.av_pack.specs.Packing.{unpacked}
use Rattle.av_pack.proofs.Laws.{length-unpacked, get_or-unpacked}
use Rattle.av_state.specs.BlockState.{BlockState, air}
use Rattle.av_state.specs.StateList.{IsStateList}
use Rattle.av_section.specs.declared.section.Section.{Section}
use Rattle.av_section.specs.Section.{section_states, HasNumbersBelow}
use Rattle.av_section.specs.BlockStates.{palette_tag, indices_tag, data_tag}
use Rattle.av_section.specs.Palette.{states_tag}
use Rattle.av_section.specs.WrittenPalette.{IsWritten, numbers_of}
use Rattle.av_section.proofs.WrittenStates.{writes_section}

-- the number is there already
once : (n i : ℕ) → i < 1 → with_number (n ∷ []) (get_or (n ∷ []) i 0) ≡ n ∷ []
once n zero low = rw (eq-eqb n n refl) refl
once n (suc i) low = absurd (omega arith)

all_once : (n : ℕ) (indices : List ℕ) → All (λ i. i < 1) indices → with_numbers (n ∷ []) (numbers_of (n ∷ []) indices) ≡ n ∷ []
all_once n [] low = refl
all_once n (i ∷ indices) low =
    ap (λ ks. with_numbers ks (numbers_of (n ∷ []) indices)) (once n i (All-head (λ i. i < 1) i indices low))
    ∙ all_once n indices (All-tail (λ i. i < 1) i indices low)

first : (n i : ℕ) → i < 1 → get_or (n ∷ []) i 0 ≡ n
first n zero low = refl
first n (suc i) low = absurd (omega arith)

-- so the palette is written as it is
written_one : (palette indices : List ℕ) → length palette ≡ 1 → 0 < length indices → All (λ i. i < length palette) indices → IsWritten palette indices palette indices
written_one [] indices one some low = absurd (omega (arith, one))
written_one (n ∷ m ∷ palette) indices one some low = absurd (omega (arith, one))
written_one (n ∷ []) [] one some low = absurd (omega (arith, some))
written_one (n ∷ []) (i ∷ indices) one some low = record {
  numbers =
      let here = All-head (λ i. i < 1) i indices low in
      sym (ap (λ k. with_numbers (k ∷ []) (numbers_of (n ∷ []) indices)) (first n i here) ∙ all_once n indices (All-tail (λ i. i < 1) i indices low));
  short = omega arith;
  count = refl;
  each = λ j within. (low j 0 within, refl);
}

pub record WritesOne (states : List BlockState) (s : Section) : Type 0 where
  pub palette : palette_tag (section_states states s) ≡ states_tag (map (λ k. get_or states k air) s.palette.items)
  pub indices : data_tag (section_states states s) ≡ None
  pub below : All (λ n. n < length states) s.palette.items

pub writes_one : (states : List BlockState) (s : Section) → IsStateList states → HasNumbersBelow s (length states) → length s.palette.items ≡ 1 → WritesOne states s
writes_one states s l low one =
    let indices = unpacked s.bits s.longs.items in
    let many = length-unpacked s.bits s.longs.items in
    let below : All (λ i. i < length s.palette.items) indices = λ k d within. (
    let place : k < 4096 = omega (arith, many) in
    subst (λ i. i < length s.palette.items) (sym (get_or-unpacked s.bits s.longs.items k d place)) (s.packed.below k place)) in
    let all = writes_section states s s.palette.items indices l low (written_one s.palette.items indices one (omega (arith, many)) below) in
    record { palette = all.palette; indices = all.indices ∙ ap (λ n. indices_tag n indices) one; below = all.below }
