-- A section of a palette whose states are numbered, and why it is refused.
use Rattle.std.proofs.Common.{◌≡◌, ℕ, ◌<◌, ◌≤◌, ◌==◌, ◌&&◌, Bool, true, false, true≢false, List, [], ◌∷◌, ◌++◌, length, get_or, Option, Some, None, is_some, refl, sym, ◌∙◌}
use Rattle.std.specs.Prelude.{ℤ}
use Rattle.std.proofs.lemmas.List.{get_or-replicate}
use Rattle.av_types.specs.declared.fault.Fault.{Fault}
use Rattle.av_types.specs.declared.fault.Fault.TheVariants.{OutOfMemory, BadPalette, BadPacked, BadWaterLevel, TooManyStates}
use Rattle.av_types.specs.Faults.{least}
use Rattle.av_tags.specs.Nbt.{Nbt}
use Rattle.av_tags.specs.Shape.{each, lacks}
use Rattle.av_tags.proofs.Each.{length-each}
use Rattle.av_pack.specs.Packing.{bits_for, longs_for, unpacked}
use Rattle.av_state.specs.BlockState.{BlockState, meant}
use Rattle.av_state.specs.StateList.{most_states}
use Rattle.av_section.specs.declared.section.Section.{Section}
use Rattle.av_section.specs.BlockStates.{data_of, indices_if, indices_in, indices_of, packed_indices, are_below, all_zero, when, states_faults}
use Rattle.av_section.specs.Palette.{palette_of}
use Rattle.av_section.specs.Known.{ArePacked, AreUnfit, IsPlaced}
use Rattle.av_section.specs.Numbered.{AreOfPalette, AreNotOfPalette}
use Rattle.av_section.specs.Reading.{IsRead, IsStatesRefusal}

pub zero_at : (i : ℕ) → i < 4096 → get_or all_zero i 0 ≡ 0
unfolding all_zero
zero_at i low = get_or-replicate 4096 i 0 0 low

-- ---- indices that are there

if_there : (b : Bool) (xs : List ℕ) → is_some (indices_if b xs) ≡ true → indices_if b xs ≡ Some xs
if_there true xs h = refl
if_there false xs h = absurd (true≢false (sym h))

pub zeros_there : (count : ℕ) (ls : List ℤ) → (length ls == 0) ≡ true → is_some (indices_in count ls) ≡ true → indices_in count ls ≡ Some all_zero
zeros_there count ls none h = rw none (if_there (count == 1) all_zero (rw none at h))

pub packed_there : (count : ℕ) (ls : List ℤ) → (length ls == 0) ≡ false → is_some (indices_in count ls) ≡ true → packed_indices count ls ≡ Some (unpacked (bits_for count) ls)
packed_there count ls some h =
    if_there ((length ls == longs_for (bits_for count)) && are_below count (unpacked (bits_for count) ls)) (unpacked (bits_for count) ls) (rw some at h)

pub indices_there : (count : ℕ) (ls : List ℤ) → (length ls == 0) ≡ false → is_some (indices_in count ls) ≡ true → indices_in count ls ≡ Some (unpacked (bits_for count) ls)
indices_there count ls some h = rw some (packed_there count ls some h)

pub record HasIndices (o : Option (List ℕ)) : Type 0 where
  pub found : List ℕ
  pub are : o ≡ Some found

has_indices : (o : Option (List ℕ)) → is_some o ≡ true → HasIndices o
has_indices None h = absurd (true≢false (sym h))
has_indices (Some found) h = record { found = found; are = refl }

-- ---- the whole

as_many : (old new : List BlockState) (entries : Option (List BlockState)) (numbers : List ℕ) (a : AreOfPalette old new entries numbers) → length a.told ≡ length numbers
as_many old new entries numbers a = sym (a.numbered.count ∙ length-each meant a.told a.numbered.forms a.numbered.forms_are)

module _ (palette longs : Option Nbt) (old : List BlockState) where
  pub palette_read : (new : List BlockState) (ls : List ℤ) (numbers : List ℕ) (s : Section) → AreOfPalette old new (palette_of palette) numbers → data_of longs ≡ Some ls
      → IsPlaced numbers (indices_in (length numbers) ls) s → length new ≤ most_states → IsRead palette longs old new s
  palette_read new ls numbers s a d p few =
      let same = as_many old new (palette_of palette) numbers a in
      record {
        no_fault = rw (a.told_are, d, same, p.found_are, a.numbered.forms_are) refl;
        states = rw (a.told_are, a.numbered.forms_are) a.numbered.states;
        few = few;
        numbers = λ i low. rw (p.numbers_are i low, a.told_are, a.numbered.forms_are, d, same, p.found_are) (a.numbered.each_is (get_or p.found i 0) (p.within i low));
        pending = p.pending;
      }

  bad_palette : palette_of palette ≡ None → least (states_faults palette longs) ≡ Some 14
  bad_palette h = rw h (by (lacks (indices_of 0 longs))) where
    by : (b : Bool) → least (14 ∷ when b 15 ++ []) ≡ Some 14
    by true = refl
    by false = refl

  bad_packed : (told : List BlockState) → palette_of palette ≡ Some told → indices_of (length told) longs ≡ None → least (states_faults palette longs) ≡ Some 15
  bad_packed told h none = rw (h, none) (by (lacks (each meant told))) where
    by : (b : Bool) → least (15 ∷ when b 17) ≡ Some 15
    by true = refl
    by false = refl

  pub unfit_refused : (e : Fault) → AreUnfit (palette_of palette) longs e → IsStatesRefusal palette longs old e
  unfit_refused OutOfMemory h = tt
  unfit_refused BadPalette h = bad_palette h
  unfit_refused BadPacked h = bad_packed h.told h.told_are h.because
  unfit_refused _ h = absurd h

  pub unnumbered_refused : (ls : List ℤ) (count : ℕ) (e : Fault) → ((told : List BlockState) → palette_of palette ≡ Some told → length told ≡ count) → ArePacked longs count ls
      → AreNotOfPalette (palette_of palette) old e → IsStatesRefusal palette longs old e
  unnumbered_refused ls count OutOfMemory many p h = tt
  unnumbered_refused ls count BadPalette many p h = bad_palette h
  unnumbered_refused ls count BadWaterLevel many p h =
      let fit = has_indices (indices_in count ls) p.fit in
      rw (h.told_are, p.longs_are, many h.told h.told_are, fit.are, h.because) refl
  unnumbered_refused ls count TooManyStates many p h =
      let fit = has_indices (indices_in count ls) p.fit in
      let w = h.because in
      rw (h.told_are, p.longs_are, many h.told h.told_are, fit.are, w.forms_are) (refl, w.too_many)
  unnumbered_refused ls count _ many p h = absurd h
