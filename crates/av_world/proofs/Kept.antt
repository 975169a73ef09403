-- What a change of a section does to its filling and its numbers.
use Rattle.std.proofs.Common.{◌≡◌, ℕ, Option, Some, None, refl, sym, IsTrue, List, All, true≢false}
use Rattle.av_section.specs.declared.section.Section.{Section}
use Rattle.av_cells.specs.Grid.{renumbered_in, waited_in, is_here}
use Rattle.av_world.specs.Sections.{filling_in, CanSetIn}
use Rattle.av_world.specs.Changes.{SlotSets, SlotAdds, SlotKeeps, HaveNumbers}

pub sets_filling : (a b : Option Section) (i n : ℕ) → SlotSets a b i n → filling_in b ≡ renumbered_in (filling_in a) i n
sets_filling None None i n h = refl
sets_filling None (Some s) i n h = absurd h
sets_filling (Some s) None i n h = absurd h
sets_filling (Some s) (Some t) i n h = λ k. Some (record { number = λ j. h.numbers j k; pending = λ j. h.pending j k })

pub sets_prepared : (a b : Option Section) (i m : ℕ) → SlotSets a b i m → (n : ℕ) → CanSetIn a n → CanSetIn b n
sets_prepared None b i m h n g = absurd g
sets_prepared (Some s) None i m h n g = absurd h
sets_prepared (Some s) (Some t) i m h n g = h.prepared n g

pub adds_filling : (a b : Option Section) (i : ℕ) → SlotAdds a b i → filling_in b ≡ waited_in (filling_in a) i
adds_filling None None i h = refl
adds_filling None (Some s) i h = absurd h
adds_filling (Some s) None i h = absurd h
adds_filling (Some s) (Some t) i h = λ k. Some (record { number = λ j. h.numbers j k; pending = λ j. h.pending j k })

pub adds_prepared : (a b : Option Section) (i : ℕ) → SlotAdds a b i → (n : ℕ) → CanSetIn a n → CanSetIn b n
adds_prepared None b i h n g = absurd g
adds_prepared (Some s) None i h n g = absurd h
adds_prepared (Some s) (Some t) i h n g = h.prepared n g

pub keeps_filling : (a b : Option Section) → SlotKeeps a b → filling_in b ≡ filling_in a
keeps_filling None None h = refl
keeps_filling None (Some s) h = absurd h
keeps_filling (Some s) None h = absurd h
keeps_filling (Some s) (Some t) h = λ k. Some (record { number = λ j. h.numbers j k; pending = λ j. h.pending j k })

pub keeps_prepared : (a b : Option Section) → SlotKeeps a b → (n : ℕ) → CanSetIn a n → CanSetIn b n
keeps_prepared None b h n g = absurd g
keeps_prepared (Some s) None h n g = absurd h
keeps_prepared (Some s) (Some t) h n g = h.prepared n g

pub have_numbers : (o : Option Section) (ns : List ℕ) → IsTrue (is_here (filling_in o)) → HaveNumbers o ns → All (CanSetIn o) ns
have_numbers None ns here have = absurd (true≢false (sym here))
have_numbers (Some s) ns here have = have

pub have_if : (o : Option Section) (ns : List ℕ) → (IsTrue (is_here (filling_in o)) → All (CanSetIn o) ns) → HaveNumbers o ns
have_if None ns h = tt
have_if (Some s) ns h = h refl
