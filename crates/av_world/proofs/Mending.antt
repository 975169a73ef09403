-- Parts that come back.
use Rattle.std.proofs.Common.{◌≡◌, ℕ, Bool, true, false, cond, IsTrue, Option, Some, None, refl, sym, ap, ◌∙◌, true≢false}
use Rattle.av_types.specs.Positions.{chunk_of, section_of, place_of}
use Rattle.av_ticks.specs.Entries.{is_pending}
use Rattle.av_cells.specs.Grid.{Filling, is_here, number_in, pending_in}
use Rattle.av_world.specs.Mending.{MendUndoesCarve}

pub mend_undoes : MendUndoesCarve
mend_undoes l g picked part tied same = λ i. record {
  loaded = λ q. (ap (λ b. cond b true (is_here (cond (picked (section_of q)) None (g (section_of q))))) (λ j. same j q) ∙ loaded_by (picked (section_of q)) (g (section_of q))) i;
  number = λ q. number_by (part.loaded q) (picked (section_of q)) (g (section_of q)) (part.number q) (place_of q) (λ j. same j q) i;
  pending = λ q. pending_by (part.loaded q) (picked (section_of q)) (g (section_of q)) (is_pending q (l (chunk_of q))) (place_of q) (λ j. same j q) (tied q) i;
} where
  loaded_by : (b : Bool) (o : Option Filling) → cond (is_here (cond b o None)) true (is_here (cond b None o)) ≡ is_here o
  loaded_by true None = refl
  loaded_by true (Some f) = refl
  loaded_by false None = refl
  loaded_by false (Some f) = refl

  number_by : (x b : Bool) (o : Option Filling) (m j : ℕ) → x ≡ is_here (cond b o None) → cond x m (number_in (cond b None o) j) ≡ cond x m (number_in o j)
  number_by true b o m j e = refl
  number_by false true None m j e = refl
  number_by false true (Some f) m j e = absurd (true≢false (sym e))
  number_by false false o m j e = refl

  pending_by : (x b : Bool) (o : Option Filling) (w : Bool) (j : ℕ) → x ≡ is_here (cond b o None) → (IsTrue (is_here o) → pending_in o j ≡ w) → cond x w (pending_in (cond b None o) j) ≡ pending_in o j
  pending_by true true None w j e t = absurd (true≢false e)
  pending_by true true (Some f) w j e t = sym (t refl)
  pending_by true false o w j e t = absurd (true≢false e)
  pending_by false true None w j e t = refl
  pending_by false true (Some f) w j e t = absurd (true≢false (sym e))
  pending_by false false o w j e t = refl
