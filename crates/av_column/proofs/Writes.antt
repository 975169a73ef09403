-- What is written and added: one block at a time.
use Rattle.std.proofs.Common.{◌≡◌, ℕ, ◌*◌, ◌<◌, ℤ, List, [], ◌∷◌, ◌++◌, length, filter, slice_index_or, slice_set, Bool, true, false, not, cond, refl, sym, ap, ◌∙◌, subst, arith}
use Rattle.std.proofs.lemmas.Bool.{true≢false}
use Rattle.std.proofs.lemmas.Grind.{get_or-set_at}
use Rattle.std.proofs.lemmas.List.{get_or-set_other}
use Rattle.av_types.specs.declared.position.Pos.{Pos}
use Rattle.av_types.specs.declared.tick.Entry.{Entry}
use Rattle.av_types.specs.Positions.{chunk_of}
use Rattle.av_types.proofs.SamePositions.{same_pos_is, same_pos-refl}
use Rattle.av_cells.specs.Positions.{same_pos, same_chunk}
use Rattle.av_cells.specs.World.{with_number, with_entry, with_entry_if, without_entry, listed_if}
use Rattle.av_column.specs.Columns.{is_there, slot, world_of, lists_of}
use Rattle.av_column.specs.Limits.{there_of}
use Rattle.av_column.proofs.Slots.{slot_within, one_slot}

-- one place of a list written is one block written
pub cell_set : (A : Type 0) (none value : A) (bottom : ℤ) (layers : ℕ) (cells : List A) (p : Pos) → length cells ≡ 256 * layers → is_there bottom layers p ≡ true → (q : Pos)
    → cond (is_there bottom layers q) (slice_index_or (slice_set cells (slot bottom p) value) (slot bottom q) none) none
    ≡ cond (same_pos q p) value (cond (is_there bottom layers q) (slice_index_or cells (slot bottom q) none) none)
cell_set A none value bottom layers cells p long there q = by (is_there bottom layers q) (same_pos q p) refl refl where
  by : (l s : Bool) → is_there bottom layers q ≡ l → same_pos q p ≡ s
      → cond l (slice_index_or (slice_set cells (slot bottom p) value) (slot bottom q) none) none ≡ cond s value (cond l (slice_index_or cells (slot bottom q) none) none)
  by true true e f =
      let within : slot bottom p < length cells = let a = slot_within bottom layers p (there_of bottom layers p there) in omega (arith, a, long) in
      get_or-set_at cells (slot bottom p) (slot bottom q) value none (ap (slot bottom) (same_pos_is q p f)) within
  by true false e f =
      get_or-set_other cells (slot bottom p) (slot bottom q) value none
      (λ g. true≢false (sym (subst (λ r. same_pos q r ≡ true) (one_slot bottom layers q p (there_of bottom layers q e) (there_of bottom layers p there) g) (same_pos-refl q)) ∙ f))
  by false true e f = absurd (true≢false (sym (subst (λ r. is_there bottom layers r ≡ true) (sym (same_pos_is q p f)) there) ∙ e))
  by false false e f = refl

pub world_set : (bottom : ℤ) (layers : ℕ) (numbers : List ℕ) (waiting : List Bool) (p : Pos) (n : ℕ) → length numbers ≡ 256 * layers → is_there bottom layers p ≡ true
    → world_of bottom layers (slice_set numbers (slot bottom p) n) waiting ≡ with_number (world_of bottom layers numbers waiting) p n
world_set bottom layers numbers waiting p n long there =
    λ i. record { loaded = λ q. is_there bottom layers q; number = λ q. cell_set ℕ 0 n bottom layers numbers p long there q i; pending = (world_of bottom layers numbers waiting).pending }

pub world_waits : (bottom : ℤ) (layers : ℕ) (numbers : List ℕ) (waiting : List Bool) (e : Entry) → length waiting ≡ 256 * layers → is_there bottom layers e.pos ≡ true
    → world_of bottom layers numbers (slice_set waiting (slot bottom e.pos) true) ≡ with_entry_if true (world_of bottom layers numbers waiting) e
world_waits bottom layers numbers waiting e long there =
    λ i. record { loaded = λ q. is_there bottom layers q; number = (world_of bottom layers numbers waiting).number; pending = λ q. cell_set Bool false true bottom layers waiting e.pos long there q i }

-- one place that waits no longer is one block that is pending no longer
pub world_leaves : (bottom : ℤ) (layers : ℕ) (numbers : List ℕ) (waiting : List Bool) (e : Entry) → length waiting ≡ 256 * layers → is_there bottom layers e.pos ≡ true
    → world_of bottom layers numbers (slice_set waiting (slot bottom e.pos) false) ≡ without_entry (world_of bottom layers numbers waiting) e
world_leaves bottom layers numbers waiting e long there =
    λ i. record { loaded = λ q. is_there bottom layers q; number = (world_of bottom layers numbers waiting).number; pending = λ q. cell_set Bool false false bottom layers waiting e.pos long there q i }

-- a block that is not there is not pending
pub world_stays : (bottom : ℤ) (layers : ℕ) (numbers : List ℕ) (waiting : List Bool) (e : Entry) → is_there bottom layers e.pos ≡ false
    → world_of bottom layers numbers waiting ≡ without_entry (world_of bottom layers numbers waiting) e
world_stays bottom layers numbers waiting e out =
    λ i. record { loaded = λ q. is_there bottom layers q; number = (world_of bottom layers numbers waiting).number; pending = λ q. by q (is_there bottom layers q) (same_pos q e.pos) refl refl i } where
      by : (q : Pos) (l s : Bool) → is_there bottom layers q ≡ l → same_pos q e.pos ≡ s
          → cond l (slice_index_or waiting (slot bottom q) false) false ≡ cond s false (cond l (slice_index_or waiting (slot bottom q) false) false)
      by q true true h g = absurd (true≢false (sym h ∙ ap (is_there bottom layers) (same_pos_is q e.pos g) ∙ out))
      by q true false h g = refl
      by q false true h g = refl
      by q false false h g = refl

filtered : (A : Type 0) (f : A → Bool) (e : A) (es : List A) → filter f (es ++ e ∷ []) ≡ cond (f e) (filter f es ++ e ∷ []) (filter f es)
filtered A f e [] = by (f e) refl where
  by : (b : Bool) → f e ≡ b → cond b (e ∷ []) [] ≡ cond b ([] ++ e ∷ []) []
  by true h = refl
  by false h = refl
filtered A f e (x ∷ xs) = by (f x) (f e) (filter f (xs ++ e ∷ [])) (filtered A f e xs) where
  by : (b c : Bool) (ys : List A) → ys ≡ cond c (filter f xs ++ e ∷ []) (filter f xs) → cond b (x ∷ ys) ys ≡ cond c (cond b (x ∷ filter f xs) (filter f xs) ++ e ∷ []) (cond b (x ∷ filter f xs) (filter f xs))
  by true true ys h = ap (λ zs. x ∷ zs) h
  by true false ys h = ap (λ zs. x ∷ zs) h
  by false true ys h = h
  by false false ys h = h

pub lists_more : (entries : List Entry) (e : Entry) (b : Bool) → b ≡ true → lists_of (entries ++ e ∷ []) ≡ listed_if b (lists_of entries) e
lists_more entries e true h = λ i c. filtered Entry (λ x. same_chunk c (chunk_of x.pos)) e entries i
lists_more entries e false h = absurd (true≢false (sym h))

pub not_pending : (bottom : ℤ) (layers : ℕ) (numbers : List ℕ) (waiting : List Bool) (p : Pos) → is_there bottom layers p ≡ true → slice_index_or waiting (slot bottom p) false ≡ false
    → not ((world_of bottom layers numbers waiting).pending p) ≡ true
not_pending bottom layers numbers waiting p there h = by (is_there bottom layers p) there where
  by : (b : Bool) → b ≡ true → not (cond b (slice_index_or waiting (slot bottom p) false) false) ≡ true
  by true t = ap not h
  by false t = refl

pub world_adds : (bottom : ℤ) (layers : ℕ) (numbers : List ℕ) (waiting : List Bool) (e : Entry) → length waiting ≡ 256 * layers → is_there bottom layers e.pos ≡ true → slice_index_or waiting (slot bottom e.pos) false ≡ false
    → world_of bottom layers numbers (slice_set waiting (slot bottom e.pos) true) ≡ with_entry (world_of bottom layers numbers waiting) e
world_adds bottom layers numbers waiting e long there h =
    world_waits bottom layers numbers waiting e long there ∙ ap (λ b. with_entry_if b (world_of bottom layers numbers waiting) e) (sym (not_pending bottom layers numbers waiting e.pos there h))

pub read_false : (cells : List Bool) (i j : ℕ) (b : Bool) → b ≡ slice_index_or cells i b → b ≡ false → i ≡ j → slice_index_or cells j false ≡ false
read_false cells i j b is e same = subst (λ k. slice_index_or cells k false ≡ false) same (subst (λ x. slice_index_or cells i x ≡ x) e (sym is))
