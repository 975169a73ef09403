-- Edits that were read from a text without a fault.
use Rattle.std.proofs.Common.{◌≡◌, ◌∙◌, ℕ, suc, ◌<◌, List, [], ◌∷◌, ◌++◌, length, map, Bool, true, false, cond, Option, Some, None, slice_get, slice_index_or, option_map, refl, ap, sym, subst}
use Rattle.std.specs.List.{AllByRecursion, flat_map, list_any}
use Rattle.std.proofs.lemmas.Option.{none-some, slice_get_within, get_or_from_slice_get}
use Rattle.std.proofs.lemmas.List.{append_assoc, append-nil}
use Rattle.av_types.specs.declared.position.Pos.{Pos}
use Rattle.av_types.specs.declared.fault.Fault.{Fault}
use Rattle.av_types.specs.declared.fault.Fault.TheVariants.{BadEdit, EditTick, EditOutside, TooManyStates}
use Rattle.av_state.specs.BlockState.{BlockState, air}
use Rattle.av_state.specs.StateList.{same_state}
use Rattle.av_state.specs.Table.{states}
use Rattle.av_state.specs.declared.table.StateTable.{StateTable}
use Rattle.av_state.proofs.Storable.{table-storable}
use Rattle.av_cells.specs.Sets.{Set}
use Rattle.av_edits.specs.declared.edit.Edit.{Edit}
use Rattle.av_edits.specs.Lines.{line_edit}
use Rattle.av_edits.specs.Edits.{is_skipped, lines_of, line_fault, fault_of, table_after, table_of, if_edit, edits_in, or_later, first_in_lines, first_in_edits, table_after_lines, edits_of, stated_in}
use Rattle.av_edits.specs.Numbered.{number_set, number_sets}
use Rattle.av_files.specs.Run.{stated_set}
use Rattle.av_files.specs.Layers.{AreEdits}

-- ---- the table grows at its end

record Grown (old new : List BlockState) : Type 0 where
  more : List BlockState
  is : new ≡ old ++ more

grown_not : (t : List BlockState) → Grown t t
grown_not t = record { more = []; is = sym (append-nil t) }

grown_on : (t u v : List BlockState) → Grown t u → Grown u v → Grown t v
grown_on t u v a b = record { more = a.more ++ b.more; is = b.is ∙ (ap (λ l. l ++ b.more) a.is ∙ append_assoc t a.more b.more) }

grown_if : (b : Bool) (t : List BlockState) (s : BlockState) → Grown t (cond b t (t ++ s ∷ []))
grown_if true t s = grown_not t
grown_if false t s = record { more = s ∷ []; is = refl }

grown_line : (b : Bool) (o : Option (Set BlockState)) (t : List BlockState) → Grown t (cond b t (table_after t o))
grown_line true o t = grown_not t
grown_line false None t = grown_not t
grown_line false (Some e) t = grown_if (list_any (same_state e.what) t) t e.what

grown_lines : (t : List BlockState) (texts : List (List ℕ)) → Grown t (table_after_lines t texts)
grown_lines t [] = grown_not t
grown_lines t (x ∷ xs) = grown_on t (table_of t x) (table_after_lines (table_of t x) xs) (grown_line (is_skipped x) (line_edit x) t) (grown_lines (table_of t x) xs)

-- ---- edits by numbers

one_set : (t : List BlockState) (e : Edit) (y : Set BlockState) (o : Option BlockState) → slice_get t e.number ≡ o → option_map (λ s. record { tick = e.tick; pos = e.pos; what = s }) o ≡ Some y
    → (y ≡ stated_set t (number_set e)) × (e.number < length t)
one_set t e y None at is = absurd (none-some y is)
one_set t e y (Some s) at is =
    let z : Set BlockState = record { tick = e.tick; pos = e.pos; what = s } in
    let same : z ≡ y = some_same z y is in
    let what : slice_index_or t e.number air ≡ s = get_or_from_slice_get t e.number s air at in
    (sym same ∙ sym (λ i. record { tick = e.tick; pos = e.pos; what = what i }), slice_get_within t e.number s at) where
      some_same : (x y : Set BlockState) → Some x ≡ Some y → x ≡ y
      some_same x y h = cc

record AreSets (t : List BlockState) (es : List Edit) (xs : List (Set BlockState)) : Type 0 where
  are : xs ≡ map (stated_set t) (number_sets es)
  below : AllByRecursion (λ e. e.what < length t) (number_sets es)

sets_are : (t : List BlockState) (es : List Edit) (xs : List (Set BlockState)) → map (stated_in t) es ≡ map Some xs → AreSets t es xs
sets_are t [] [] h = record { are = refl; below = tt }
sets_are t [] (x ∷ xs) h = absurd cc
sets_are t (e ∷ es) [] h = absurd cc
sets_are t (e ∷ es) (x ∷ xs) h =
    let a : stated_in t e ≡ Some x = cc in
    let b : map (stated_in t) es ≡ map Some xs = cc in
    let first = one_set t e x (slice_get t e.number) refl a in
    let more = sets_are t es xs b in
    record { are = ap (λ z. z ∷ xs) first.0 ∙ ap (λ zs. stated_set t (number_set e) ∷ zs) more.are; below = (first.1, more.below) }

-- ---- each edit's block is loaded

module _ (loaded : Pos → Bool) (ticks : ℕ) where
  abbrev Is : Set BlockState → Type 0
  Is e = loaded e.pos ≡ true

  inside : (a l m : Bool) (x y z : Fault) → cond a (cond l (cond m (Some x) None) (Some y)) (Some z) ≡ None → l ≡ true
  inside true true m x y z h = refl
  inside true false m x y z h = absurd (none-some y (sym h))
  inside false l m x y z h = absurd (none-some z (sym h))

  there_line : (t : List BlockState) (n : ℕ) (b : Bool) (o : Option (Set BlockState)) → cond b None (line_fault loaded ticks t n o) ≡ None → AllByRecursion Is (cond b [] (if_edit o))
  there_line t n true o h = tt
  there_line t n false None h = absurd (none-some (BadEdit n) (sym h))
  there_line t n false (Some e) h = (inside _ _ _ TooManyStates (EditOutside n) (EditTick n) h, tt)

  both : (o p : Option Fault) → or_later o p ≡ None → (o ≡ None) × (p ≡ None)
  both None p h = (refl, h)
  both (Some e) p h = absurd (none-some e (sym h))

  all_append : (xs ys : List (Set BlockState)) → AllByRecursion Is xs → AllByRecursion Is ys → AllByRecursion Is (xs ++ ys)
  all_append [] ys a b = b
  all_append (x ∷ xs) ys a b = (a.0, all_append xs ys a.1 b)

  there_lines : (t : List BlockState) (n : ℕ) (texts : List (List ℕ)) → first_in_lines loaded ticks t n texts ≡ None → AllByRecursion Is (flat_map edits_in texts)
  there_lines t n [] h = tt
  there_lines t n (x ∷ xs) h =
      let parts = both (fault_of loaded ticks t n x) (first_in_lines loaded ticks (table_of t x) (suc n) xs) h in
      all_append (edits_in x) (flat_map edits_in xs) (there_line t n (is_skipped x) (line_edit x) parts.0) (there_lines (table_of t x) (suc n) xs parts.1)

  there_numbers : (t : List BlockState) (es : List (Set ℕ)) → AllByRecursion Is (map (stated_set t) es) → AllByRecursion (λ e. loaded e.pos ≡ true) es
  there_numbers t [] h = tt
  there_numbers t (e ∷ es) h = (h.0, there_numbers t es h.1)

  pub are_edits : (text : List ℕ) (old : List BlockState) (table : StateTable) (es : List Edit) → map (stated_in (states table)) es ≡ map Some (edits_of text)
      → states table ≡ table_after_lines old (lines_of text) → first_in_edits loaded ticks old text ≡ None → AreEdits loaded ticks text old (states table) (number_sets es)
  are_edits text old table es are after none =
      let grown = grown_lines old (lines_of text) in
      let sets = sets_are (states table) es (edits_of text) are in
      record {
        no_fault = none;
        more = grown.more;
        grown = after ∙ grown.is;
        list = table.numbered;
        sets = sets.are;
        numbers = sets.below;
        there = there_numbers (states table) (number_sets es) (subst (AllByRecursion Is) sets.are (there_lines old 1 (lines_of text) none));
        storable = table-storable table;
      }
