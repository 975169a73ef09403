-- One line more.
use Rattle.std.proofs.Common.{◌≡◌, ℕ, zero, suc, ◌<◌, ◌+◌, Bool, List, [], ◌∷◌, ◌++◌, length, get_or, drop, map, slice_get, Option, Some, None, refl, sym, ap, ◌∙◌, arith}
use Rattle.std.specs.Option.{option_map}
use Rattle.std.specs.List.{flat_map}
use Rattle.std.proofs.lemmas.List.{map-append, append_assoc}
use Rattle.av_types.specs.declared.position.Pos.{Pos}
use Rattle.av_types.specs.declared.fault.Fault.{Fault}
use Rattle.av_state.specs.BlockState.{BlockState}
use Rattle.av_cells.specs.Sets.{Set}
use Rattle.av_edits.specs.declared.edit.Edit.{Edit}
use Rattle.av_edits.specs.Edits.{fault_of, table_of, edits_in, or_later, first_in_lines, table_after_lines, edit_lines, stated_in, option_list, Grows}

pub drop_next : {X Y Z : Type 0} (f : X → Y) (g : Y → Z) (xs : List X) (i : ℕ) (d : X) → i < length xs → map g (map f (drop i xs)) ≡ g (f (get_or xs i d)) ∷ map g (map f (drop (i + 1) xs))
drop_next f g [] i d h = absurd (omega arith)
drop_next f g (x ∷ xs) zero d h = refl
drop_next f g (x ∷ xs) (suc i) d h = let step : suc i + 1 ≡ suc (i + 1) = omega arith in rw step (drop_next f g xs i d (omega arith))

module _ (loaded : Pos → Bool) (ticks : ℕ) where
  pub faults_next : (t t' : List BlockState) (n m : ℕ) (x : List ℕ) (all rest : List (List ℕ)) (total : Option Fault) → all ≡ x ∷ rest → fault_of loaded ticks t n x ≡ None → t' ≡ table_of t x → m ≡ suc n
      → first_in_lines loaded ticks t n all ≡ total → first_in_lines loaded ticks t' m rest ≡ total
  faults_next t t' n m x all rest total e none tab num h =
      sym (ap (first_in_lines loaded ticks t n) e ∙ (ap (λ o. or_later o (first_in_lines loaded ticks (table_of t x) (suc n) rest)) none
      ∙ (ap (λ u. first_in_lines loaded ticks u (suc n) rest) (sym tab) ∙ ap (λ k. first_in_lines loaded ticks t' k rest) (sym num)))) ∙ h

  pub faults_stop : (t : List BlockState) (n : ℕ) (x : List ℕ) (all rest : List (List ℕ)) (total : Option Fault) (f : Fault) → all ≡ x ∷ rest → fault_of loaded ticks t n x ≡ Some f
      → first_in_lines loaded ticks t n all ≡ total → total ≡ Some f
  faults_stop t n x all rest total f e some h = sym h ∙ (ap (first_in_lines loaded ticks t n) e ∙ ap (λ o. or_later o (first_in_lines loaded ticks (table_of t x) (suc n) rest)) some)

pub tables_next : (t t' : List BlockState) (x : List ℕ) (all rest : List (List ℕ)) (total : List BlockState) → all ≡ x ∷ rest → t' ≡ table_of t x → table_after_lines t all ≡ total → table_after_lines t' rest ≡ total
tables_next t t' x all rest total e tab h = ap (λ u. table_after_lines u rest) tab ∙ (sym (ap (table_after_lines t) e) ∙ h)

-- some edits were read, and others are still to be read
pub record AreEditsRead (t : List BlockState) (es : List Edit) (rest whole : List (List ℕ)) : Type 0 where
  pub taken : List (Set BlockState)
  pub are : map (stated_in t) es ≡ map Some taken
  pub all : taken ++ flat_map edits_in rest ≡ flat_map edits_in whole

grown_one : (t t' : List BlockState) (e : Edit) (y : Set BlockState) → Grows t t' → stated_in t e ≡ Some y → stated_in t' e ≡ Some y
grown_one t t' e y g h = by (slice_get t e.number) refl h where
  by : (o : Option BlockState) → slice_get t e.number ≡ o → option_map (λ s. record { tick = e.tick; pos = e.pos; what = s }) o ≡ Some y → stated_in t' e ≡ Some y
  by None q h = cc
  by (Some s) q h = ap (option_map (λ s. record { tick = e.tick; pos = e.pos; what = s })) (g e.number s q) ∙ h

grown : (t t' : List BlockState) (es : List Edit) (ys : List (Set BlockState)) → Grows t t' → map (stated_in t) es ≡ map Some ys → map (stated_in t') es ≡ map Some ys
grown t t' [] [] g h = refl
grown t t' [] (y ∷ ys) g h = cc
grown t t' (e ∷ es) [] g h = cc
grown t t' (e ∷ es) (y ∷ ys) g h =
    let a : stated_in t e ≡ Some y = cc in
    let b : map (stated_in t) es ≡ map Some ys = cc in
    ap (λ z. z ∷ map (stated_in t') es) (grown_one t t' e y g a) ∙ ap (λ zs. Some y ∷ zs) (grown t t' es ys g b)

pub read_next : (t t' : List BlockState) (es es' : List Edit) (o : Option Edit) (x : List ℕ) (all rest whole : List (List ℕ)) → all ≡ x ∷ rest → Grows t t' → es' ≡ es ++ option_list o → map (stated_in t') (option_list o) ≡ map Some (edits_in x)
    → AreEditsRead t es all whole → AreEditsRead t' es' rest whole
read_next t t' es es' o x all rest whole e g more one a = record {
  taken = a.taken ++ edits_in x;
  are = ap (map (stated_in t')) more ∙ (map-append (stated_in t') es (option_list o) ∙ (ap (λ l. l ++ map (stated_in t') (option_list o)) (grown t t' es a.taken g a.are)
      ∙ (ap (λ l. map Some a.taken ++ l) one ∙ sym (map-append Some a.taken (edits_in x)))));
  all = append_assoc a.taken (edits_in x) (flat_map edits_in rest) ∙ (ap (λ l. a.taken ++ flat_map edits_in l) (sym e) ∙ a.all);
}

pub lines_next : (es es' : List Edit) (o : Option Edit) (n m : ℕ) (x : List ℕ) (all rest : List (List ℕ)) (whole : List ℕ) → all ≡ x ∷ rest → es' ≡ es ++ option_list o → map (λ (e : Edit). e.line) (option_list o) ≡ map (λ (e : Set BlockState). n) (edits_in x) → m ≡ suc n
    → map (λ (e : Edit). e.line) es ++ edit_lines n all ≡ whole → map (λ (e : Edit). e.line) es' ++ edit_lines m rest ≡ whole
lines_next es es' o n m x all rest whole e more one num h =
    let line : Edit → ℕ = λ (e : Edit). e.line in
    let now : List ℕ = map (λ (e : Set BlockState). n) (edits_in x) in
    ap (λ (l : List Edit). map line l ++ edit_lines m rest) more ∙ (ap (λ (l : List ℕ). l ++ edit_lines m rest) (map-append line es (option_list o))
    ∙ (ap (λ (l : List ℕ). (map line es ++ l) ++ edit_lines m rest) one ∙ (append_assoc (map line es) now (edit_lines m rest)
    ∙ (ap (λ (k : ℕ). map line es ++ (now ++ edit_lines k rest)) num ∙ (ap (λ (l : List (List ℕ)). map line es ++ edit_lines n l) (sym e) ∙ h)))))

pub grows_on : (t u v : List BlockState) → Grows t u → Grows u v → Grows t v
grows_on t u v a b = λ n s h. b n s (a n s h)
