-- Steps of a loop that wakes blocks.
use Rattle.std.proofs.Common.{◌≡◌, ℕ, ◌+◌, ◌-◌, ◌<◌, ◌≤◌, suc, IsTrue, true, pos, List, [], ◌∷◌, ◌++◌, length, drop, get_or, refl, sym, ap, ◌∙◌, subst, arith, append_assoc}
use Rattle.std.proofs.lemmas.List.{drop_more, append-nil}
use Rattle.std.proofs.lemmas.Bool.{cond_both}
use Rattle.av_types.specs.declared.position.Pos.{Pos}
use Rattle.av_types.specs.declared.tick.Entry.{Entry}
use Rattle.av_cells.specs.declared.kind.Kind.{Kind}
use Rattle.av_cells.specs.Positions.{same_pos, ForAround, around, step, below, above}
use Rattle.av_types.specs.declared.water.Direction.TheVariants.{North, South, West, East}
use Rattle.av_cells.specs.Rule.{HasKinds}
use Rattle.av_cells.specs.Turn.{Change, woken, woken_all}
use Rattle.av_cells.specs.World.{World, Lists, with_number, listed_if, listed_all}
use Rattle.av_cells.specs.Wakes.{Appends, HasRoom, HaveRoom, SameStates}

pub HasKinds-same : (n : ℕ) (v w : World) → SameStates v w → HasKinds n v → HasKinds n w
HasKinds-same n v w s h p l = subst (λ f. f p < n) (sym s.number) (h p (subst (λ f. IsTrue (f p)) s.loaded l))

pub SameStates-trans : (u v w : World) → SameStates u v → SameStates v w → SameStates u w
SameStates-trans u v w s t = record { loaded = t.loaded ∙ s.loaded; number = t.number ∙ s.number }

-- one entry of each block less
pub HaveRoom-less : (v w : World) (room room' : Pos → ℕ) (m : ℕ) → SameStates v w → ((q : Pos) → room q ≤ room' q + 1) → (qs : List Pos) → HaveRoom v room (suc m) qs → HaveRoom w room' m qs
HaveRoom-less v w room room' m s less [] h = h
HaveRoom-less v w room room' m s less (q ∷ qs) h = (λ l. let a : suc m ≤ room q = h.0 (subst (λ f. IsTrue (f q)) s.loaded l) in let b = less q in omega arith, HaveRoom-less v w room room' m s less qs h.1)

-- what is left after one block
pub HaveRoom-next : (v w : World) (room room' : Pos → ℕ) → SameStates v w → ((q : Pos) → room q ≤ room' q + 1) → (qs : List Pos) (i : ℕ) → i < length qs
    → HaveRoom v room (length qs - i) (drop i qs) → HaveRoom w room' (length qs - (i + 1)) (drop (i + 1) qs)
HaveRoom-next v w room room' s less qs i within h =
    let d : Pos = record { x = pos 0; y = pos 0; z = pos 0 } in
    let e : length qs - i ≡ suc (length qs - (i + 1)) = omega arith in
    let h' : HaveRoom v room (suc (length qs - (i + 1))) (get_or qs i d ∷ drop (i + 1) qs) = subst (λ ps. HaveRoom v room (suc (length qs - (i + 1))) ps) (drop_more qs i d within) (subst (λ n. HaveRoom v room n (drop i qs)) e h) in
    HaveRoom-less v w room room' (length qs - (i + 1)) s less (drop (i + 1) qs) h'.1

listed_all-append : (es fs : List Entry) (lists : Lists) → listed_all lists (es ++ fs) ≡ listed_all (listed_all lists es) fs
listed_all-append [] fs lists = refl
listed_all-append (e ∷ es) fs lists = listed_all-append es fs (listed_if true lists e)

pub Appends-none : (made : List Entry) (lists : Lists) → Appends made made lists lists
Appends-none made lists = record { added = []; made_is = sym (append-nil made); lists_are = refl }

pub Appends-trans : (a b c : List Entry) (k l m : Lists) → Appends a b k l → Appends b c l m → Appends a c k m
Appends-trans a b c k l m s t =
    record {
      added = s.added ++ t.added;
      made_is = t.made_is ∙ ap (λ x. x ++ t.added) s.made_is ∙ append_assoc a s.added t.added;
      lists_are = t.lists_are ∙ ap (λ x. listed_all x t.added) s.lists_are ∙ sym (listed_all-append s.added t.added k);
    }

-- the next block is woken
pub woken_all-next : (k : ℕ → Kind) (now : ℕ) (ps : List Pos) (i : ℕ) (d : Pos) (b c e : Change) → i < length ps → c ≡ woken k now (get_or ps i d) b → woken_all k now (drop i ps) b ≡ e → woken_all k now (drop (i + 1) ps) c ≡ e
woken_all-next k now ps i d b c e within is h =
    ap (λ x. woken_all k now (drop (i + 1) ps) x) is ∙ sym (ap (λ qs. woken_all k now qs b) (drop_more ps i d within)) ∙ h

pub HasKinds-set : (count : ℕ) (v w : World) (p : Pos) (n : ℕ) → w ≡ with_number v p n → n < count → HasKinds count v → HasKinds count w
HasKinds-set count v w p n is less h = subst (HasKinds count) (sym is) (λ q l. cond_both (same_pos q p) n (v.number q) (λ m. m < count) (λ _. less) (λ _. h q l))

-- a loop over the seven blocks has room for them
pub HaveRoom-around : (v w : World) (room room' : Pos → ℕ) (p : Pos) → w.loaded ≡ v.loaded → ((q : Pos) → room q ≤ room' q) → ForAround (HasRoom v room 7) p → HaveRoom w room' 7 (around p)
HaveRoom-around v w room room' p same more h =
    let at : (q : Pos) → HasRoom v room 7 q → HasRoom w room' 7 q = λ q r l. let a = r (subst (λ f. IsTrue (f q)) same l) in let b = more q in omega arith in
    (at p h.itself, (at (below p) h.beneath, (at (above p) h.overhead, (at (step p North) (h.beside North), (at (step p South) (h.beside South), (at (step p West) (h.beside West), (at (step p East) (h.beside East), tt)))))))

pub HaveRoom-these : (v w : World) (room room' : Pos → ℕ) (p : Pos) (qs : List Pos) → qs ≡ around p → w.loaded ≡ v.loaded → ((q : Pos) → room q ≤ room' q) → ForAround (HasRoom v room 7) p → HaveRoom w room' (length qs) qs
HaveRoom-these v w room room' p qs is same more h = subst (λ ps. HaveRoom w room' (length ps) ps) (sym is) (HaveRoom-around v w room room' p same more h)
