-- What an index says of the entries.
use Rattle.std.proofs.Common.{◌≡◌, ℕ, ◌+◌, ◌<◌, length, take, get_or, Bool, true, false, ◌&&◌, ◌||◌, not, List, [], ◌∷◌, ◌++◌, filter, Result, Ok, Err, is_ok, refl, sym, ap, subst, ◌∙◌, cond, true≢false}
use Rattle.std.proofs.lemmas.List.{take_more}
use Rattle.std.specs.Result.{OnOk}
use Rattle.av_types.specs.declared.position.Pos.{Pos}
use Rattle.av_types.specs.declared.tick.Entry.{Entry}
use Rattle.av_types.proofs.SamePositions.{same_pos_is}
use Rattle.av_ticks.specs.Entries.{same_pos, is_pending, are_apart}
use Rattle.av_ticks.proofs.Kept.{not_pending_kept}

one_more : (b c m n : Bool) → m ≡ (c || n) → cond b true m ≡ (c || cond b true n)
one_more true true m n h = refl
one_more true false m n h = refl
one_more false c m n h = h

one_alone : (b : Bool) → cond b true false ≡ (b || false)
one_alone true = refl
one_alone false = refl

-- what is pending with one entry more
pub pending_push : (p : Pos) (es : List Entry) (e : Entry) → is_pending p (es ++ e ∷ []) ≡ (same_pos p e.pos || is_pending p es)
pending_push p [] e = one_alone (same_pos p e.pos)
pending_push p (x ∷ es) e = one_more (same_pos p x.pos) (same_pos p e.pos) (is_pending p (es ++ e ∷ [])) (is_pending p es) (pending_push p es e)

-- and with one more if it passes a test
filtered_push : (test : Entry → Bool) (p : Pos) (es : List Entry) (e : Entry) → is_pending p (filter test (es ++ e ∷ [])) ≡ (test e && same_pos p e.pos || is_pending p (filter test es))
filtered_push test p [] e = by (test e) where
  by : (t : Bool) → is_pending p (cond t (e ∷ []) []) ≡ (t && same_pos p e.pos || false)
  by true = one_alone (same_pos p e.pos)
  by false = refl
filtered_push test p (x ∷ es) e = by (test x) (filtered_push test p es e) where
  by : (t : Bool) → is_pending p (filter test (es ++ e ∷ [])) ≡ (test e && same_pos p e.pos || is_pending p (filter test es))
      → is_pending p (cond t (x ∷ filter test (es ++ e ∷ [])) (filter test (es ++ e ∷ []))) ≡ (test e && same_pos p e.pos || is_pending p (cond t (x ∷ filter test es) (filter test es)))
  by true h = one_more (same_pos p x.pos) (test e && same_pos p e.pos) (is_pending p (filter test (es ++ e ∷ []))) (is_pending p (filter test es)) h
  by false h = h

-- the next entry's position is put in
pub noted_next : (p : Pos) (es : List Entry) (i : ℕ) (d : Entry) (new old : Bool) → i < length es
    → new ≡ (same_pos p (get_or es i d).pos || old) → old ≡ is_pending p (take i es) → new ≡ is_pending p (take (i + 1) es)
noted_next p es i d new old less put was =
    put ∙ ap (λ b. same_pos p (get_or es i d).pos || b) was ∙ sym (ap (is_pending p) (take_more es i d less) ∙ pending_push p (take i es) (get_or es i d))

without_both : (a x y : Bool) → ((a && not x) && not y) ≡ (a && not (y || x))
without_both false x y = refl
without_both true true true = refl
without_both true true false = refl
without_both true false true = refl
without_both true false false = refl

-- the next entry's position is taken out if it passes a test
pub forgotten_next : (test : Entry → Bool) (p : Pos) (es : List Entry) (i : ℕ) (d : Entry) (new old first : Bool) → i < length es
    → new ≡ (old && not (test (get_or es i d) && same_pos p (get_or es i d).pos)) → old ≡ (first && not (is_pending p (filter test (take i es))))
    → new ≡ (first && not (is_pending p (filter test (take (i + 1) es))))
forgotten_next test p es i d new old first less out was =
    out ∙ ap (λ b. b && not (test (get_or es i d) && same_pos p (get_or es i d).pos)) was
    ∙ without_both first (is_pending p (filter test (take i es))) (test (get_or es i d) && same_pos p (get_or es i d).pos)
    ∙ ap (λ b. first && not b) (sym (ap (λ l. is_pending p (filter test l)) (take_more es i d less) ∙ filtered_push test p (take i es) (get_or es i d)))

-- the entries that fail a test are those that are there and not among those that pass it
pub pending_others : (test : Entry → Bool) (p : Pos) (es : List Entry) → are_apart es ≡ true
    → is_pending p (filter (λ e. not (test e)) es) ≡ (is_pending p es && not (is_pending p (filter test es)))
pending_others test p [] apart = refl
pending_others test p (e ∷ es) apart = by (is_pending e.pos es) refl (same_pos p e.pos) refl (test e) refl (λ a. pending_others test p es a) where
  gone : (t : Entry → Bool) → is_pending e.pos es ≡ false → same_pos p e.pos ≡ true → is_pending p (filter t es) ≡ false
  gone t n s = subst (λ q. is_pending q (filter t es) ≡ false) (sym (same_pos_is p e.pos s)) (not_pending_kept t e.pos es n)

  by : (n : Bool) → is_pending e.pos es ≡ n → (b : Bool) → same_pos p e.pos ≡ b → (c : Bool) → test e ≡ c
      → (are_apart es ≡ true → is_pending p (filter (λ e. not (test e)) es) ≡ (is_pending p es && not (is_pending p (filter test es))))
      → is_pending p (filter (λ e. not (test e)) (e ∷ es)) ≡ (is_pending p (e ∷ es) && not (is_pending p (filter test (e ∷ es))))
  by true n b s c d rest = absurd (true≢false (sym (rw n at apart)))
  by false n true s true d rest = rw (d, s) (gone (λ x. not (test x)) n s)
  by false n true s false d rest = rw (d, s) (ap not (sym (gone test n s)))
  by false n false s true d rest = rw (d, s) (rest (rw n at apart))
  by false n false s false d rest = rw (d, s) (rest (rw n at apart))

pub when_ok : {T E P : Type 0} (r : Result T E) → is_ok r ≡ true → OnOk r P → P
when_ok (Ok x) e h = h
when_ok (Err y) e h = absurd (true≢false (sym e))
