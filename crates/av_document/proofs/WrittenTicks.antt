-- Scheduled ticks as they are written, read back.
use Rattle.std.proofs.Common.{◌≡◌, ℕ, List, [], ◌∷◌, ◌++◌, Bool, true, false, not, ◌||◌, Some, None, Option, cond, map, refl, sym, ap, ◌∙◌}
use Rattle.std.specs.List.{list_any, AllByRecursion}
use Rattle.std.proofs.lemmas.Bool.{false≢true, true≢false}
use Rattle.std.proofs.lemmas.List.{append_assoc, append-nil}
use Rattle.av_ticks.proofs.Lookup.{is_pending-push}
use Rattle.av_types.specs.declared.position.Pos.{Pos}
use Rattle.av_types.specs.declared.position.ChunkPos.{ChunkPos}
use Rattle.av_types.specs.declared.position.Height.{Height}
use Rattle.av_types.specs.declared.tick.Entry.{Entry}
use Rattle.av_types.proofs.SamePositions.{same_pos-turned}
use Rattle.av_tags.specs.Nbt.{NamedTag}
use Rattle.av_tags.specs.Shape.{lacks}
use Rattle.av_ticks.specs.Entries.{same_pos, is_pending, are_apart}
use Rattle.av_document.specs.Ticks.{lies_in, fluid_of, water_entry, is_outside, is_bad_tick, with_entry, with_water, foreign}
use Rattle.av_document.specs.Layout.{fluid_name, entry_layout}
use Rattle.av_document.specs.Law.{sooner}

pub water_entry-layout : (source : Bool) (n : ℕ) (e : Entry) → water_entry (entry_layout source n e) ≡ Some (sooner n e)
water_entry-layout true n e = refl
water_entry-layout false n e = refl

pub fluid_of-layout : (source : Bool) (n : ℕ) (e : Entry) → fluid_of (entry_layout source n e) ≡ Some (fluid_name source)
fluid_of-layout source n e = refl

none_from : {A : Type 0} (o : Option A) → lacks o ≡ true → o ≡ None
none_from None h = refl
none_from (Some x) h = absurd (false≢true h)

any-append : {A : Type 0} (p : A → Bool) (xs ys : List A) → list_any p xs ≡ false → list_any p ys ≡ false → list_any p (xs ++ ys) ≡ false
any-append p [] ys h k = k
any-append p (x ∷ xs) ys h k = by (p x) h (any-append p xs ys) where
  by : (b : Bool) → (b || list_any p xs) ≡ false → (list_any p xs ≡ false → list_any p ys ≡ false → list_any p (xs ++ ys) ≡ false) → (b || list_any p (xs ++ ys)) ≡ false
  by true h more = absurd (true≢false h)
  by false h more = more h k

-- ---- foreign ticks

pub foreign-append : (xs ys : List (List NamedTag)) → foreign (xs ++ ys) ≡ foreign xs ++ foreign ys
foreign-append [] ys = refl
foreign-append (ms ∷ xs) ys = by (lacks (water_entry ms)) (foreign-append xs ys) where
  by : (b : Bool) → foreign (xs ++ ys) ≡ foreign xs ++ foreign ys → cond b (ms ∷ foreign (xs ++ ys)) (foreign (xs ++ ys)) ≡ cond b (ms ∷ foreign xs) (foreign xs) ++ foreign ys
  by true e = ap (λ l. ms ∷ l) e
  by false e = e

pub foreign-foreign : (ts : List (List NamedTag)) → foreign (foreign ts) ≡ foreign ts
foreign-foreign [] = refl
foreign-foreign (ms ∷ ts) = by (lacks (water_entry ms)) refl (foreign-foreign ts) where
  by : (b : Bool) → lacks (water_entry ms) ≡ b → foreign (foreign ts) ≡ foreign ts → foreign (cond b (ms ∷ foreign ts) (foreign ts)) ≡ cond b (ms ∷ foreign ts) (foreign ts)
  by true e more = ap (λ b. cond b (ms ∷ foreign (foreign ts)) (foreign (foreign ts))) e ∙ ap (λ l. ms ∷ l) more
  by false e more = more

-- ---- positions

module _ (sources : Pos → Bool) (n : ℕ) where
  abbrev pub entry_tags : Entry → List NamedTag
  entry_tags e = entry_layout (sources e.pos) n e

  pub foreign-written : (es : List Entry) → foreign (map entry_tags es) ≡ []
  foreign-written [] = refl
  foreign-written (e ∷ es) =
      ap (λ o. cond (lacks o) (entry_tags e ∷ foreign (map entry_tags es)) (foreign (map entry_tags es))) (water_entry-layout (sources e.pos) n e)
      ∙ foreign-written es

  -- ---- faults

  no_bad_written : (c : ChunkPos) (h : Height) (es : List Entry) → AllByRecursion (λ e. lies_in c h e.pos ≡ true) es → list_any (is_bad_tick c h) (map entry_tags es) ≡ false
  no_bad_written c h [] within = refl
  no_bad_written c h (e ∷ es) within =
      ap (λ o. is_outside c h o || list_any (is_bad_tick c h) (map entry_tags es)) (water_entry-layout (sources e.pos) n e)
      ∙ ap (λ b. not b || list_any (is_bad_tick c h) (map entry_tags es)) within.0
      ∙ no_bad_written c h es within.1

  no_bad_foreign : (c : ChunkPos) (h : Height) (ts : List (List NamedTag)) → list_any (is_bad_tick c h) ts ≡ false → list_any (is_bad_tick c h) (foreign ts) ≡ false
  no_bad_foreign c h [] good = refl
  no_bad_foreign c h (ms ∷ ts) good = by (is_bad_tick c h ms) refl good (lacks (water_entry ms)) (no_bad_foreign c h ts) where
    by : (b : Bool) → is_bad_tick c h ms ≡ b → (b || list_any (is_bad_tick c h) ts) ≡ false → (l : Bool) → (list_any (is_bad_tick c h) ts ≡ false → list_any (is_bad_tick c h) (foreign ts) ≡ false)
        → list_any (is_bad_tick c h) (cond l (ms ∷ foreign ts) (foreign ts)) ≡ false
    by true e g l more = absurd (true≢false g)
    by false e g true more = ap (λ b. b || list_any (is_bad_tick c h) (foreign ts)) e ∙ more g
    by false e g false more = more g

  pub no_bad_ticks : (c : ChunkPos) (h : Height) (ts : List (List NamedTag)) (es : List Entry) → list_any (is_bad_tick c h) ts ≡ false → AllByRecursion (λ e. lies_in c h e.pos ≡ true) es
      → list_any (is_bad_tick c h) (foreign ts ++ map entry_tags es) ≡ false
  no_bad_ticks c h ts es good within = any-append (is_bad_tick c h) (foreign ts) (map entry_tags es) (no_bad_foreign c h ts good) (no_bad_written c h es within)

  -- ---- water

  with_water-foreign : (found : List Entry) (ts rest : List (List NamedTag)) → with_water found (foreign ts ++ rest) ≡ with_water found rest
  with_water-foreign found [] rest = refl
  with_water-foreign found (ms ∷ ts) rest = by (lacks (water_entry ms)) refl (with_water-foreign found ts rest) where
    by : (b : Bool) → lacks (water_entry ms) ≡ b → with_water found (foreign ts ++ rest) ≡ with_water found rest → with_water found (cond b (ms ∷ foreign ts) (foreign ts) ++ rest) ≡ with_water found rest
    by true e more = ap (λ o. with_water (with_entry found o) (foreign ts ++ rest)) (none_from (water_entry ms) e) ∙ more
    by false e more = more

  abbrev NotPending : List Entry → List Entry → Type 0
  NotPending found es = AllByRecursion (λ e. is_pending e.pos found ≡ false) es

  not_pending-more : (found : List Entry) (e : Entry) (es : List Entry) → NotPending found es → is_pending e.pos es ≡ false → NotPending (found ++ sooner n e ∷ []) es
  not_pending-more found e [] h new = tt
  not_pending-more found e (x ∷ es) h new = by (same_pos e.pos x.pos) refl new (not_pending-more found e es h.1) where
    by : (b : Bool) → same_pos e.pos x.pos ≡ b → cond b true (is_pending e.pos es) ≡ false → (is_pending e.pos es ≡ false → NotPending (found ++ sooner n e ∷ []) es) → NotPending (found ++ sooner n e ∷ []) (x ∷ es)
    by true i k more = absurd (true≢false k)
    by false i k more = (is_pending-push x.pos found (sooner n e) h.0 (same_pos-turned x.pos e.pos ∙ i), more k)

  with_water-written : (found es : List Entry) → NotPending found es → are_apart es ≡ true → with_water found (map entry_tags es) ≡ found ++ map (sooner n) es
  with_water-written found [] h apart = sym (append-nil found)
  with_water-written found (e ∷ es) h apart = by (is_pending e.pos es) refl apart (with_water-written (found ++ sooner n e ∷ []) es) where
    by : (b : Bool) → is_pending e.pos es ≡ b → cond b false (are_apart es) ≡ true
        → (NotPending (found ++ sooner n e ∷ []) es → are_apart es ≡ true → with_water (found ++ sooner n e ∷ []) (map entry_tags es) ≡ (found ++ sooner n e ∷ []) ++ map (sooner n) es)
        → with_water (with_entry found (water_entry (entry_tags e))) (map entry_tags es) ≡ found ++ sooner n e ∷ map (sooner n) es
    by true i k more = absurd (false≢true k)
    by false i k more =
        ap (λ o. with_water (with_entry found o) (map entry_tags es)) (water_entry-layout (sources e.pos) n e)
        ∙ ap (λ b. with_water (cond b found (found ++ sooner n e ∷ [])) (map entry_tags es)) h.0
        ∙ more (not_pending-more found e es h.1 i) k
        ∙ append_assoc found (sooner n e ∷ []) (map (sooner n) es)

  none_pending : (es : List Entry) → NotPending [] es
  none_pending [] = tt
  none_pending (e ∷ es) = (refl, none_pending es)

  -- the water entries are read back, sooner
  pub with_water-ticks : (ts : List (List NamedTag)) (es : List Entry) → are_apart es ≡ true → with_water [] (foreign ts ++ map entry_tags es) ≡ map (sooner n) es
  with_water-ticks ts es apart = with_water-foreign [] ts (map entry_tags es) ∙ with_water-written [] es (none_pending es) apart

  -- and so are the others
  pub foreign-ticks : (ts : List (List NamedTag)) (es : List Entry) → foreign (foreign ts ++ map entry_tags es) ≡ foreign ts
  foreign-ticks ts es = foreign-append (foreign ts) (map entry_tags es) ∙ ap (λ l. foreign (foreign ts) ++ l) (foreign-written es) ∙ append-nil (foreign (foreign ts)) ∙ foreign-foreign ts
