-- Each step keeps the rule of the line.
use Rattle.std.proofs.Common.{◌≡◌, ℕ, zero, suc, true, false, true≢false, List, [], ◌∷◌, ◌++◌, length, set, sym, refl, ap, ◌∙◌, subst}
use mathlib.Core.Option.{some, some-injective, some-ne-none}
use lib.ListN.{get_elem?}
use Rattle.std.specs.List.{AllByRecursion}
use Rattle.crossbeam_queue.specs.Fifo.{Pushes, Pops, Forks, Learns}
use Rattle.crossbeam_queue.proofs.Lists.{set_again}
use Rattle.av_line.specs.declared.rule.Slot.{Slot}
use Rattle.av_line.specs.declared.rule.Slot.TheVariants.{Plan, Item}
use Rattle.av_line.specs.declared.rule.View.{View}
use Rattle.av_line.specs.declared.rule.View.TheVariants.{Fresh, Telling, Told}
use Rattle.av_line.specs.Line.{is_told, plan_of, heard, put, IsFit, IsContent, Took, Kept}

module _ {A : Type 0} where
  -- what holds of each holds of the one here
  all_at : (F : A → Type 0) (xs : List A) (i : ℕ) (x : A) → AllByRecursion F xs → get_elem? xs i ≡ some x → F x
  all_at F [] i x h e = absurd (some-ne-none x (sym e))
  all_at F (y ∷ xs) zero x h e = subst F (some-injective y x e) h.0
  all_at F (y ∷ xs) (suc i) x h e = all_at F xs i x h.1 e

  all_more : (F : A → Type 0) (xs : List A) (x : A) → AllByRecursion F xs → F x → AllByRecursion F (xs ++ x ∷ [])
  all_more F [] x h f = (f, tt)
  all_more F (y ∷ xs) x h f = (h.0, all_more F xs x h.1 f)

  -- the only one is changed
  one_set : (xs : List A) (i : ℕ) (x y : A) → length xs ≡ 1 → get_elem? xs i ≡ some x → set xs i y ≡ y ∷ []
  one_set [] i x y n e = absurd (some-ne-none x (sym e))
  one_set (a ∷ []) zero x y n e = refl
  one_set (a ∷ []) (suc i) x y n e = absurd (some-ne-none x (sym e))
  one_set (a ∷ b ∷ xs) i x y n e = cc

module _ {T P : Type 0} (fits : P → T → Type 0) where
  pub begins : Kept fits [] (Fresh ∷ [])
  begins = record { known = Fresh; same = (refl, tt); alone = λ e. refl; content = refl }

  is_known : (items : List (Slot T P)) (views : List (View P)) (port : ℕ) (v : View P) (k : Kept fits items views) → get_elem? views port ≡ some v → v ≡ k.known
  is_known items views port v k at = all_at (λ u. u ≡ k.known) views port v k.same at

  -- what the queue holds, by what a pass knows
  pub learns : (port : ℕ) (v : View P) → Learns (Kept fits) port v (IsContent fits v)
  learns port v items views k at = subst (λ u. IsContent fits u items) (sym (is_known items views port v k at)) k.content

  -- the only pass learns something
  only : (items more : List (Slot T P)) (views : List (View P)) (port : ℕ) (v w : View P) → is_told v ≡ false → Kept fits items views → get_elem? views port ≡ some v → IsContent fits w more → Kept fits more (set views port w)
  only items more views port v w untold k at content =
      let one = one_set views port v w (k.alone (sym (ap is_told (is_known items views port v k at)) ∙ untold)) at in
      subst (Kept fits more) (sym one) (record { known = w; same = (refl, tt); alone = λ e. refl; content = content })

  -- no pass learns anything
  none : (items more : List (Slot T P)) (views : List (View P)) (port : ℕ) (v : View P) → Kept fits items views → get_elem? views port ≡ some v → IsContent fits v more → Kept fits more (set views port v)
  none items more views port v k at content =
      let content' = subst (λ u. IsContent fits u more) (is_known items views port v k at) content in
      subst (Kept fits more) (sym (set_again views port v at)) (record { known = k.known; same = k.same; alone = k.alone; content = content' })

  -- the plan is put in
  pub tells : (n port : ℕ) (v : View P) (p : P) → v ≡ Fresh → Pushes (Kept fits) n port v (Plan p) (λ w. w ≡ put {T = T} v (Plan p)) × Learns (Kept fits) port v (IsContent fits v)
  tells n port v p is = (
    λ items views room k at.
        let empty = subst (λ u. IsContent fits u items) is (learns port v items views k at) in
        (Telling p, only items (items ++ Plan p ∷ []) views port v (Telling p) (ap is_told is) k at (ap (λ l. l ++ Plan p ∷ []) empty), refl),
    learns port v,
  )

  -- the plan is taken out
  pub hears : (port : ℕ) (v : View P) (p : P) → v ≡ Telling p → Pops (Kept fits) port v (λ x w. w ≡ heard v) × Learns (Kept fits) port v (IsContent fits v)
  hears port v p is = (
    λ x items views k at.
        let one : x ∷ items ≡ Plan p ∷ [] = subst (λ u. IsContent fits u (x ∷ items)) is (learns port v (x ∷ items) views k at) in
        let rest : items ≡ [] = cc in
        (Told p, only (x ∷ items) items views port v (Told p) (ap is_told is) k at (subst (AllByRecursion (IsFit fits p)) (sym rest) tt), sym (ap heard is)),
    learns port v,
  )

  puts_told : (n port : ℕ) (v : View P) (x : T) (told : is_told v ≡ true) → fits (plan_of v told) x → Pushes (Kept fits) n port v (Item x) (λ w. w ≡ put v (Item x))
  puts_told n port Fresh x told fit items views room k at = absurd (true≢false (sym told))
  puts_told n port (Telling p) x told fit items views room k at = absurd (true≢false (sym told))
  puts_told n port (Told p) x told fit items views room k at =
      (Told p, none items (items ++ Item x ∷ []) views port (Told p) k at (all_more (IsFit fits p) items (Item x) (learns port (Told p) items views k at) fit), refl)

  -- an item is put in
  pub puts : (n port : ℕ) (v : View P) (x : T) (told : is_told v ≡ true) → fits (plan_of v told) x → Pushes (Kept fits) n port v (Item x) (λ w. w ≡ put v (Item x)) × Learns (Kept fits) port v (IsContent fits v)
  puts n port v x told fit = (puts_told n port v x told fit, learns port v)

  takes_told : (port : ℕ) (v : View P) → is_told v ≡ true → Pops (Kept fits) port v (Took fits v)
  takes_told port Fresh told x items views k at = absurd (true≢false (sym told))
  takes_told port (Telling p) told x items views k at = absurd (true≢false (sym told))
  takes_told port (Told p) told x items views k at =
      let content = learns port (Told p) (x ∷ items) views k at in
      (Told p, none (x ∷ items) items views port (Told p) k at content.1, record { same = refl; is_fit = λ _. content.0 })

  -- an item is taken out
  pub takes : (port : ℕ) (v : View P) → is_told v ≡ true → Pops (Kept fits) port v (Took fits v) × Learns (Kept fits) port v (IsContent fits v)
  takes port v told = (takes_told port v told, learns port v)

  -- a pass more is made
  pub shares : (port : ℕ) (v : View P) → is_told v ≡ true → Forks (Kept fits) port v v v
  shares port v told items views k at =
      let is = is_known items views port v k at in
      subst (λ vs. Kept fits items (vs ++ v ∷ [])) (sym (set_again views port v at)) (record {
        known = k.known;
        same = all_more (λ u. u ≡ k.known) views v k.same is;
        alone = λ e. absurd (true≢false (sym told ∙ ap is_told is ∙ e));
        content = k.content;
      })

  -- what was taken is no plan
  pub no_plan : (v w : View P) (s : Slot T P) (q : P) → is_told v ≡ true → Took fits v s w → s ≡ Plan q → ⊥
  no_plan v w s q told took is = subst (IsFit fits (plan_of v told)) is (took.is_fit told)

  -- it is an item, which fits the plan
  pub item_fits : (v w : View P) (s : Slot T P) (x : T) (p : P) (told : is_told v ≡ true) → Took fits v s w → s ≡ Item x → plan_of v told ≡ p → fits p x
  item_fits v w s x p told took is plan = subst (λ q. fits q x) plan (subst (IsFit fits (plan_of v told)) is (took.is_fit told))
