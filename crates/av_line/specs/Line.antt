-- The rule of the line. All passes know the same. Before the plan is told there is one pass, and no item. Afterwards each item fits the plan.
use Rattle.std.specs.Prelude.{◌≡◌, List, [], ◌∷◌, length, Bool, true, false}
use Rattle.std.proofs.Common.{true≢false, sym}
use Rattle.std.specs.List.{AllByRecursion}
use Rattle.av_line.specs.declared.rule.Slot.{Slot}
use Rattle.av_line.specs.declared.rule.Slot.TheVariants.{Plan, Item}
use Rattle.av_line.specs.declared.rule.View.{View}
use Rattle.av_line.specs.declared.rule.View.TheVariants.{Fresh, Telling, Told}

module _ {P : Type 0} where
  -- every pass knows the plan
  abbrev pub is_told : View P → Bool
  is_told Fresh = false
  is_told (Telling p) = false
  is_told (Told p) = true

  -- the plan that was told
  abbrev pub plan_of : (v : View P) → is_told v ≡ true → P
  plan_of Fresh e = absurd (true≢false (sym e))
  plan_of (Telling p) e = absurd (true≢false (sym e))
  plan_of (Told p) e = p

  -- what one knows who took the plan out
  abbrev pub heard : View P → View P
  heard Fresh = Fresh
  heard (Telling p) = Told p
  heard (Told p) = Told p

module _ {T P : Type 0} where
  -- what one knows who put this in
  abbrev pub put : View P → Slot T P → View P
  put v (Plan p) = Telling p
  put v (Item x) = v

module _ {T P : Type 0} (fits : P → T → Type 0) where
  -- it is an item, and fits
  abbrev pub IsFit : P → Slot T P → Type 0
  IsFit p (Plan q) = ⊥
  IsFit p (Item x) = fits p x

  -- what the queue holds where this is known
  abbrev pub IsContent : View P → List (Slot T P) → Type 0
  IsContent Fresh items = items ≡ []
  IsContent (Telling p) items = items ≡ Plan p ∷ []
  IsContent (Told p) items = AllByRecursion (IsFit p) items

  -- nothing new is known, and what was taken fits the plan
  pub record Took (v : View P) (x : Slot T P) (w : View P) : Type 0 where
    pub same : w ≡ v
    pub is_fit : (told : is_told v ≡ true) → IsFit (plan_of v told) x

  -- the rule
  pub record Kept (items : List (Slot T P)) (views : List (View P)) : Type 0 where
    pub known : View P
    pub same : AllByRecursion (λ v. v ≡ known) views
    pub alone : is_told known ≡ false → length views ≡ 1
    pub content : IsContent known items
