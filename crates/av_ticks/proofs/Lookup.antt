-- Positions that are apart.
use Rattle.std.proofs.Common.{◌≡◌, Bool, true, false, List, [], ◌∷◌, ◌++◌, refl, sym, ◌∙◌, true≢false, cond}
use Rattle.av_types.specs.declared.position.Pos.{Pos}
use Rattle.av_types.proofs.SamePositions.{same_pos-turned}
use Rattle.av_types.specs.declared.tick.Entry.{Entry}
use Rattle.av_ticks.specs.Entries.{same_pos, is_pending, are_apart}

pub is_pending-push : (p : Pos) (es : List Entry) (e : Entry) → is_pending p es ≡ false → same_pos p e.pos ≡ false → is_pending p (es ++ e ∷ []) ≡ false
is_pending-push p [] e h g = rw g
is_pending-push p (x ∷ es) e h g = by (same_pos p x.pos) refl (λ i. is_pending-push p es e i g) where
  by : (b : Bool) → same_pos p x.pos ≡ b → (is_pending p es ≡ false → is_pending p (es ++ e ∷ []) ≡ false) → is_pending p ((x ∷ es) ++ e ∷ []) ≡ false
  by true i rest = absurd (true≢false (rw i at h))
  by false i rest = rw i (rest (rw i at h))

-- an entry of a new position keeps the positions apart
pub are_apart-push : (es : List Entry) (e : Entry) → are_apart es ≡ true → is_pending e.pos es ≡ false → are_apart (es ++ e ∷ []) ≡ true
are_apart-push [] e apart new = refl
are_apart-push (x ∷ es) e apart new = by (same_pos e.pos x.pos) refl (is_pending x.pos es) refl (λ a n. are_apart-push es e a n) where
  by : (b : Bool) → same_pos e.pos x.pos ≡ b → (c : Bool) → is_pending x.pos es ≡ c → (are_apart es ≡ true → is_pending e.pos es ≡ false → are_apart (es ++ e ∷ []) ≡ true) → are_apart ((x ∷ es) ++ e ∷ []) ≡ true
  by true i c j rest = absurd (true≢false (rw i at new))
  by false i true j rest = absurd (true≢false (sym (rw j at apart)))
  by false i false j rest = rw (is_pending-push x.pos es e j (same_pos-turned x.pos e.pos ∙ i)) (rest (rw j at apart) (rw i at new))

-- a test that is asked only where the first fails
pub cond_neither : (b c : Bool) → cond b true c ≡ false → (b ≡ false) × (c ≡ false)
cond_neither true c h = absurd (true≢false h)
cond_neither false c h = (refl, h)
