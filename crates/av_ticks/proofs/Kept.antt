-- What a filter of the entries keeps.
use Rattle.std.proofs.Common.{◌≡◌, Bool, true, false, List, [], ◌∷◌, filter, refl, sym, true≢false}
use Rattle.av_types.specs.declared.position.Pos.{Pos}
use Rattle.av_types.specs.declared.tick.Entry.{Entry}
use Rattle.av_ticks.specs.Entries.{same_pos, is_pending, are_apart}

pub not_pending_kept : (test : Entry → Bool) (p : Pos) (es : List Entry) → is_pending p es ≡ false → is_pending p (filter test es) ≡ false
not_pending_kept test p [] h = refl
not_pending_kept test p (e ∷ es) h = by (same_pos p e.pos) refl (test e) refl (λ g. not_pending_kept test p es g) where
  by : (b : Bool) → same_pos p e.pos ≡ b → (c : Bool) → test e ≡ c → (is_pending p es ≡ false → is_pending p (filter test es) ≡ false) → is_pending p (filter test (e ∷ es)) ≡ false
  by true i c t rest = absurd (true≢false (rw i at h))
  by false i true t rest = rw (t, i) (rest (rw i at h))
  by false i false t rest = rw t (rest (rw i at h))

-- positions that are apart stay so
pub are_apart-filter : (test : Entry → Bool) (es : List Entry) → are_apart es ≡ true → are_apart (filter test es) ≡ true
are_apart-filter test [] h = refl
are_apart-filter test (e ∷ es) h = by (is_pending e.pos es) refl (test e) refl (λ g. are_apart-filter test es g) where
  by : (b : Bool) → is_pending e.pos es ≡ b → (c : Bool) → test e ≡ c → (are_apart es ≡ true → are_apart (filter test es) ≡ true) → are_apart (filter test (e ∷ es)) ≡ true
  by true i c t rest = absurd (true≢false (sym (rw i at h)))
  by false i true t rest = rw (t, not_pending_kept test e.pos es i) (rest (rw i at h))
  by false i false t rest = rw t (rest (rw i at h))
