-- Chunks that come to a stage.
use Rattle.std.proofs.Common.{get_or-set_same, get_or-set_other, length-set, ◌≡◌, ◌≢◌, ℕ, zero, suc, ◌<◌, ◌≤◌, ◌||◌, ◌++◌, ◌∷◌, [], List, length, get_or, slice_get, slice_set, Bool, true, false, Option, Some, None, refl, sym, ap, subst, ◌∙◌, arith, ◌⊎◌, inl, inr}
use Rattle.std.proofs.lemmas.Bool.{true≢false}
use Rattle.std.proofs.lemmas.Option.{slice_get_within, get_or_from_slice_get}
use Rattle.av_types.specs.declared.position.ChunkPos.{ChunkPos}
use Rattle.av_types.proofs.SamePositions.{same_chunk_is, same_chunk_from}
use Rattle.av_cells.specs.Positions.{same_chunk}
use Rattle.av_land.specs.Land.{has_chunk}
use Rattle.av_world.specs.Index.{slot}
use Rattle.av_world.specs.Views.{positions_of}
use Rattle.av_world.specs.declared.worlds.World.{World}
use Rattle.av_world.proofs.ChunkReads.{slot_of_index}
use Rattle.av_world.specs.Near.{slot_at}
use Rattle.av_groups.proofs.Touched.{has_push}
use Rattle.av_lending.specs.Plans.{stage_of}
use Rattle.av_lending.specs.Brought.{CameTo, IsBringing}

pub slot_is : (w : World) (c : ChunkPos) (i : ℕ) → slice_get (positions_of w) i ≡ Some c → slot (positions_of w) c ≡ i
slot_is w c i at = slot_of_index (positions_of w) c i w.lawful.rising (slice_get_within (positions_of w) i c at) at

or_true : (a : Bool) → a || true ≡ true
or_true true = refl
or_true false = refl

or_false : (a : Bool) → a || false ≡ a
or_false true = refl
or_false false = refl

-- no chunk's stage is told past the end
pub some_past : (xs : List (Option ℕ)) (i m : ℕ) → length xs ≤ i → get_or xs i None ≡ Some m → ⊥
some_past [] i m h e = true≢false (ap (λ (o : Option ℕ). is_none o) e) where
  is_none : Option ℕ → Bool
  is_none None = true
  is_none (Some m) = false
some_past (x ∷ xs) zero m h e = omega (arith, h)
some_past (x ∷ xs) (suc i) m h e = some_past xs i m (omega (arith, h)) e

-- one chunk more comes to the stage
pub one_more : (w : World) (cs : List ChunkPos) (c : ChunkPos) (i : ℕ) (stage : Option ℕ) (old new : List (Option ℕ)) → slice_get (positions_of w) i ≡ Some c → IsBringing (positions_of w) cs stage old new
    → IsBringing (positions_of w) (cs ++ c ∷ []) stage old (slice_set new i stage)
one_more w cs c i stage old new at was = record { long = length-set new i stage ∙ was.long; came = came } where
  ps : List ChunkPos
  ps = positions_of w

  here : slot (positions_of w) c ≡ i
  here = slot_is w c i at

  inside : i < length new
  inside = subst (λ n. i < n) (sym was.long) (slice_get_within (positions_of w) i c at)

  came : CameTo (positions_of w) (cs ++ c ∷ []) stage old (slice_set new i stage)
  came d m h = by (same_chunk c d) refl where
    by : (t : Bool) → same_chunk c d ≡ t → ((has_chunk (cs ++ c ∷ []) d ≡ true) × (stage ≡ Some m)) ⊎ ((has_chunk (cs ++ c ∷ []) d ≡ false) × (stage_of (positions_of w) old d ≡ Some m))
    by true e =
        let there : slot (positions_of w) d ≡ i = ap (slot (positions_of w)) (sym (same_chunk_is c d e)) ∙ here in
        inl (has_push cs c d ∙ ap (λ t. has_chunk cs d || t) e ∙ or_true (has_chunk cs d), sym (get_or-set_same new i stage None inside) ∙ ap (λ n. get_or (slice_set new i stage) n None) (sym there) ∙ h)
    by false e = other (was.came d m (sym (get_or-set_other new i (slot (positions_of w) d) stage None apart) ∙ h)) where
      apart : slot (positions_of w) d ≢ i
      apart s = true≢false (sym (same_chunk_from c d (there_is (slice_get_within (positions_of w) i c at) s)) ∙ e) where
        there_is : i < length (positions_of w) → slot (positions_of w) d ≡ i → c ≡ d
        there_is below s = sym (get_or_from_slice_get (positions_of w) i c d at) ∙ ap (λ n. get_or (positions_of w) n d) (sym s) ∙ slot_at (positions_of w) d d (subst (λ n. n < length (positions_of w)) (sym s) below)

      none : has_chunk (cs ++ c ∷ []) d ≡ has_chunk cs d
      none = has_push cs c d ∙ ap (λ t. has_chunk cs d || t) e ∙ or_false (has_chunk cs d)

      other : ((has_chunk cs d ≡ true) × (stage ≡ Some m)) ⊎ ((has_chunk cs d ≡ false) × (stage_of (positions_of w) old d ≡ Some m)) → ((has_chunk (cs ++ c ∷ []) d ≡ true) × (stage ≡ Some m)) ⊎ ((has_chunk (cs ++ c ∷ []) d ≡ false) × (stage_of (positions_of w) old d ≡ Some m))
      other (inl (t, s)) = inl (none ∙ t, s)
      other (inr (t, s)) = inr (none ∙ t, s)

pub nothing_yet : (ps : List ChunkPos) (stage : Option ℕ) (old : List (Option ℕ)) → length old ≡ length ps → IsBringing ps [] stage old old
nothing_yet ps stage old long = record { long = long; came = λ c m h. inr (refl, h) }
