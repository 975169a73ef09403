-- The first turns and edits, and one more.
use Rattle.std.proofs.Common.{◌≡◌, ℕ, zero, suc, ◌<◌, ◌+◌, cond, nat_eq, List, [], ◌∷◌, length, get_or, take, Result, Ok, Err, OnErr, ap, ◌∙◌, arith}
use Rattle.av_types.specs.declared.tick.Entry.{Entry}
use Rattle.av_cells.specs.declared.kind.Kind.{Kind}
use Rattle.av_land.specs.Land.{Land}
use Rattle.av_land.specs.Tick.{set_in, edited, turned, turned_all}
use Rattle.av_edits.specs.declared.edit.Edit.{Edit}
use Rattle.av_edits.specs.Numbered.{number_sets}
use Rattle.av_serial.specs.Begun.{AreTurnsBegun, AreEditsBegun}

pub turned_more : (k : ℕ → Kind) (now : ℕ) (es : List Entry) (i : ℕ) (d : Entry) (w v v' : Land ℕ) → i < length es → v ≡ turned_all k now (take i es) w → v' ≡ turned k now (get_or es i d).pos v
    → v' ≡ turned_all k now (take (i + 1) es) w
turned_more k now [] i d w v v' h a b = absurd (omega arith)
turned_more k now (x ∷ es) zero d w v v' h a b = b ∙ ap (turned k now x.pos) a
turned_more k now (x ∷ es) (suc i) d w v v' h a b = let step : suc i + 1 ≡ suc (i + 1) = omega arith in rw step (turned_more k now es i d (turned k now x.pos w) v v' (omega arith) a b)

pub edited_more : (k : ℕ → Kind) (now : ℕ) (es : List Edit) (i : ℕ) (d : Edit) (w v v' : Land ℕ) → i < length es → v ≡ edited k now (number_sets (take i es)) w
    → v' ≡ cond (nat_eq (get_or es i d).tick now) (set_in k now (get_or es i d).pos (get_or es i d).number v) v → v' ≡ edited k now (number_sets (take (i + 1) es)) w
edited_more k now [] i d w v v' h a b = absurd (omega arith)
edited_more k now (x ∷ es) zero d w v v' h a b = b ∙ ap (λ u. cond (nat_eq x.tick now) (set_in k now x.pos x.number u) u) a
edited_more k now (x ∷ es) (suc i) d w v v' h a b =
    let step : suc i + 1 ≡ suc (i + 1) = omega arith in rw step (edited_more k now es i d (cond (nat_eq x.tick now) (set_in k now x.pos x.number w) w) v v' (omega arith) a b)

-- a refusal after the first i turns or edits
pub turns_begun : {X E : Type 0} (r : Result X E) (k : ℕ → Kind) (now : ℕ) (es : List Entry) (i : ℕ) (w v v' : Land ℕ) → i < length es → v ≡ turned_all k now (take i es) w → v' ≡ v → OnErr r (AreTurnsBegun k now es w v')
turns_begun (Ok x) k now es i w v v' h a b = tt
turns_begun (Err e) k now es i w v v' h a b = record { count = i; fewer = h; turned = b ∙ a }

pub edits_begun : {X E : Type 0} (r : Result X E) (k : ℕ → Kind) (now : ℕ) (es : List Edit) (i : ℕ) (w v v' : Land ℕ) → i < length es → v ≡ edited k now (number_sets (take i es)) w → v' ≡ v
    → OnErr r (AreEditsBegun k now es w v')
edits_begun (Ok x) k now es i w v v' h a b = tt
edits_begun (Err e) k now es i w v v' h a b = record { count = i; fewer = h; applied = b ∙ a }
