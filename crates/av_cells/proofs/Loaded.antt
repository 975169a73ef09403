-- What is wet or open is loaded.
use Rattle.std.proofs.Common.{◌≡◌, ℕ, true, false, Bool, cond, sym, refl, not, ◌&&◌, ◌||◌}
use Rattle.std.proofs.lemmas.Bool.{true≢false}
use Rattle.av_types.specs.declared.position.Pos.{Pos}
use Rattle.av_types.specs.Water.{is_wet}
use Rattle.av_cells.specs.declared.kind.Kind.{Kind}
use Rattle.av_cells.specs.Rule.{kind_at, unloaded}
use Rattle.av_cells.specs.World.{World}

wet_if : (b : Bool) (k : Kind) → is_wet (cond b k unloaded).wet ≡ true → b ≡ true
wet_if true k h = refl
wet_if false k h = absurd (true≢false (sym h))

opens_if : (b : Bool) (k : Kind) → (cond b k unloaded).opens ≡ true → b ≡ true
opens_if true k h = refl
opens_if false k h = absurd (true≢false (sym h))

pub wet_is_loaded : (k : ℕ → Kind) (w : World) (p : Pos) → is_wet (kind_at k w p).wet ≡ true → w.loaded p ≡ true
unfolding kind_at
wet_is_loaded k w p h = wet_if (w.loaded p) (k (w.number p)) h

pub open_is_loaded : (k : ℕ → Kind) (w : World) (p : Pos) → (kind_at k w p).opens ≡ true → w.loaded p ≡ true
unfolding kind_at
open_is_loaded k w p h = opens_if (w.loaded p) (k (w.number p)) h

pub wet_or_dry_and_open : (a b : Bool) → (a || (b && not a)) ≡ (a || b)
wet_or_dry_and_open true true = refl
wet_or_dry_and_open true false = refl
wet_or_dry_and_open false true = refl
wet_or_dry_and_open false false = refl
