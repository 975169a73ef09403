-- How wet a turn's block is after a block was set.
use Rattle.std.proofs.Common.{◌≡◌, ℕ, ◌-◌, pos, ◌-ℤ◌, List, Bool, true, false, cond, refl, sym, ap, ◌∙◌, arith, IsTrue}
use Rattle.std.proofs.lemmas.Int.{ints}
use Rattle.av_types.specs.declared.position.Pos.{Pos}
use Rattle.av_types.specs.declared.tick.Entry.{Entry}
use Rattle.av_types.specs.declared.water.Wet.{Wet}
use Rattle.av_types.specs.declared.water.Wet.TheVariants.{Dry, Source, Flow, Falling}
use Rattle.av_types.specs.Water.{IsProper}
use Rattle.av_types.proofs.SamePositions.{same_pos_is, same_pos-refl}
use Rattle.av_rules.specs.declared.kinds.Kinds.{Kinds}
use Rattle.av_rules.proofs.KindFacts.{are_kinds}
use Rattle.av_cells.specs.declared.kind.Kind.{Kind}
use Rattle.av_cells.specs.Kinds.{kinds_of}
use Rattle.av_cells.specs.Positions.{below, same_pos}
use Rattle.av_cells.specs.Rule.{kind_at, wet_at, unloaded}
use Rattle.av_cells.specs.Turn.{Change, change, number_of_wet, woken, set_awake}
use Rattle.av_cells.specs.World.{World, Lists, Site}
use Rattle.av_water.specs.Steps.{IsTurnStep}

-- waking sets no block
set_only : (k : ℕ → Kind) (now : ℕ) (q : Pos) (n : ℕ) (c : Change) (r : Pos) → (set_awake k now q n c).world.number r ≡ cond (same_pos r q) n (c.world.number r)
unfolding set_awake woken
set_only k now q n c r = refl

same_kind : (k : ℕ → Kind) (v w : World) (p : Pos) → w.loaded ≡ v.loaded → w.number p ≡ v.number p → wet_at k w p ≡ wet_at k v p
unfolding kind_at
same_kind k v w p l n = ap (λ f. (cond (f p) (k (w.number p)) unloaded).wet) l ∙ ap (λ m. (cond (v.loaded p) (k m) unloaded).wet) n

kind_there : (k : ℕ → Kind) (w : World) (p : Pos) (n : ℕ) → w.loaded p ≡ true → w.number p ≡ n → wet_at k w p ≡ (k n).wet
unfolding kind_at
kind_there k w p n l e = ap (λ b. (cond b (k (w.number p)) unloaded).wet) l ∙ ap (λ m. (k m).wet) e

not_below : (p : Pos) (b : Bool) → same_pos p (below p) ≡ b → b ≡ false
not_below p true e = let y : p.y ≡ p.y -ℤ pos 1 = ap (λ q. q.y) (same_pos_is p (below p) e) in absurd (omega (arith, ints, y))
not_below p false e = refl

wet_of_number : (kinds : Kinds) (x : Wet) → IsProper x → (kinds_of kinds (number_of_wet x)).wet ≡ x
unfolding kinds_of
wet_of_number kinds Dry h = (are_kinds kinds).dry_air
wet_of_number kinds Source h = (are_kinds kinds).source
wet_of_number kinds (Flow a) h = (are_kinds kinds).flow (9 - a) (omega (arith, h.0, h.1)) (omega (arith, h.0, h.1)) ∙ ap Flow (omega (arith, h.0, h.1))
wet_of_number kinds Falling h = (are_kinds kinds).falling

-- a loaded block that was set to a wetness is so wet
pub wet_as_set : {S : Type 0} {world : S → World} {lists : S → Lists} {site : S → Site} {room : S → Pos → ℕ} {can_set : S → Pos → ℕ → Type 0} {count : ℕ} {p q : Pos} {m n : ℕ} {s t : S} {es fs : List Entry}
    → (kinds : Kinds) (now : ℕ) (x : Wet) → IsTurnStep world lists site room can_set count p m (set_awake (kinds_of kinds) now q n) s es t fs → IsProper x → n ≡ number_of_wet x → IsTrue ((world s).loaded q) → x ≡ wet_at (kinds_of kinds) (world t) q
wet_as_set {world = world} {q = q} {n = n} {s = s} {t = t} {es = es} kinds now x h proper is loaded =
    let here : (world t).number q ≡ number_of_wet x = ap (λ (c : Change). c.world.number q) h.changed ∙ set_only (kinds_of kinds) now q n (change (world s) es) q ∙ ap (λ b. cond b n ((world s).number q)) (same_pos-refl q) ∙ is in
    sym (kind_there (kinds_of kinds) (world t) q (number_of_wet x) (ap (λ f. f q) h.same_loaded ∙ loaded) here ∙ wet_of_number kinds x proper)

-- setting the block below leaves a block as it was
pub wet_over_set : {S : Type 0} {world : S → World} {lists : S → Lists} {site : S → Site} {room : S → Pos → ℕ} {can_set : S → Pos → ℕ → Type 0} {count : ℕ} {p q : Pos} {m : ℕ} {s t : S} {es fs : List Entry}
    → (k : ℕ → Kind) (now n : ℕ) (r : Pos) → IsTurnStep world lists site room can_set count p m (set_awake k now q n) s es t fs → q ≡ below r → wet_at k (world t) r ≡ wet_at k (world s) r
wet_over_set {world = world} {q = q} {s = s} {t = t} {es = es} k now n r h is =
    let other : same_pos r q ≡ false = ap (λ b. same_pos r b) is ∙ not_below r (same_pos r (below r)) refl in
    same_kind k (world s) (world t) r h.same_loaded (ap (λ (c : Change). c.world.number r) h.changed ∙ set_only k now q n (change (world s) es) r ∙ ap (λ b. cond b n ((world s).number r)) other)
