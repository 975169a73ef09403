-- The numbers of the water entries of a document that has a spelling are Ints.
use Rattle.std.proofs.Common.{◌≡◌, ℕ, List, [], ◌∷◌, ◌++◌, ℤ, pos, ◌-ℤ◌, Bool, true, false, Some, None, Option, cond, length, nat_eq, refl, sym, ap, ◌∙◌, subst, arith}
use Rattle.std.specs.Prelude.{codes, FitsSigned}
use Rattle.std.specs.Int.{w32}
use Rattle.std.specs.List.{AllByRecursion}
use Rattle.std.proofs.lemmas.Int.{ints}
use Rattle.std.proofs.lemmas.Option.{none-some, same_Some}
use Rattle.av_types.specs.declared.position.Pos.{Pos}
use Rattle.av_types.specs.declared.position.ChunkPos.{ChunkPos}
use Rattle.av_types.specs.declared.position.Height.{Height}
use Rattle.av_types.specs.declared.tick.Entry.{Entry}
use Rattle.av_tags.specs.Nbt.{Nbt, int, NamedTag, Document}
use Rattle.av_tags.specs.ByName.{tag_of}
use Rattle.av_types.specs.Options.{◌>>=◌}
use Rattle.av_tags.specs.Shape.{int_of, compounds_of, or_else}
use Rattle.av_nbt.specs.Writing.{IsWellFormed}
use Rattle.av_state.specs.BlockState.{BlockState}
use Rattle.av_ticks.specs.Entries.{is_pending}
use Rattle.av_document.specs.Ticks.{int_at, fluid_of, is_water_name, numbers_of, water_entry, with_entry, with_water}
use Rattle.av_document.specs.Chunk.{root_tags, ticks, RestOfChunk, DenotesChunk}
use Rattle.av_document.specs.Law.{HasInts}
use Rattle.av_document.proofs.Spelled.{IsSpelled, AreSpelled, member_spelled, list_spelled}

int_spelled : (t : Nbt) (z : ℤ) → IsSpelled t → int_of t ≡ Some z → FitsSigned w32 z
int_spelled (int y) z h e = subst (FitsSigned w32) (same_Some y z e) h.spelled.fits
int_spelled _ z h e = absurd (none-some z e)

int_fits : (n : List ℕ) (ms : List NamedTag) → AreSpelled ms → (z : ℤ) → int_at n ms ≡ Some z → FitsSigned w32 z
int_fits n ms h z e = by (tag_of n ms) refl e where
  by : (o : Option Nbt) → tag_of n ms ≡ o → (o >>= int_of) ≡ Some z → FitsSigned w32 z
  by None f k = absurd (none-some z k)
  by (Some t) f k = int_spelled t z (member_spelled n h.members h.bytes t h.spelled (ap (tag_of n) h.same ∙ f)) k

pub less_nothing : (z : ℤ) → z -ℤ pos 0 ≡ z
less_nothing z = omega (arith, ints)

-- ---- one entry

entry_ints : (x y z t p : Option ℤ) (six : Bool) (e : Entry)
    → ((v : ℤ) → x ≡ Some v → FitsSigned w32 v) → ((v : ℤ) → y ≡ Some v → FitsSigned w32 v) → ((v : ℤ) → z ≡ Some v → FitsSigned w32 v) → ((v : ℤ) → t ≡ Some v → FitsSigned w32 v) → ((v : ℤ) → p ≡ Some v → FitsSigned w32 v)
    → (x >>= λ x. y >>= λ y. z >>= λ z. t >>= λ t. p >>= λ p. cond six (Some (record { pos = record { x = x; y = y; z = z }; due = t; priority = p })) None) ≡ Some e → HasInts 0 e
entry_ints None y z t p six e fx fy fz ft fp h = absurd (none-some e h)
entry_ints (Some x) None z t p six e fx fy fz ft fp h = absurd (none-some e h)
entry_ints (Some x) (Some y) None t p six e fx fy fz ft fp h = absurd (none-some e h)
entry_ints (Some x) (Some y) (Some z) None p six e fx fy fz ft fp h = absurd (none-some e h)
entry_ints (Some x) (Some y) (Some z) (Some t) None six e fx fy fz ft fp h = absurd (none-some e h)
entry_ints (Some x) (Some y) (Some z) (Some t) (Some p) false e fx fy fz ft fp h = absurd (none-some e h)
entry_ints (Some x) (Some y) (Some z) (Some t) (Some p) true e fx fy fz ft fp h =
    subst (HasInts 0) (same_Some (record { pos = record { x = x; y = y; z = z }; due = t; priority = p }) e h) (record {
      int_x = fx x refl;
      int_y = fy y refl;
      int_z = fz z refl;
      int_due = subst (FitsSigned w32) (sym (less_nothing t)) (ft t refl);
      int_priority = fp p refl;
    })

numbers_ints : (ms : List NamedTag) (e : Entry) → AreSpelled ms → numbers_of ms ≡ Some e → HasInts 0 e
numbers_ints ms e h k =
    entry_ints (int_at (codes "x") ms) (int_at (codes "y") ms) (int_at (codes "z") ms) (int_at (codes "t") ms) (int_at (codes "p") ms) (nat_eq (length ms) 6) e
    (int_fits (codes "x") ms h) (int_fits (codes "y") ms h) (int_fits (codes "z") ms h) (int_fits (codes "t") ms h) (int_fits (codes "p") ms h) k

water_ints : (ms : List NamedTag) (e : Entry) → AreSpelled ms → water_entry ms ≡ Some e → HasInts 0 e
water_ints ms e h k = by (is_water_name (or_else [] (fluid_of ms))) k where
  by : (b : Bool) → cond b (numbers_of ms) None ≡ Some e → HasInts 0 e
  by true l = numbers_ints ms e h l
  by false l = absurd (none-some e l)

-- ---- all entries

push_ints : (found : List Entry) (e : Entry) → AllByRecursion (HasInts 0) found → HasInts 0 e → AllByRecursion (HasInts 0) (found ++ e ∷ [])
push_ints [] e h k = (k, tt)
push_ints (x ∷ found) e h k = (h.0, push_ints found e h.1 k)

entry_kept : (found : List Entry) (ms : List NamedTag) → AllByRecursion (HasInts 0) found → AreSpelled ms → AllByRecursion (HasInts 0) (with_entry found (water_entry ms))
entry_kept found ms h k = by (water_entry ms) refl where
  pushed : (b : Bool) (e : Entry) → HasInts 0 e → AllByRecursion (HasInts 0) (cond b found (found ++ e ∷ []))
  pushed true e new = h
  pushed false e new = push_ints found e h new

  by : (o : Option Entry) → water_entry ms ≡ o → AllByRecursion (HasInts 0) (with_entry found o)
  by None l = h
  by (Some e) l = pushed (is_pending e.pos found) e (water_ints ms e k l)

all_ints : (found : List Entry) (ts : List (List NamedTag)) → AllByRecursion (HasInts 0) found → AllByRecursion AreSpelled ts → AllByRecursion (HasInts 0) (with_water found ts)
all_ints found [] h k = h
all_ints found (ms ∷ ts) h k = all_ints (with_entry found (water_entry ms)) ts (entry_kept found ms h k.0) k.1

ticks_spelled : (d : Document) → IsWellFormed d → AllByRecursion AreSpelled (ticks (root_tags d))
ticks_spelled d well = by (tag_of (codes "fluid_ticks") (root_tags d)) refl where
  by : (o : Option Nbt) → tag_of (codes "fluid_ticks") (root_tags d) ≡ o → AllByRecursion AreSpelled (or_else [] (o >>= compounds_of))
  by None e = tt
  by (Some t) e = rows (compounds_of t) refl where
    rows : (os : Option (List (List NamedTag))) → compounds_of t ≡ os → AllByRecursion AreSpelled (or_else [] os)
    rows None f = tt
    rows (Some all) f = list_spelled t all (member_spelled (codes "fluid_ticks") d.members well.spelled.body t well.spelled.tags.1 e) f

pub ints_read : (c : ChunkPos) (h : Height) (d : Document) (cells : Pos → BlockState) (water : List Entry) (rest : RestOfChunk) → IsWellFormed d → DenotesChunk c h d cells water rest → AllByRecursion (HasInts 0) water
ints_read c h d cells water rest well denotes = subst (AllByRecursion (HasInts 0)) (sym denotes.water_is) (all_ints [] (ticks (root_tags d)) tt (ticks_spelled d well))
