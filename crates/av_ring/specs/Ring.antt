-- The rule of the ring. It holds jobs, and behind them an end for each seat that is not dry.
use Rattle.std.specs.Prelude.{◌≡◌, ℕ, ◌+◌, ◌-◌, ◌<◌, ◌||◌, List, [], ◌∷◌, ◌++◌, length, Option, Some, None, Bool, true, false}
use Rattle.std.specs.List.{flat_map, AllByRecursion}
use Rattle.std.specs.List.Sorted.{IsPermutation}
use mathlib.Core.Option.{some}
use lib.ListN.{get_elem?}
use Rattle.av_ring.specs.declared.view.View.{View}

-- f of each, added up
abbrev pub total : {X : Type 0} → (X → ℕ) → List X → ℕ
total f [] = 0
total f (x ∷ xs) = f x + total f xs

module _ {J : Type 0} where
  -- the jobs among what the ring holds
  abbrev pub jobs_of : List (Option J) → List J
  jobs_of [] = []
  jobs_of (Some x ∷ items) = x ∷ jobs_of items
  jobs_of (None ∷ items) = jobs_of items

  -- the number of ends
  abbrev pub ends_of : List (Option J) → ℕ
  ends_of [] = 0
  ends_of (Some x ∷ items) = ends_of items
  ends_of (None ∷ items) = ends_of items + 1

  -- no job stands behind an end
  abbrev pub InLine : List (Option J) → Type 0
  InLine [] = Unit {0}
  InLine (Some x ∷ items) = InLine items
  InLine (None ∷ items) = jobs_of items ≡ []

  -- the view of one to whom no seat came back
  abbrev pub view_of : ℕ → ℕ → ℕ → List J → List J → Bool → View J
  view_of parts ends all told taken dry = record { parts = parts; ends = ends; all = all; told = told; heard = []; taken = taken; dry = dry }

  -- the view that fills, which has the only part
  abbrev pub filler : View J
  filler = view_of 1 0 1 [] [] false

  -- the view of a seat that is given up
  abbrev pub idle : View J
  idle = view_of 0 0 0 [] [] false

  -- a new seat, which is told what was filled
  abbrev pub seat_of : View J → View J
  seat_of v = view_of 1 1 v.all v.told [] false

  abbrev pub without_seat : View J → View J
  without_seat v = record v { parts = v.parts - 1; ends = v.ends - 1 }

  abbrev pub together : View J → View J → View J
  together v w = record v {
    parts = v.parts + w.parts;
    ends = v.ends + w.ends;
    heard = v.heard ++ w.told ∷ w.heard;
    taken = v.taken ++ w.taken;
    dry = v.dry || w.dry;
  }

  abbrev pub put : View J → Option J → View J
  put v (Some x) = record v { told = v.told ++ x ∷ [] }
  put v None = record v { parts = v.ends + 1; ends = v.ends + 1; all = v.ends + 1 }

  -- part is among whole, each as often
  abbrev pub IsPart : List J → List J → Type 0
  IsPart whole part = (rest : List J) × IsPermutation whole (part ++ rest)

  -- a job that was filled and not taken before, of a ring that no seat found dry; or an end
  abbrev pub Took : View J → Option J → View J → Type 0
  Took v (Some x) w = (w ≡ record v { taken = v.taken ++ x ∷ [] }) × (v.dry ≡ false) × IsPart v.told (v.taken ++ x ∷ [])
  Took v None w = w ≡ record v { ends = v.ends - 1; dry = true }

  -- a seat that has an end to come finds the ring not empty. Who has all parts sees the whole. All seats were told the same
  abbrev pub Shows : View J → List (Option J) → Type 0
  Shows v items = (0 < v.ends → 0 < length items) × (v.parts ≡ v.all → IsPermutation v.told (v.taken ++ jobs_of items)) × AllByRecursion (λ t. t ≡ v.told) v.heard

  -- who has all parts and has taken nothing knows how much the ring holds
  abbrev pub Counts : View J → List (Option J) → Type 0
  Counts v items = 0 < v.parts → v.parts ≡ v.all → v.taken ≡ [] → length items ≡ length v.told + v.ends

  pub record Fits (filled : List J) (all : ℕ) (items : List (Option J)) (v : View J) : Type 0 where
    pub idle_is : v.parts ≡ 0 → v ≡ idle
    pub told_is : 0 < v.parts → (v.told ≡ filled) × (v.all ≡ all)
    pub heard_is : AllByRecursion (λ t. t ≡ filled) v.heard
    pub dry_is : v.dry ≡ true → jobs_of items ≡ []

  pub record Kept (items : List (Option J)) (views : List (View J)) : Type 0 where
    pub filled : List J
    pub all : ℕ
    pub parts_are : total (λ (v : View J). v.parts) views ≡ all
    pub ends_are : ends_of items ≡ total (λ (v : View J). v.ends) views
    pub in_line : InLine items
    pub whole : IsPermutation filled (flat_map (λ (v : View J). v.taken) views ++ jobs_of items)
    pub each : (port : ℕ) (v : View J) → get_elem? views port ≡ some v → Fits filled all items v
