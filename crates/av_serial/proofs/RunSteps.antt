-- Runs, one tick more at a time.
use Rattle.std.proofs.Common.{◌≡◌, ◌∙◌, ℕ, zero, suc, ◌+◌, ◌<◌, nat_eq, nat_le, nat_lt, ◌&&◌, List, [], ◌∷◌, length, slice_get, true, All, refl, sym, ap, arith}
use Rattle.std.specs.List.{flat_map}
use Rattle.std.proofs.lemmas.List.Folds.{list_all-append}
use Rattle.std.proofs.lemmas.Bool.{and_parts}
use Rattle.std.proofs.lemmas.Bool.Decides.{nat_tests}
use Rattle.av_types.specs.declared.tick.Entry.{Entry}
use Rattle.av_ticks.specs.Ticks.{entries}
use Rattle.av_chunk.specs.declared.chunk.Chunk.{Chunk}
use Rattle.av_cells.specs.declared.kind.Kind.{Kind}
use Rattle.av_land.specs.Land.{Land}
use Rattle.av_cells.specs.Sets.{Set}
use Rattle.av_land.specs.Tick.{ticked, tick_count, run, run_count}
use Rattle.av_land.specs.Idle.{IsIdle}
use Rattle.av_land.proofs.Idle.{ticks_idly}
use Rattle.av_world.specs.Due.{at_least, tick_of}
use Rattle.av_world.specs.Index.{slot}
use Rattle.av_world.specs.Sections.{entries_in}
use Rattle.av_world.specs.Views.{lists}
use Rattle.av_world.specs.Lands.{land_of}
use Rattle.av_world.proofs.Soonest.{none_due}
use Rattle.av_world.specs.declared.worlds.World.{World}
use Rattle.av_edits.specs.declared.edit.Edit.{Edit}
use Rattle.av_edits.specs.Numbered.{number_sets}
use Rattle.av_serial.specs.Ready.{HasSameChunks, CanApply}
use Rattle.av_serial.specs.Schedule.{NothingBefore}
use Rattle.av_serial.proofs.Keeps.{can_apply_on}

split : (n : ℕ) (c : Chunk) (cs : List Chunk) → at_least n (flat_map (λ c. entries c.ticks) (c ∷ cs)) ≡ true → (at_least n (entries c.ticks) ≡ true) × (at_least n (flat_map (λ c. entries c.ticks) cs) ≡ true)
split n c cs h =
    and_parts (at_least n (entries c.ticks)) (at_least n (flat_map (λ (c : Chunk). entries c.ticks) cs))
    (sym (list_all-append (λ (e : Entry). nat_le n (tick_of e.due)) (entries c.ticks) (flat_map (λ (c : Chunk). entries c.ticks) cs)) ∙ h)

in_list : (n : ℕ) (cs : List Chunk) (i : ℕ) → at_least n (flat_map (λ c. entries c.ticks) cs) ≡ true → at_least n (entries_in (slice_get cs i)) ≡ true
in_list n [] i h = refl
in_list n (c ∷ cs) zero h = (split n c cs h).0
in_list n (c ∷ cs) (suc i) h = in_list n cs i (split n c cs h).1

-- before the soonest tick nothing is due
pub nothing_before : (w : World) (n : ℕ) → at_least n (flat_map (λ c. entries c.ticks) w.chunks.items) ≡ true → NothingBefore n (land_of w)
nothing_before w n h t less c = none_due t n (lists w c) less (in_list n w.chunks.items (slot w.positions.items c) h)

-- a tick without edits, before the soonest
pub idle : (k : ℕ → Kind) (now next : ℕ) (es : List Edit) (w : Land ℕ) → (nat_eq (length es) 0 && nat_lt now next) ≡ true → NothingBefore next w → IsIdle k now (number_sets es) w
idle k now next [] w t h =
    let l : nat_lt now next ≡ true = (and_parts (nat_eq (length {A = Edit} []) 0) (nat_lt now next) t).1 in
    let less : now < next = grind (arith, nat_tests) in
    ticks_idly k now [] w refl (h now less)
idle k now next (e ∷ es) w t h =
    let z : nat_eq (suc (length es)) 0 ≡ true = (and_parts (nat_eq (length (e ∷ es)) 0) (nat_lt now next) t).0 in
    let none : suc (length es) ≡ 0 = grind (arith, nat_tests) in
    absurd (omega arith)

pub run_next : (k : ℕ → Kind) (es : List (Set ℕ)) (m now : ℕ) (w v v' : Land ℕ) → now ≡ m + 1 → v ≡ run k es m w → v' ≡ ticked k now es v → v' ≡ run k es (m + 1) w
run_next k es m now w v v' e a b =
    let t : now ≡ suc m + 0 = omega arith in
    let n : suc m ≡ m + 1 = omega arith in
    b ∙ ((λ i. ticked k (t i) es (a i)) ∙ ap (λ x. run k es x w) n)

pub count_next : (k : ℕ → Kind) (es : List (Set ℕ)) (m now total count : ℕ) (w v : Land ℕ) → now ≡ m + 1 → v ≡ run k es m w → total ≡ run_count k es m w → count ≡ tick_count k now es v
    → total + count ≡ run_count k es (m + 1) w
count_next k es m now total count w v e a s c =
    let t : now ≡ suc m + 0 = omega arith in
    let n : suc m ≡ m + 1 = omega arith in
    (λ i. s i + (c ∙ (λ j. tick_count k (t j) es (a j))) i) ∙ ap (λ x. run_count k es x w) n

pub can_apply_all : (n : ℕ) (u v : World) (es : List Edit) → HasSameChunks u v → All (CanApply n u) es → All (CanApply n v) es
can_apply_all n u v es same all = λ i d l. can_apply_on n u v _ same (all i d l)
