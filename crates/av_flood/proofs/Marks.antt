-- Marks of a flood: blocks that were noted, seen or settled.
use Rattle.std.proofs.Common.{◌≡◌, ℕ, ◌+◌, ◌-◌, ◌<◌, ◌≤◌, ⊎_elim, IsTrue, ap, sym, subst, arith}
use Rattle.std.specs.Prelude.{Contains}
use Rattle.av_types.specs.declared.position.Pos.{Pos}
use Rattle.av_types.specs.declared.position.ChunkPos.{ChunkPos}
use Rattle.av_flood.specs.Light.{Terrain, cost}
use Rattle.av_flood.specs.Board.{IsSettled}
use Rattle.av_flood.specs.Flooding.{IsMarked, IsNoted, IsPopped, IsPushed, Levels, Matters, Waits}
use Rattle.av_flood.proofs.Queues.{IsPopped-back, IsPushed-kept, IsPushed-only, IsPushed-there}
use Rattle.av_flood.proofs.Floods.{Waits-grown, settled_at, settled_cases}

pub IsNoted-fresh : (t : Terrain) (c : ChunkPos) (raw : Pos → ℕ) (todo : Levels) → ((p : Pos) → (raw p < 128) × ((v : ℕ) → v ≤ raw p → Matters c v p → ⊥)) → IsNoted t c raw todo
IsNoted-fresh t c raw todo fresh = record { waits = λ p l v less positive m. absurd ((fresh p).1 v less m) }

pub IsMarked-noted : (t : Terrain) (c : ChunkPos) (n : ℕ) (raw : Pos → ℕ) (todo : Levels) → ((p : Pos) → raw p < 128) → IsNoted t c raw todo → IsMarked t c n raw todo
IsMarked-noted t c n raw todo dark h = record { waits = λ p low l v less positive most m. h.waits p l v less positive m; settled = λ p high. let d = dark p in absurd (omega arith) }

pub IsMarked-lower : (t : Terrain) (c : ChunkPos) (n m : ℕ) (raw : Pos → ℕ) (todo : Levels) → m ≤ n → IsMarked t c n raw todo → IsMarked t c m raw todo
IsMarked-lower t c n m raw todo less h = record { waits = λ p low l v few positive most near. h.waits p low l v few positive (omega arith) near; settled = h.settled }

pub IsMarked-same : (t : Terrain) (c : ChunkPos) (n : ℕ) (raw : Pos → ℕ) (old new : Levels) → ((m : ℕ) → new m ≡ old m) → IsMarked t c n raw old → IsMarked t c n raw new
IsMarked-same t c n raw old new same h =
    record { waits = λ p low l v few positive most near. Waits-grown old new p v (λ m r w. subst (λ qs. Contains qs r) (sym (same m)) w) (h.waits p low l v few positive most near); settled = h.settled }

-- a block that was seen
pub IsMarked-offered : (t : Terrain) (c : ChunkPos) (n : ℕ) (raw raw' : Pos → ℕ) (old new : Levels) (q : Pos) → IsSettled raw raw' q 64 → ((m : ℕ) (r : Pos) → Contains (old m) r → Contains (new m) r)
    → (IsTrue (t.loaded q) → (v : ℕ) → 0 < v → v + cost t q ≤ n → Matters c v q → Waits new q v) → IsMarked t c n raw old → IsMarked t c n raw' new
IsMarked-offered t c n raw raw' old new q set kept waits h =
    record {
      waits = λ p low l v few positive most near. ⊎_elim
          (λ i. subst (λ r. Waits new r v) (sym i.0) (waits (subst (λ r. IsTrue (t.loaded r)) i.0 l) v positive (subst (λ r. v + cost t r ≤ n) i.0 most) (subst (Matters c v) i.0 near)))
          (λ i. Waits-grown old new p v kept (h.waits p (omega arith) l v (omega arith) positive most near)) (settled_cases raw raw' q 64 set p);
      settled = λ p high. ⊎_elim (λ i. let e = i.1 in absurd (omega arith)) (λ i. let s = h.settled p (omega arith) in omega arith) (settled_cases raw raw' q 64 set p);
    }

-- a block that emits light
pub IsNoted-emitted : (t : Terrain) (c : ChunkPos) (raw raw' : Pos → ℕ) (old new : Levels) (q : Pos) (v : ℕ) → IsSettled raw raw' q v → IsPushed old new v q → IsNoted t c raw old → IsNoted t c raw' new
IsNoted-emitted t c raw raw' old new q v set pushed h =
    record {
      waits = λ p l w few positive near. ⊎_elim
          (λ i. subst (λ r. Waits new r w) (sym i.0) (record { level = v; most = let e = i.1 in omega arith; there = IsPushed-there old new v q pushed }))
          (λ i. Waits-grown old new p w (IsPushed-kept old new v q pushed) (h.waits p l w (omega arith) positive near)) (settled_cases raw raw' q v set p);
    }

pub dark_marked : (raw raw' : Pos → ℕ) (q : Pos) (v : ℕ) → v < 128 → IsSettled raw raw' q v → ((p : Pos) → raw p < 128) → (p : Pos) → raw' p < 128
dark_marked raw raw' q v small set dark p = ⊎_elim (λ i. let e = i.1 in omega arith) (λ i. let d = dark p in omega arith) (settled_cases raw raw' q v set p)

-- the next of a level, which has its light or is given it
Waits-passed : (old new : Levels) (n : ℕ) (p q : Pos) (v : ℕ) → IsPopped old new n p → (q ≡ p → ⊥) → Waits old q v → Waits new q v
Waits-passed old new n p q v popped other w = record { level = w.level; most = w.most; there = ⊎_elim (λ h. h) (λ h. absurd (other h.1)) (IsPushed-only new old n p (IsPopped-back old new n p popped) w.level q w.there) }

pub IsMarked-passed : (t : Terrain) (c : ChunkPos) (n : ℕ) (raw : Pos → ℕ) (old new : Levels) (p : Pos) → IsPopped old new n p → 128 ≤ raw p → IsMarked t c n raw old → IsMarked t c n raw new
IsMarked-passed t c n raw old new p popped high h =
    record { waits = λ q low l v few positive most near. Waits-passed old new n p q v popped (λ e. let f = ap raw e in omega arith) (h.waits q low l v few positive most near); settled = h.settled }

pub IsMarked-settled : (t : Terrain) (c : ChunkPos) (n : ℕ) (raw raw' : Pos → ℕ) (old new : Levels) (p : Pos) → 0 < n → IsPopped old new n p → IsSettled raw raw' p (128 + n) → IsMarked t c n raw old → IsMarked t c n raw' new
IsMarked-settled t c n raw raw' old new p some popped set h =
    record {
      waits = λ q low l v few positive most near. ⊎_elim (λ i. let e = i.1 in absurd (omega arith))
          (λ i. Waits-passed old new n p q v popped (λ e. let f = ap raw' e in let g = settled_at raw raw' p (128 + n) set in omega arith) (h.waits q (omega arith) l v (omega arith) positive most near))
          (settled_cases raw raw' p (128 + n) set q);
      settled = λ q high. ⊎_elim (λ i. let e = i.1 in omega arith) (λ i. let s = h.settled q (omega arith) in omega arith) (settled_cases raw raw' p (128 + n) set q);
    }

-- marking changes no light
pub light_marked : (raw raw' : Pos → ℕ) (q : Pos) → raw q < 128 → IsSettled raw raw' q 64 → (p : Pos) → raw' p - 128 ≡ raw p - 128
light_marked raw raw' q low set p = ⊎_elim (λ i. let e = i.1 in let f = ap raw i.0 in omega arith) (λ i. omega arith) (settled_cases raw raw' q 64 set p)
