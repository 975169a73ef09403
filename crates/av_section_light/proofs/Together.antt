-- Answers for many chunks.
use Rattle.std.proofs.Common.{◌≡◌, ℕ, ◌<◌, suc, zero, List, [], ◌∷◌, length, get_or, sym, subst, arith, Result, Ok, Err}
use Rattle.std.specs.Prelude.{MatchResult, IfOk, IfErr, Contains, map}
use Rattle.std.specs.List.{AllZip}
use Rattle.av_types.specs.declared.position.ChunkPos.{ChunkPos}
use Rattle.av_types.specs.declared.fault.Fault.{Fault}
use Rattle.av_types.specs.declared.fault.Fault.TheVariants.{OutOfMemory}
use Rattle.av_chunk.specs.declared.light.ChunkLight.{ChunkLight}

abbrev pub Answers : (ChunkPos → ChunkLight → Type 0) → ChunkPos → Result ChunkLight Fault → Type 0
Answers R c r = MatchResult r (R c) (λ e. e ≡ OutOfMemory)

-- where all are lights
pub all_lights : (R : ChunkPos → ChunkLight → Type 0) (cs : List ChunkPos) (ls : List ChunkLight) → AllZip (Answers R) cs (map Ok ls) → AllZip R cs ls
all_lights R [] [] h = h
all_lights R [] (l ∷ ls) h = h
all_lights R (c ∷ cs) [] h = h
all_lights R (c ∷ cs) (l ∷ ls) h = (h.0, all_lights R cs ls h.1)

-- and where one is a fault
pub any_fault : (R : ChunkPos → ChunkLight → Type 0) (cs : List ChunkPos) (rs : List (Result ChunkLight Fault)) (k : ℕ) (e : Fault) → AllZip (Answers R) cs rs → k < length rs → get_or rs k (Err e) ≡ Err e → e ≡ OutOfMemory
any_fault R cs [] k e h less at = absurd (omega arith)
any_fault R [] (r ∷ rs) k e h less at = absurd h
any_fault R (c ∷ cs) (r ∷ rs) zero e h less at = let P : Result ChunkLight Fault → Type 0 = Answers R c in subst P at h.0
any_fault R (c ∷ cs) (r ∷ rs) (suc k) e h less at = any_fault R cs rs k e h.1 (omega arith) at

-- what a list of answers makes of the whole
pub together : {V : Type 0} (items : V → List ChunkLight) (R : ChunkPos → ChunkLight → Type 0) (cs : List ChunkPos) (rs : List (Result ChunkLight Fault)) (r : Result V Fault) → AllZip (Answers R) cs rs
    → MatchResult r (λ v. (ys : List ChunkLight) × (rs ≡ map Ok ys) × (items v ≡ ys)) (λ e. Contains rs (Err e)) → IfOk r (λ v. AllZip R cs (items v))
together items R cs rs (Ok v) zip h = subst (AllZip R cs) (sym h.2) (all_lights R cs h.0 (subst (AllZip (Answers R) cs) h.1 zip))
together items R cs rs (Err e) zip h = tt

pub fault_together : {V : Type 0} (items : V → List ChunkLight) (R : ChunkPos → ChunkLight → Type 0) (cs : List ChunkPos) (rs : List (Result ChunkLight Fault)) (r : Result V Fault) → AllZip (Answers R) cs rs
    → MatchResult r (λ v. (ys : List ChunkLight) × (rs ≡ map Ok ys) × (items v ≡ ys)) (λ e. Contains rs (Err e)) → IfErr r (λ e. e ≡ OutOfMemory)
fault_together items R cs rs (Ok v) zip h = tt
fault_together items R cs rs (Err e) zip h = any_fault R cs rs h.0 e zip h.1 h.2
