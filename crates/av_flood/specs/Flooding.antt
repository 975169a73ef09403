-- Working definitions: a flood from the brightest level down. No public clause cites them.
use Rattle.std.specs.Prelude.{ℤ, ◌≡◌, ℕ, ◌+◌, ◌≤◌, ◌<◌, pos, ◌+ℤ◌, ◌*ℤ◌, ◌≤ℤ◌, List, [], ◌∷◌, IsTrue, Contains, ◌⊎◌, ◌++◌, ◌≢◌, map, length, slice_index_or}
use Rattle.av_flood.specs.declared.buckets.Buckets.{Buckets}
use Rattle.av_flood.specs.declared.board.Flood.{Flood}
use Rattle.av_flood.specs.Board.{light_of, raw_of}
use Rattle.av_types.specs.declared.position.Pos.{Pos}
use Rattle.av_types.specs.declared.position.ChunkPos.{ChunkPos}
use Rattle.av_types.specs.declared.position.Height.{Height}
use Rattle.av_flood.specs.Light.{Terrain, IsAdjacent, cost, HasLight}

-- a coordinate is at most n from the chunk's sixteen
pub record IsNearAlong (from : ℤ) (n : ℕ) (x : ℤ) : Type 0 where
  pub low : from ≤ℤ (x +ℤ pos n)
  pub high : x ≤ℤ (from +ℤ pos 15 +ℤ pos n)

-- light of level n at p may come to the chunk: it is fewer than n steps to it, those along x and those along z
pub record Matters (c : ChunkPos) (n : ℕ) (p : Pos) : Type 0 where
  pub over_x : ℕ
  pub over_z : ℕ
  pub less : (over_x + over_z) < n
  pub along_x : IsNearAlong (pos 16 *ℤ c.x) over_x p.x
  pub along_z : IsNearAlong (pos 16 *ℤ c.z) over_z p.z

-- the lists of blocks to which light of each level comes
abbrev pub Levels : Type 0
Levels = ℕ → List Pos

-- a block waits for so much light, or more
pub record Waits (todo : Levels) (p : Pos) (n : ℕ) : Type 0 where
  pub level : ℕ
  pub most : n ≤ level
  pub there : Contains (todo level) p

-- a block has so much light, or waits for it
abbrev pub Has : (Pos → ℕ) → Levels → Pos → ℕ → Type 0
Has lit todo p n = (n ≤ lit p) ⊎ Waits todo p n

-- a board of which nothing was touched: no block has light, and no light that matters is said to be of no use
abbrev pub IsFresh : Flood → Type 0
IsFresh f = (p : Pos) → (raw_of f p < 128) × ((v : ℕ) → v ≤ raw_of f p → Matters f.chunk v p → ⊥)

-- no block of the board has light
abbrev pub IsDark : Flood → Type 0
IsDark f = (p : Pos) → raw_of f p < 128

-- each block waits for light of so much as its byte says, if so much matters
pub record IsNoted (g : Terrain) (c : ChunkPos) (raw : Pos → ℕ) (todo : Levels) : Type 0 where
  pub waits : (p : Pos) → IsTrue (g.loaded p) → (v : ℕ) → v ≤ raw p → 0 < v → Matters c v p → Waits todo p v

-- the flood is at light of level n. A byte of a block below 128: it waits for light of so much, if so much may still come to it;
-- from 128 on: it has its light
pub record IsMarked (g : Terrain) (c : ChunkPos) (n : ℕ) (raw : Pos → ℕ) (todo : Levels) : Type 0 where
  pub waits : (p : Pos) → raw p < 128 → IsTrue (g.loaded p) → (v : ℕ) → v ≤ raw p → 0 < v → v + cost g p ≤ n → Matters c v p → Waits todo p v
  pub settled : (p : Pos) → 128 ≤ raw p → 128 < raw p

-- what waits in a level: a loaded block to which that much light comes
pub record IsSoundAt (g : Terrain) (c : ChunkPos) (n : ℕ) (p : Pos) : Type 0 where
  pub loaded : IsTrue (g.loaded p)
  pub positive : 0 < n
  pub matters : Matters c n p
  pub comes : HasLight g p n

-- the flood has settled all levels above n
pub record IsFlooding (g : Terrain) (c : ChunkPos) (n : ℕ) (lit : Pos → ℕ) (todo : Levels) : Type 0 where
  pub emits : (p : Pos) → IsTrue (g.loaded p) → 0 < g.emission p → Matters c (g.emission p) p → Has lit todo p (g.emission p)
  pub spreads : (q p : Pos) → IsAdjacent q p → IsTrue (g.loaded p) → (v : ℕ) → 0 < v → v + cost g p ≡ lit q → Matters c v p → Has lit todo p v
  pub bright : (p : Pos) → 0 < lit p → n ≤ lit p
  pub sound : (p : Pos) → 0 < lit p → HasLight g p (lit p)
  pub waits : (v : ℕ) (p : Pos) → Contains (todo v) p → IsSoundAt g c v p
  pub low : (v : ℕ) (p : Pos) → Contains (todo v) p → v ≤ n

-- one block more waits in a level
pub record IsPushed (old new : Levels) (n : ℕ) (p : Pos) : Type 0 where
  pub here : new n ≡ old n ++ p ∷ []
  pub others : (m : ℕ) → m ≢ n → new m ≡ old m

-- the last block of a level waits no more
pub record IsPopped (old new : Levels) (n : ℕ) (p : Pos) : Type 0 where
  pub here : old n ≡ new n ++ p ∷ []
  pub others : (m : ℕ) → m ≢ n → new m ≡ old m

-- none waits in a level
pub record IsNone (old new : Levels) (n : ℕ) : Type 0 where
  pub here : old n ≡ []
  pub same : (m : ℕ) → new m ≡ old m

-- blocks were added to levels below n, where light comes to them
pub record IsGrown (g : Terrain) (c : ChunkPos) (n : ℕ) (old new : Levels) : Type 0 where
  pub kept : (v : ℕ) (q : Pos) → Contains (old v) q → Contains (new v) q
  pub only : (v : ℕ) (q : Pos) → Contains (new v) q → Contains (old v) q ⊎ ((v < n) × IsSoundAt g c v q)

-- light of level n came to q from beside it, if more than so much is left
pub record IsBrought (t : Terrain) (n seen : ℕ) (todo : Levels) (q : Pos) : Type 0 where
  pub waits : IsTrue (t.loaded q) → (v : ℕ) → seen < v → v + cost t q ≡ n → Waits todo q v

-- light of level n that is at p has come to q
pub record IsOffered (t : Terrain) (c : ChunkPos) (n : ℕ) (lit : Pos → ℕ) (todo : Levels) (q : Pos) : Type 0 where
  pub has : IsTrue (t.loaded q) → (v : ℕ) → 0 < v → v + cost t q ≡ n → Matters c v q → Has lit todo q v

-- the blocks that wait in each level
abbrev pub todo_of : Buckets → Levels
todo_of b n = slice_index_or (map (λ v. v.items) b.levels.items) n []

-- so many wait in a level
abbrev pub count_in : Buckets → ℕ → ℕ
count_in b n = length (todo_of b n)

-- a block has light of level n, which is to come to those beside it: no block that has its light has less
pub record CanOffer (t : Terrain) (tall : Height) (n : ℕ) (f : Flood) (todo : Levels) (from : Pos) : Type 0 where
  pub level : n < 16
  pub height : f.height ≡ tall
  pub comes : HasLight t from n
  pub bright : (q : Pos) → 0 < light_of f q → n ≤ light_of f q
  pub marked : IsMarked t f.chunk n (raw_of f) todo

-- while light of level n came to blocks none was settled, and only below n more wait
pub record HasOffered (t : Terrain) (n : ℕ) (old new : Flood) (was now : Levels) : Type 0 where
  pub same : (q : Pos) → light_of new q ≡ light_of old q
  pub marked : IsMarked t old.chunk n (raw_of new) now
  pub grown : IsGrown t old.chunk n was now
  pub others : now n ≡ was n

-- if it emits light that may come to the chunk it waits for it
pub record WaitsIfEmitting (t : Terrain) (c : ChunkPos) (todo : Levels) (p : Pos) : Type 0 where
  pub ready : IsTrue (t.loaded p) → 0 < t.emission p → Matters c (t.emission p) p → Waits todo p (t.emission p)

-- all that emit light that may come to the chunk wait for it
pub record IsStarted (t : Terrain) (c : ChunkPos) (todo : Levels) : Type 0 where
  pub emits : (p : Pos) → IsTrue (t.loaded p) → 0 < t.emission p → Matters c (t.emission p) p → Waits todo p (t.emission p)
  pub sound : (v : ℕ) (p : Pos) → Contains (todo v) p → IsSoundAt t c v p
  pub low : (v : ℕ) (p : Pos) → Contains (todo v) p → v ≤ 15
