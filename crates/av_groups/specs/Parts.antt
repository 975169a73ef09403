-- A land of some of its chunks alone, and put back among the others.
use Rattle.std.specs.Prelude.{◌≡◌, ℕ, Bool, true, false, ◌&&◌, List, [], if◌then◌else◌}
use Rattle.std.specs.List.{All}
use Rattle.av_types.specs.Positions.{chunk_of}
use Rattle.av_types.specs.declared.position.Pos.{Pos}
use Rattle.av_types.specs.declared.position.ChunkPos.{ChunkPos}
use Rattle.av_types.specs.declared.tick.Entry.{Entry}
use Rattle.av_cells.specs.Positions.{InReach}
use Rattle.av_cells.specs.declared.kind.Kind.{Kind}
use Rattle.av_land.specs.Land.{Land, is_loaded}
use Rattle.av_land.specs.Tick.{turned_all}

-- a test of chunks
abbrev pub Chunks : Type 0
Chunks = ChunkPos → Bool

-- The land u is these chunks of w alone: the others are not loaded, so that their blocks are air, and have no entries.
pub record IsPart (b : Chunks) (w u : Land ℕ) : Type 0 where
  pub loaded : (q : Pos) → is_loaded u q ≡ b (chunk_of q) && is_loaded w q
  pub at : (q : Pos) → u.at q ≡ (if b (chunk_of q) then w.at q else 0)
  pub lists : (c : ChunkPos) → u.lists c ≡ (if b c then w.lists c else [])

-- a land with these chunks as they are in another
abbrev pub with_part : Chunks → Land ℕ → Land ℕ → Land ℕ
with_part b v w =
    record {
      height = w.height;
      chunks = w.chunks;
      at = λ p. if b (chunk_of p) then v.at p else w.at p;
      lists = λ c. if b c then v.lists c else w.lists c;
    }

-- the loaded blocks that a turn of the entry's block may read or change lie in these chunks
abbrev pub StaysIn : Land ℕ → Chunks → Entry → Type 0
StaysIn w b e = (q : Pos) → InReach e.pos q → is_loaded w q ≡ true → b (chunk_of q) ≡ true

-- what is not loaded is air
abbrev pub IsAirOutside : Land ℕ → Type 0
IsAirOutside w = (q : Pos) → is_loaded w q ≡ false → w.at q ≡ 0

-- Entries that stay in some chunks leave in a land of these alone what they leave in the whole, where all other chunks stay as they were.
pub record AreTurnedApart (k : ℕ → Kind) (now : ℕ) (b : Chunks) (es : List Entry) (w u : Land ℕ) : Type 0 where
  pub inside : IsPart b (turned_all k now es w) (turned_all k now es u)
  pub whole : turned_all k now es w ≡ with_part b (turned_all k now es u) w

abbrev pub TurnsStayInTheirPart : Type 0
TurnsStayInTheirPart = (k : ℕ → Kind) (now : ℕ) (b : Chunks) (es : List Entry) (w u : Land ℕ) → IsAirOutside w → All (StaysIn w b) es → IsPart b w u → AreTurnedApart k now b es w u
