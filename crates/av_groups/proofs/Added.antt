-- What an entry's turn may touch.
use Rattle.std.proofs.Common.{◌≡◌, ℕ, ◌||◌, Bool, true, false, List, [], ◌∷◌, IsTrue, All, refl, sym, ap, subst}
use Rattle.std.proofs.lemmas.Bool.{true≢false, and_parts, and_from}
use Rattle.std.proofs.lemmas.List.Elements.{All-head, All-tail, All-weaker}
use Rattle.av_types.specs.Positions.{chunk_of, section_of, is_block_of}
use Rattle.av_types.specs.declared.position.Pos.{Pos}
use Rattle.av_types.specs.declared.position.ChunkPos.{ChunkPos}
use Rattle.av_types.specs.declared.position.SectionPos.{SectionPos}
use Rattle.av_types.specs.declared.tick.Entry.{Entry}
use Rattle.av_types.proofs.SamePositions.{same_chunk_is, same_chunk_from}
use Rattle.av_cells.specs.Positions.{InReach, same_chunk}
use Rattle.av_land.specs.Land.{Land, has_chunk, is_loaded}
use Rattle.av_play.specs.Corners.{corner}
use Rattle.av_play.proofs.Corners.{meets_corner}
use Rattle.av_world.specs.Lands.{land_of}
use Rattle.av_world.specs.Near.{is_world_section}
use Rattle.av_world.specs.Views.{blocks}
use Rattle.av_world.specs.declared.worlds.World.{World}
use Rattle.av_world.proofs.ChunkReads.{has_chunk_there}
use Rattle.av_groups.specs.declared.groups.Touch.{Touch}
use Rattle.av_groups.specs.Open.{corner_chunks, chunks_in, IsCovered, AreKept}
use Rattle.av_groups.specs.Parts.{StaysIn}

-- the chunk of a section's block
chunk_in : SectionPos → ChunkPos
chunk_in s = record { x = s.x; z = s.z }

or_left : {a : Bool} (b : Bool) → a ≡ true → a || b ≡ true
or_left b h = rw h refl

or_right : (a : Bool) {b : Bool} → b ≡ true → a || b ≡ true
or_right true h = refl
or_right false h = h

-- a chunk of the reach is that of a corner
reach_chunks : (p q : Pos) → InReach p q → has_chunk (corner_chunks p) (chunk_of q) ≡ true
unfolding chunk_in
reach_chunks p q r = by (meets_corner p q r) where
  here : (east high south : Bool) → section_of (corner p east high south) ≡ section_of q → chunk_of (corner p east false south) ≡ chunk_of q
  here east high south e = ap chunk_in e

  a : Bool
  a = same_chunk (chunk_of (corner p false false false)) (chunk_of q)

  b : Bool
  b = same_chunk (chunk_of (corner p true false false)) (chunk_of q)

  c : Bool
  c = same_chunk (chunk_of (corner p false false true)) (chunk_of q)

  d : Bool
  d = same_chunk (chunk_of (corner p true false true)) (chunk_of q)

  same : (east south : Bool) → chunk_of (corner p east false south) ≡ chunk_of q → same_chunk (chunk_of (corner p east false south)) (chunk_of q) ≡ true
  same east south e = same_chunk_from (chunk_of (corner p east false south)) (chunk_of q) e

  by : (east : Bool) × (high : Bool) × (south : Bool) × (section_of (corner p east high south) ≡ section_of q) → has_chunk (corner_chunks p) (chunk_of q) ≡ true
  by (false, high, false, e) = or_left (b || (c || (d || false))) (same false false (here false high false e))
  by (true, high, false, e) = or_right a (or_left (c || (d || false)) (same true false (here true high false e)))
  by (false, high, true, e) = or_right a (or_right b (or_left (d || false) (same false true (here false high true e))))
  by (true, high, true, e) = or_right a (or_right b (or_right c (or_left false (same true true (here true high true e)))))

pub all_has : (P : ChunkPos → Type 0) (cs : List ChunkPos) (c : ChunkPos) → All P cs → has_chunk cs c ≡ true → P c
all_has P [] c h m = absurd (true≢false (sym m))
all_has P (d ∷ ds) c h m = by (same_chunk d c) refl m (all_has P ds c (All-tail P d ds h)) where
  by : (t : Bool) → same_chunk d c ≡ t → t || has_chunk ds c ≡ true → (has_chunk ds c ≡ true → P c) → P c
  by true e m rest = subst P (same_chunk_is d c e) (All-head P d ds h)
  by false e m rest = rest m

-- a block of a section that is there is one of the land
loaded_in_land : (w : World) (p : Pos) → IsTrue ((blocks w).loaded p) → is_loaded (land_of w) p ≡ true
loaded_in_land w p h =
    let of_world = is_world_section w.height w.positions.items w.chunks.items w.lawful.parallel (section_of p) h in
    and_from (has_chunk w.positions.items (chunk_of p)) (is_block_of w.height p.y) (has_chunk_there w.positions.items (chunk_of p) of_world.chunk) of_world.high

pub all_loaded : (w : World) (es : List Entry) → All (λ e. IsTrue ((blocks w).loaded e.pos)) es → All (λ e. is_loaded (land_of w) e.pos ≡ true) es
all_loaded w = All-weaker (λ e. IsTrue ((blocks w).loaded e.pos)) (λ e. is_loaded (land_of w) e.pos ≡ true) (λ e h. loaded_in_land w e.pos h)

-- the corners' chunks are touched, where they are there
pub stays : (w : Land ℕ) (e : Entry) (new : List Touch) → All (IsCovered w.chunks new) (corner_chunks e.pos) → StaysIn w (has_chunk (chunks_in new)) e
stays w e new covered q reach loaded =
    let there = and_parts (has_chunk w.chunks (chunk_of q)) (is_block_of w.height q.y) loaded in
    all_has (IsCovered w.chunks new) (corner_chunks e.pos) (chunk_of q) covered (reach_chunks e.pos q reach) there.0

-- and in more chunks than those in which it stays
pub stay_more : (w : Land ℕ) (old new : List Touch) (es : List Entry) → AreKept old new → All (StaysIn w (has_chunk (chunks_in old))) es → All (StaysIn w (has_chunk (chunks_in new))) es
stay_more w old new es kept = All-weaker (StaysIn w (has_chunk (chunks_in old))) (StaysIn w (has_chunk (chunks_in new))) (λ e h q r l. kept (chunk_of q) (h q r l)) es
