-- Steps that keep a world.
use Rattle.std.proofs.Common.{◌<◌, ◌≤◌, ℕ, zero, suc, take, get_or, IsTrue, IsOk, is_ok, is_err, false, true≢false, List, length, refl, sym, ap, subst, ◌∙◌, arith, OnOk, Ok, Err, Result, Some, ◌≡◌, All}
use Rattle.std.proofs.lemmas.List.Elements.{All-weaker}
use Rattle.av_types.specs.Positions.{section_of, chunk_of}
use Rattle.av_types.specs.declared.position.Pos.{Pos}
use Rattle.av_types.specs.declared.position.ChunkPos.{ChunkPos}
use Rattle.av_types.specs.declared.position.SectionPos.{SectionPos}
use Rattle.av_cells.specs.Grid.{cells_of, is_here, Grid}
use Rattle.av_world.specs.Index.{slot}
use Rattle.av_world.specs.Near.{is_world_section}
use Rattle.av_world.specs.Views.{site, room, IsWorldKept, IsSameButBlocks, CanSetAt, blocks, grid}
use Rattle.av_world.specs.Turned.{corners, HasRoomAt, HasChunkRoom, CanSetAll}
use Rattle.av_world.specs.declared.worlds.World.{World}

pub IsWorldKept-refl : (w : World) → IsWorldKept w w
IsWorldKept-refl w = record { height = refl; positions = refl; broken = refl; grid_is = refl; lists_are = refl; room_grows = λ c. omega arith; prepared = λ s n g. g }

pub IsWorldKept-trans : (u v w : World) → IsWorldKept u v → IsWorldKept v w → IsWorldKept u w
IsWorldKept-trans u v w a b = record {
  height = b.height ∙ a.height;
  positions = b.positions ∙ a.positions;
  broken = b.broken ∙ a.broken;
  grid_is = b.grid_is ∙ a.grid_is;
  lists_are = b.lists_are ∙ a.lists_are;
  room_grows = λ c. (let x = a.room_grows c in let y = b.room_grows c in omega arith);
  prepared = λ s n g. b.prepared s n (a.prepared s n g);
}

-- a block that is loaded after such a step was loaded before it
pub loaded_before : (v w : World) (q : Pos) → IsWorldKept v w → IsTrue ((blocks w).loaded q) → IsTrue ((blocks v).loaded q)
loaded_before v w q k t = subst (λ (g : Grid). IsTrue ((cells_of g).loaded q)) k.grid_is t

pub room_lasts : (v w : World) (n : ℕ) (p : Pos) → IsWorldKept v w → HasRoomAt v n p → HasRoomAt w n p
room_lasts v w n p k h t =
    let x = h (loaded_before v w p k t) in
    let y = k.room_grows (chunk_of p) in
    omega arith

-- what a section was prepared for, it stays prepared for
pub ready_lasts : (v w : World) (ns : List ℕ) (s : SectionPos) → IsWorldKept v w → (IsTrue (is_here (grid v s)) → All (CanSetAt v s) ns) → IsTrue (is_here (grid w s)) → All (CanSetAt w s) ns
ready_lasts v w ns s k h there =
    All-weaker (CanSetAt v s) (CanSetAt w s) (λ n g. k.prepared s n g) ns (h (subst (λ (g : Grid). IsTrue (is_here (g s))) k.grid_is there))

pub numbers_last : (v w : World) (ns : List ℕ) (p : Pos) → IsWorldKept v w → CanSetAll v ns p → CanSetAll w ns p
numbers_last v w ns p k h = ready_lasts v w ns (section_of p) k h

pub in_ok : {A E : Type 0} (r : Result A E) (P : Type 0) → P → OnOk r P
in_ok (Ok x) P h = h
in_ok (Err e) P h = tt

-- what succeeds did not refuse
pub not_refused : {A E : Type 0} (r : Result A E) (e : E) (P : Type 0) → r ≡ Err e → IsOk r → P
not_refused r e P was ok = absurd (true≢false (sym ok ∙ ap is_ok was))

-- where a block is loaded, its chunk is there
pub chunk_there : (v w : World) (q : Pos) → IsWorldKept v w → IsTrue ((blocks v).loaded q) → slot w.positions.items (chunk_of q) < length w.positions.items
chunk_there v w q k t =
    (is_world_section w.height w.positions.items w.chunks.items w.lawful.parallel (section_of q) (subst (λ (g : Grid). IsTrue ((cells_of g).loaded q)) (sym k.grid_is) t)).chunk

pub chunk_room_lasts : (v w : World) (n : ℕ) (p : Pos) → IsWorldKept v w → HasChunkRoom v n p → HasChunkRoom w n p
chunk_room_lasts v w n p k h t =
    let x : n ≤ room v (chunk_of p) = h (subst (λ ps. slot ps.items (chunk_of p) < length ps.items) k.positions t) in
    let y = k.room_grows (chunk_of p) in
    omega arith

-- a reservation that did not fail made the room
pub chunk_room : (v w : World) (n : ℕ) (p : Pos) (c : ChunkPos) (A E : Type 0) (r : Result A E) → c ≡ chunk_of p → IsWorldKept v w → is_err r ≡ false
    → OnOk r (slot v.positions.items c < length v.positions.items → n ≤ room w c) → HasChunkRoom w n p
chunk_room v w n p c A E (Ok x) e k ok h =
    λ t. subst (λ (d : ChunkPos). n ≤ room w d) e (h (subst (λ (d : ChunkPos). slot v.positions.items d < length v.positions.items) (sym e) (subst (λ ps. slot ps.items (chunk_of p) < length ps.items) k.positions t)))
chunk_room v w n p c A E (Err x) e k ok h = absurd (true≢false ok)

-- a chunk with room has room for each loaded block of it
pub block_room : (w : World) (n : ℕ) (p : Pos) → HasChunkRoom w n p → HasRoomAt w n p
block_room w n p h t = h (chunk_there w w p (IsWorldKept-refl w) t)

-- the upper corners of a reach are in the chunks of the lower ones
pub corners_room : (w : World) (n : ℕ) (p : Pos) → All (HasChunkRoom w n) (take 4 (corners p)) → All (HasRoomAt w n) (corners p)
corners_room w n p all zero d l = block_room w n (get_or (corners p) 0 p) (all 0 p (omega arith))
corners_room w n p all (suc zero) d l = block_room w n (get_or (corners p) 1 p) (all 1 p (omega arith))
corners_room w n p all (suc (suc zero)) d l = block_room w n (get_or (corners p) 2 p) (all 2 p (omega arith))
corners_room w n p all (suc (suc (suc zero))) d l = block_room w n (get_or (corners p) 3 p) (all 3 p (omega arith))
corners_room w n p all (suc (suc (suc (suc zero)))) d l = block_room w n (get_or (corners p) 4 p) (all 0 p (omega arith))
corners_room w n p all (suc (suc (suc (suc (suc zero))))) d l = block_room w n (get_or (corners p) 5 p) (all 1 p (omega arith))
corners_room w n p all (suc (suc (suc (suc (suc (suc zero)))))) d l = block_room w n (get_or (corners p) 6 p) (all 2 p (omega arith))
corners_room w n p all (suc (suc (suc (suc (suc (suc (suc zero))))))) d l = block_room w n (get_or (corners p) 7 p) (all 3 p (omega arith))
corners_room w n p all (suc (suc (suc (suc (suc (suc (suc (suc i)))))))) d l = absurd (omega arith)

pub loaded_later : (v w : World) (q : Pos) → IsWorldKept v w → IsTrue ((blocks v).loaded q) → IsTrue ((blocks w).loaded q)
loaded_later v w q k t = subst (λ (g : Grid). IsTrue ((cells_of g).loaded q)) (sym k.grid_is) t

pub IsSameButBlocks-refl : (w : World) → IsSameButBlocks w w
IsSameButBlocks-refl w = record { height = refl; positions = refl; broken = refl; lists_are = refl }

pub IsSameButBlocks-trans : (u v w : World) → IsSameButBlocks u v → IsSameButBlocks v w → IsSameButBlocks u w
IsSameButBlocks-trans u v w a b = record { height = b.height ∙ a.height; positions = b.positions ∙ a.positions; broken = b.broken ∙ a.broken; lists_are = b.lists_are ∙ a.lists_are }

pub site_kept : (v w : World) → IsWorldKept v w → site w ≡ site v
site_kept v w k = λ i. record { height = Some (k.height i); chunks = (k.positions i).items; broken = k.broken i }
