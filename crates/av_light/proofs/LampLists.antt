-- Lists of the blocks that give light.
use Rattle.std.proofs.Common.{◌≡◌, ℕ, ℤ, pos, negsuc, ◌+ℤ◌, ◌-ℤ◌, ◌≤ℤ◌, zero, suc, ◌+◌, ◌<◌, ◌≤◌, ◌%◌, ◌/◌, true, List, [], ◌∷◌, ◌++◌, length, get_or, sym, ap, ◌∙◌, subst, arith, Vec, Global, Result, Ok, Err}
use Rattle.std.specs.Prelude.{Contains, map, IfOk, MatchResult}
use Rattle.std.specs.List.{list_any, AllZip}
use Rattle.std.proofs.lemmas.Int.{ints}
use Rattle.std.proofs.lemmas.List.{get_or-map, length-map, get_or_default}
use Rattle.std.proofs.Math.ListN.{get_or-eq_default}
use Rattle.std.proofs.lemmas.List.Folds.{list_any-from_Any}
use Rattle.std.proofs.lemmas.Map.Views.{Contains-from_any}
use Rattle.av_types.specs.Positions.{chunk_of, section_of, same_pos}
use Rattle.av_types.specs.declared.position.Pos.{Pos}
use Rattle.av_types.specs.declared.position.ChunkPos.{ChunkPos}
use Rattle.av_types.proofs.SamePositions.{same_pos_is, same_pos-refl}
use Rattle.av_rules.specs.declared.kinds.Kinds.{Kinds}
use Rattle.av_flood.specs.Blocks.{AreKnown, column_at}
use Rattle.av_world.specs.Index.{slot}
use Rattle.av_world.specs.Near.{is_world_section, slot_at}
use Rattle.av_world.specs.Views.{positions_of, blocks}
use Rattle.av_world.specs.declared.worlds.World.{World}
use Rattle.av_section_light.specs.Light.{terrain_of}
use Rattle.av_section_light.specs.Lamps.{HasLamps}
use Rattle.av_light.specs.Lamps.{lamps_at, AreLamps, IsBeside}

-- one list of several
pub list_within : (ls : List (Vec Pos Global)) (i : ℕ) (d : Vec Pos Global) → i < length ls → (get_or ls i d).items ≡ get_or (map (λ v. v.items) ls) i []
list_within ls i d l = sym (get_or-map (λ v. v.items) ls i d [] l)

pub list_past : (ls : List (Vec Pos Global)) (i : ℕ) → length ls ≤ i → [] ≡ get_or (map (λ v. v.items) ls) i []
list_past ls i l = sym (get_or-eq_default (map (λ v. v.items) ls) [] (simp length-map l))

-- one list more
pub list_more : (ls : List (Vec Pos Global)) (x : Vec Pos Global) (P : ℕ → List Pos → Type 0) → ((k : ℕ) → k < length ls → P k (get_or (map (λ v. v.items) ls) k [])) → P (length ls) x.items
    → (k : ℕ) → k < length ls + 1 → P k (get_or (map (λ v. v.items) (ls ++ x ∷ [])) k [])
list_more [] x P h here zero l = here
list_more [] x P h here (suc k) l = absurd (omega arith)
list_more (y ∷ ys) x P h here zero l = h zero (omega arith)
list_more (y ∷ ys) x P h here (suc k) l = list_more ys x (λ j. P (suc j)) (λ j m. h (suc j) (omega arith)) here k (omega arith)

-- a list has a block where the test finds it
pub found_in : (p : Pos) (ps : List Pos) → Contains ps p → list_any (same_pos p) ps ≡ true
found_in p [] w = let l : w.0 < 0 = w.1 in absurd (omega arith)
found_in p (q ∷ qs) w = list_any-from_Any (same_pos p) (q ∷ qs) (w.0, p, w.1, w.2, same_pos-refl p)

pub AreLamps-all : (k : Kinds) (w : World) (lists : List (List Pos))
    → ((i : ℕ) (d : ChunkPos) → i < length (positions_of w) → HasLamps (terrain_of k (blocks w)) (get_or (positions_of w) i d) (get_or lists i [])) → AreLamps k w lists
AreLamps-all k w lists all =
    record {
      has = λ p l shines.
          let of_world = is_world_section w.height w.positions.items w.chunks.items w.lawful.parallel (section_of p) l in
          let i = slot (positions_of w) (chunk_of p) in
          found_in p (get_or lists i []) ((all i (chunk_of p) of_world.chunk).lit p (sym (slot_at (positions_of w) (chunk_of p) (chunk_of p) of_world.chunk)) l shines);
    }

pub AreKnown-all : (k : Kinds) (w : World) (lists : List (List Pos)) (c : ChunkPos) → AreLamps k w lists → AreKnown (terrain_of k (blocks w)) (lamps_at w lists) c
AreKnown-all k w lists c h =
    record {
      known = λ n less p e l shines. subst (λ d. Contains (lamps_at w lists d) p) e (Contains-from_any same_pos_is p (lamps_at w lists (chunk_of p)) (h.has p l shines));
    }

-- as a world that reads them has them
pub known_as : (k : Kinds) (w v : World) (ls ms : List (Vec Pos Global)) (c : ChunkPos) → v ≡ w → ms ≡ ls → AreKnown (terrain_of k (blocks w)) (lamps_at w (map (λ x. x.items) ls)) c
    → AreKnown (terrain_of k (blocks v)) (λ d. lamps_at v (map (λ x. x.items) ms) d) c
known_as k w v ls ms c e f h =
    subst (λ u. AreKnown (terrain_of k (blocks u)) (λ d. lamps_at u (map (λ x. x.items) ms) d) c) (sym e)
    (subst (λ xs. AreKnown (terrain_of k (blocks w)) (λ d. lamps_at w (map (λ x. x.items) xs) d) c) (sym f) h)

pub known_by : (k : Kinds) (w v : World) (ls ms : List (Vec Pos Global)) (c : ChunkPos) → v ≡ w → ms ≡ ls → AreLamps k w (map (λ x. x.items) ls)
    → AreKnown (terrain_of k (blocks v)) (λ d. lamps_at v (map (λ x. x.items) ms) d) c
known_by k w v ls ms c e f h = known_as k w v ls ms c e f (AreKnown-all k w (map (λ x. x.items) ls) c h)

-- what holds of an index in one list of chunks holds in an equal one
pub at_index : (P : ChunkPos → Type 0) (cs ps : List ChunkPos) (i : ℕ) (a : ChunkPos) → cs ≡ ps → i < length cs → P (get_or cs i a) → (d : ChunkPos) → P (get_or ps i d)
at_index P cs ps i a e l h d = subst P (get_or_default cs i a d l ∙ ap (λ qs. get_or qs i d) e) h

-- an answer for a chunk: its list, or a fault
abbrev pub GoodAt : (E : Type 0) → (ChunkPos → Vec Pos Global → Type 0) → ChunkPos → Result (Vec Pos Global) E → Type 0
GoodAt E R c r = IfOk r (R c)

all_oks : (E : Type 0) (R : ChunkPos → Vec Pos Global → Type 0) (cs : List ChunkPos) (ys : List (Vec Pos Global)) → AllZip (GoodAt E R) cs (map Ok ys) → AllZip R cs ys
all_oks E R [] [] h = h
all_oks E R [] (y ∷ ys) h = h
all_oks E R (c ∷ cs) [] h = h
all_oks E R (c ∷ cs) (y ∷ ys) h = (h.0, all_oks E R cs ys h.1)

-- what a list of answers makes of the whole
pub all_good : {V : Type 0} (E : Type 0) (items : V → List (Vec Pos Global)) (R : ChunkPos → Vec Pos Global → Type 0) (cs : List ChunkPos) (rs : List (Result (Vec Pos Global) E)) (r : Result V E) → AllZip (GoodAt E R) cs rs
    → MatchResult r (λ v. (ys : List (Vec Pos Global)) × (rs ≡ map Ok ys) × (items v ≡ ys)) (λ e. Contains rs (Err e)) → IfOk r (λ v. AllZip R cs (items v))
all_good E items R cs rs (Ok v) zip h = subst (AllZip R cs) (sym h.2) (all_oks E R cs h.0 (subst (AllZip (GoodAt E R) cs) h.1 zip))
all_good E items R cs rs (Err e) zip h = tt

pub has_lists : (P : ChunkPos → List Pos → Type 0) (cs : List ChunkPos) (ls : List (Vec Pos Global)) → AllZip (λ c v. P c v.items) cs ls
    → (i : ℕ) (d : ChunkPos) → i < length cs → P (get_or cs i d) (get_or (map (λ v. v.items) ls) i [])
has_lists P [] ls zip i d less = absurd (omega arith)
has_lists P (c ∷ cs) [] zip i d less = absurd zip
has_lists P (c ∷ cs) (l ∷ ls) zip zero d less = zip.0
has_lists P (c ∷ cs) (l ∷ ls) zip (suc i) d less = has_lists P cs ls zip.1 i d (omega arith)

-- the list of a chunk, if it is one of the nine around another
abbrev pub IsList : Kinds → World → ChunkPos → ChunkPos → List Pos → Type 0
IsList k w c d xs = IsBeside c d → HasLamps (terrain_of k (blocks w)) d xs

step_along : (x : ℤ) (m : ℕ) → m < 3 → (negsuc 0 ≤ℤ (x -ℤ pos 1 +ℤ pos m -ℤ x)) × ((x -ℤ pos 1 +ℤ pos m -ℤ x) ≤ℤ pos 1)
step_along x m less = (omega (arith, ints), omega (arith, ints))

beside_column : (c : ChunkPos) (n : ℕ) → n < 9 → IsBeside c (column_at c n)
beside_column c n less =
    let x = step_along c.x (n % 3) (omega arith) in
    let z = step_along c.z (n / 3) (omega arith) in
    record { west = x.0; east = x.1; north = z.0; south = z.1 }

pub AreKnown-beside : (k : Kinds) (w : World) (lists : List (List Pos)) (c : ChunkPos)
    → ((i : ℕ) (d : ChunkPos) → i < length (positions_of w) → IsList k w c (get_or (positions_of w) i d) (get_or lists i [])) → AreKnown (terrain_of k (blocks w)) (lamps_at w lists) c
AreKnown-beside k w lists c all =
    record {
      known = λ n less p e l shines.
          let of_world = is_world_section w.height w.positions.items w.chunks.items w.lawful.parallel (section_of p) l in
          let i = slot (positions_of w) (chunk_of p) in
          let at : get_or (positions_of w) i (chunk_of p) ≡ chunk_of p = slot_at (positions_of w) (chunk_of p) (chunk_of p) of_world.chunk in
          let beside = subst (IsBeside c) (sym (at ∙ e)) (beside_column c n less) in
          subst (λ d. Contains (lamps_at w lists d) p) e ((all i (chunk_of p) of_world.chunk beside).lit p (sym at) l shines);
    }
