-- Entries that are due are of loaded blocks.
use Rattle.std.proofs.Common.{◌≡◌, ℕ, zero, suc, ◌<◌, Bool, true, false, cond, ◌&&◌, ◌||◌, List, [], ◌∷◌, length, get_or, filter, All, refl, sym, ap, subst, ◌∙◌, arith}
use Rattle.std.specs.declared.cmp.Ordering.{Ordering}
use Rattle.std.specs.Ordering.{is_lt}
use Rattle.std.specs.Ordering.{int_eq}
use Rattle.std.specs.List.{list_all, flat_map}
use Rattle.std.proofs.lemmas.List.Folds.{list_all-append}
use Rattle.std.proofs.lemmas.List.Elements.{All-head, All-tail}
use Rattle.std.proofs.lemmas.Bool.{and_parts, and_from}
use Rattle.std.proofs.Math.Bool.{or-true}
use Rattle.av_types.specs.Division.{divided}
use Rattle.av_types.specs.Positions.{chunk_of, is_block_of}
use Rattle.av_types.specs.declared.position.Pos.{Pos}
use Rattle.av_types.specs.declared.position.ChunkPos.{ChunkPos}
use Rattle.av_types.specs.declared.position.Height.{Height}
use Rattle.av_types.specs.declared.tick.Entry.{Entry}
use Rattle.av_types.proofs.SamePositions.{same_chunk_is, same_chunk-refl}
use Rattle.av_ticks.specs.Entries.{is_due, due_order}
use Rattle.av_types.specs.Order.{inserted, ordered}
use Rattle.av_document.specs.Ticks.{lies_in}
use Rattle.av_cells.specs.Positions.{same_chunk}
use Rattle.av_land.specs.Land.{has_chunk, is_loaded}
use Rattle.av_land.specs.Tick.{due_entries}
use Rattle.av_world.specs.Views.{blocks, lists}
use Rattle.av_world.specs.Lands.{land_of, IsUncarved}
use Rattle.av_world.specs.declared.worlds.World.{World}

all_inserted : {X : Type 0} (q : X → Bool) (cmp : X → X → Ordering) (x : X) (ys : List X) → q x ≡ true → list_all q ys ≡ true → list_all q (inserted cmp x ys) ≡ true
all_inserted q cmp x [] a b = and_from (q x) true a refl
all_inserted q cmp x (y ∷ ys) a b =
    let parts = and_parts (q y) (list_all q ys) b in
    by (is_lt (cmp y x)) (and_from (q y) (list_all q (inserted cmp x ys)) parts.0 (all_inserted q cmp x ys a parts.1)) where
      by : (t : Bool) → q y && list_all q (inserted cmp x ys) ≡ true → list_all q (cond t (y ∷ inserted cmp x ys) (x ∷ y ∷ ys)) ≡ true
      by true h = h
      by false h = and_from (q x) (q y && list_all q ys) a b

all_ordered : {X : Type 0} (q : X → Bool) (cmp : X → X → Ordering) (xs : List X) → list_all q xs ≡ true → list_all q (ordered cmp xs) ≡ true
all_ordered q cmp [] h = refl
all_ordered q cmp (x ∷ xs) h = let parts = and_parts (q x) (list_all q xs) h in all_inserted q cmp x (ordered cmp xs) parts.0 (all_ordered q cmp xs parts.1)

all_filter : {X : Type 0} (q t : X → Bool) (xs : List X) → list_all q xs ≡ true → list_all q (filter t xs) ≡ true
all_filter q t [] h = refl
all_filter q t (x ∷ xs) h = let parts = and_parts (q x) (list_all q xs) h in by (t x) parts.0 (all_filter q t xs parts.1) where
  by : (b : Bool) → q x ≡ true → list_all q (filter t xs) ≡ true → list_all q (cond b (x ∷ filter t xs) (filter t xs)) ≡ true
  by true a g = and_from (q x) (list_all q (filter t xs)) a g
  by false a g = g

all_flat : {X Y : Type 0} (q : Y → Bool) (f : X → List Y) (xs : List X) → ((j : ℕ) (d : X) → j < length xs → list_all q (f (get_or xs j d)) ≡ true) → list_all q (flat_map f xs) ≡ true
all_flat q f [] h = refl
all_flat q f (x ∷ xs) h = list_all-append q (f x) (flat_map f xs) ∙ and_from (list_all q (f x)) (list_all q (flat_map f xs)) (h 0 x (omega arith)) (all_flat q f xs (λ j d below. h (suc j) d (omega arith)))

has_at : (ps : List ChunkPos) (j : ℕ) (d : ChunkPos) → j < length ps → has_chunk ps (get_or ps j d) ≡ true
has_at [] j d h = absurd (omega arith)
has_at (p ∷ ps) zero d h = ap (λ b. b || has_chunk ps p) (same_chunk-refl p)
has_at (p ∷ ps) (suc j) d h = ap (λ b. same_chunk p (get_or ps j d) || b) (has_at ps j d (omega arith)) ∙ or-true (same_chunk p (get_or ps j d))

one_loaded : (h : Height) (ps : List ChunkPos) (c : ChunkPos) (p : Pos) → has_chunk ps c ≡ true → lies_in c h p ≡ true → has_chunk ps (chunk_of p) && is_block_of h p.y ≡ true
one_loaded h ps c p has lies =
    let parts = and_parts (int_eq (divided p.x 16) c.x && int_eq (divided p.z 16) c.z) (is_block_of h p.y) lies in
    and_from (has_chunk ps (chunk_of p)) (is_block_of h p.y) (ap (has_chunk ps) (same_chunk_is (chunk_of p) c parts.0) ∙ has) parts.1

all_loaded : (h : Height) (ps : List ChunkPos) (c : ChunkPos) (es : List Entry) → has_chunk ps c ≡ true → All (λ e. lies_in c h e.pos ≡ true) es → list_all (λ e. has_chunk ps (chunk_of e.pos) && is_block_of h e.pos.y) es ≡ true
all_loaded h ps c [] has all = refl
all_loaded h ps c (e ∷ es) has all =
    and_from _ _ (one_loaded h ps c e.pos has (All-head (λ e. lies_in c h e.pos ≡ true) e es all)) (all_loaded h ps c es has (All-tail (λ e. lies_in c h e.pos ≡ true) e es all))

pub due_loaded : (now : ℕ) (w : World) → IsUncarved w → list_all (λ e. (blocks w).loaded e.pos) (due_entries now (land_of w)) ≡ true
due_loaded now w whole =
    let ps = w.positions.items in
    let q : Entry → Bool = λ e. is_loaded (land_of w) e.pos in
    subst (λ (f : Pos → Bool). list_all (λ (e : Entry). f e.pos) (due_entries now (land_of w)) ≡ true) (sym whole)
    (all_ordered q due_order (filter (is_due now) (flat_map (lists w) ps)) (all_filter q (is_due now) (flat_map (lists w) ps)
    (all_flat q (lists w) ps (λ j d below. all_loaded w.height ps (get_or ps j d) (lists w (get_or ps j d)) (has_at ps j d below) (w.lawful.within (get_or ps j d))))))
