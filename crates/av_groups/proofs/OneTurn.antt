-- One turn in a part of a land.
use Rattle.std.proofs.Common.{◌≡◌, ◌∙◌, ℕ, ◌&&◌, ◌⊎◌, inl, inr, List, [], ◌∷◌, ◌++◌, Bool, true, false, cond, refl, sym, ap, All}
use Rattle.std.proofs.lemmas.Bool.{true≢false}
use Rattle.std.specs.List.{AllByRecursion}
use Rattle.std.proofs.lemmas.List.Elements.{All-head, All-tail}
use Rattle.av_types.specs.Positions.{chunk_of}
use Rattle.av_types.specs.declared.position.Pos.{Pos}
use Rattle.av_types.specs.declared.position.ChunkPos.{ChunkPos}
use Rattle.av_types.specs.declared.tick.Entry.{Entry}
use Rattle.av_types.proofs.SamePositions.{same_chunk_is}
use Rattle.av_ticks.specs.Entries.{is_pending}
use Rattle.av_cells.specs.declared.kind.Kind.{Kind}
use Rattle.av_cells.specs.Positions.{InReach, same_chunk}
use Rattle.av_cells.specs.World.{World, Lists, listed_if, listed_all}
use Rattle.av_cells.specs.Turn.{turn}
use Rattle.av_water.specs.Frame.{Agree, Same, Kept, InLoadedReach, IsMadeBy}
use Rattle.av_water.proofs.Inside.{turn_kept, turn_made}
use Rattle.av_land.specs.Land.{Land, is_loaded, cells_of}
use Rattle.av_land.specs.Tick.{turned}
use Rattle.av_play.proofs.Turns.{turn_within}
use Rattle.av_groups.specs.Parts.{Chunks, IsPart, with_part, StaysIn, IsAirOutside}

-- ---- lists

pub listed_at : (c : ChunkPos) (es : List Entry) (l m : Lists) → l c ≡ m c → listed_all l es c ≡ listed_all m es c
listed_at c [] l m h = h
listed_at c (e ∷ es) l m h = listed_at c es (listed_if true l e) (listed_if true m e) (λ i. cond (same_chunk c (chunk_of e.pos)) (h i ++ e ∷ []) (h i))

-- entries of other chunks change nothing in a list
pub listed_elsewhere : (c : ChunkPos) (es : List Entry) (l : Lists) → AllByRecursion (λ e. same_chunk c (chunk_of e.pos) ≡ false) es → listed_all l es c ≡ l c
listed_elsewhere c [] l h = refl
listed_elsewhere c (e ∷ es) l h = listed_elsewhere c es (listed_if true l e) h.1 ∙ rw h.0 refl

-- ---- a turn that stays in the part

module _ (k : ℕ → Kind) (now : ℕ) (b : Chunks) (e : Entry) (w : Land ℕ) (u : Land ℕ) (air : IsAirOutside w) (stays : StaysIn w b e) (is : IsPart b w u) where
  abbrev V : World
  V = cells_of u

  abbrev W : World
  W = cells_of w

  -- the blocks of the chunks, and of the reach
  abbrev R : Pos → Type 0
  R q = (b (chunk_of q) ≡ true) ⊎ InReach e.pos q

  outside : (q : Pos) → InReach e.pos q → b (chunk_of q) ≡ false → is_loaded w q ≡ false
  outside q i off = by (is_loaded w q) refl where
    by : (t : Bool) → is_loaded w q ≡ t → t ≡ false
    by true l = absurd (true≢false (sym (stays q i l) ∙ off))
    by false l = refl

  -- what holds in the chunks, and out of them in the reach
  apart : (q : Pos) → R q → {A : Type 0} → (b (chunk_of q) ≡ true → A) → (b (chunk_of q) ≡ false → InReach e.pos q → A) → A
  apart q r {A} f g = by (b (chunk_of q)) refl r where
    by : (t : Bool) → b (chunk_of q) ≡ t → R q → A
    by true h r = f h
    by false h (inl i) = absurd (true≢false (sym i ∙ h))
    by false h (inr i) = g h i

  waits : (q : Pos) → is_loaded u q && is_pending q (u.lists (chunk_of q)) ≡ (b (chunk_of q) && is_loaded w q) && is_pending q (cond (b (chunk_of q)) (w.lists (chunk_of q)) [])
  waits q = λ i. is.loaded q i && is_pending q (is.lists (chunk_of q) i)

  agree : Agree R V W
  agree = record {
    same_loaded = λ q r. is.loaded q ∙ apart q r (λ h. rw h refl) (λ h i. rw (h, outside q i h) refl);
    same_number = λ q r. is.at q ∙ apart q r (λ h. rw h refl) (λ h i. rw h (sym (air q (outside q i h))));
    same_pending = λ q r. waits q ∙ apart q r (λ h. rw h refl) (λ h i. rw (h, outside q i h) refl);
  }

  same : Same R (turn k now e.pos V) (turn k now e.pos W)
  same = turn_within k now e.pos R V W (λ q i. inr i) agree

  kept_whole : Kept (InLoadedReach W e.pos) W (turn k now e.pos W).world
  kept_whole = turn_kept k now e.pos W

  kept_part : Kept (InLoadedReach V e.pos) V (turn k now e.pos V).world
  kept_part = turn_kept k now e.pos V

  abbrev made : List Entry
  made = (turn k now e.pos W).made

  -- what is made is made in the chunks
  made_inside : (c : ChunkPos) → b c ≡ false → AllByRecursion (λ x. same_chunk c (chunk_of x.pos) ≡ false) made
  made_inside c off = each made (turn_made k now e.pos W) where
    one : (x : Entry) → IsMadeBy W now e.pos x → same_chunk c (chunk_of x.pos) ≡ false
    one x m = by (same_chunk c (chunk_of x.pos)) refl where
      by : (t : Bool) → same_chunk c (chunk_of x.pos) ≡ t → t ≡ false
      by true h = absurd (true≢false (sym (stays x.pos m.in_reach m.loaded) ∙ sym (ap b (same_chunk_is c (chunk_of x.pos) h)) ∙ off))
      by false h = refl

    each : (xs : List Entry) → All (IsMadeBy W now e.pos) xs → AllByRecursion (λ x. same_chunk c (chunk_of x.pos) ≡ false) xs
    each [] h = tt
    each (x ∷ xs) h = (one x (All-head (IsMadeBy W now e.pos) x xs h), each xs (All-tail (IsMadeBy W now e.pos) x xs h))

  -- ---- the land after the turn

  at_inside : (q : Pos) → b (chunk_of q) ≡ true → (turn k now e.pos V).world.number q ≡ (turn k now e.pos W).world.number q
  at_inside q h = same.agree.same_number q (inl h)

  at_outside : (q : Pos) → b (chunk_of q) ≡ false → (turn k now e.pos W).world.number q ≡ w.at q
  at_outside q h = kept_whole.kept_number q (λ i. true≢false (sym (stays q i.0 i.1) ∙ h))

  part_outside : (q : Pos) → b (chunk_of q) ≡ false → (turn k now e.pos V).world.number q ≡ 0
  part_outside q h = kept_part.kept_number q (λ i. true≢false (sym i.1 ∙ is.loaded q ∙ rw h refl)) ∙ is.at q ∙ rw h refl

  lists_inside : (c : ChunkPos) → b c ≡ true → listed_all u.lists (turn k now e.pos V).made c ≡ listed_all w.lists made c
  lists_inside c h = ap (λ es. listed_all u.lists es c) same.same_made ∙ listed_at c made u.lists w.lists (is.lists c ∙ rw h refl)

  lists_outside : (c : ChunkPos) → b c ≡ false → listed_all w.lists made c ≡ w.lists c
  lists_outside c h = listed_elsewhere c made w.lists (made_inside c h)

  part_lists_outside : (c : ChunkPos) → b c ≡ false → listed_all u.lists (turn k now e.pos V).made c ≡ []
  part_lists_outside c h = ap (λ es. listed_all u.lists es c) same.same_made ∙ listed_elsewhere c made u.lists (made_inside c h) ∙ is.lists c ∙ rw h refl

  pub turned_whole : turned k now e.pos w ≡ with_part b (turned k now e.pos u) w
  turned_whole = λ i. record { height = w.height; chunks = w.chunks; at = λ q. at q i; lists = λ c. lists c i } where
    at : (q : Pos) → (turn k now e.pos W).world.number q ≡ cond (b (chunk_of q)) ((turn k now e.pos V).world.number q) (w.at q)
    at q = by (b (chunk_of q)) refl where
      by : (t : Bool) → b (chunk_of q) ≡ t → (turn k now e.pos W).world.number q ≡ cond t ((turn k now e.pos V).world.number q) (w.at q)
      by true h = sym (at_inside q h)
      by false h = at_outside q h

    lists : (c : ChunkPos) → listed_all w.lists made c ≡ cond (b c) (listed_all u.lists (turn k now e.pos V).made c) (w.lists c)
    lists c = by (b c) refl where
      by : (t : Bool) → b c ≡ t → listed_all w.lists made c ≡ cond t (listed_all u.lists (turn k now e.pos V).made c) (w.lists c)
      by true h = sym (lists_inside c h)
      by false h = lists_outside c h

  pub turned_inside : IsPart b (turned k now e.pos w) (turned k now e.pos u)
  turned_inside = record { loaded = is.loaded; at = at; lists = lists } where
    at : (q : Pos) → (turn k now e.pos V).world.number q ≡ cond (b (chunk_of q)) ((turn k now e.pos W).world.number q) 0
    at q = by (b (chunk_of q)) refl where
      by : (t : Bool) → b (chunk_of q) ≡ t → (turn k now e.pos V).world.number q ≡ cond t ((turn k now e.pos W).world.number q) 0
      by true h = at_inside q h
      by false h = part_outside q h

    lists : (c : ChunkPos) → listed_all u.lists (turn k now e.pos V).made c ≡ cond (b c) (listed_all w.lists made c) []
    lists c = by (b c) refl where
      by : (t : Bool) → b c ≡ t → listed_all u.lists (turn k now e.pos V).made c ≡ cond t (listed_all w.lists made c) []
      by true h = lists_inside c h
      by false h = part_lists_outside c h

-- what is not loaded stays air
pub air_after : (k : ℕ → Kind) (now : ℕ) (e : Entry) (w : Land ℕ) → IsAirOutside w → IsAirOutside (turned k now e.pos w)
air_after k now e w air q h = (turn_kept k now e.pos (cells_of w)).kept_number q (λ i. true≢false (sym i.1 ∙ h)) ∙ air q h
