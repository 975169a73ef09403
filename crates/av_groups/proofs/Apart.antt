-- Entries turned in a part of a land.
use Rattle.std.proofs.Common.{◌≡◌, ◌∙◌, ℕ, ◌&&◌, ◌||◌, List, [], ◌∷◌, ◌++◌, Bool, true, false, not, cond, if◌then◌else◌, refl, sym, ap, subst, All, filter}
use Rattle.std.proofs.lemmas.List.Elements.{All-head, All-tail}
use Rattle.av_types.specs.Positions.{chunk_of, is_block_of}
use Rattle.av_types.specs.declared.position.ChunkPos.{ChunkPos}
use Rattle.av_types.specs.declared.tick.Entry.{Entry}
use Rattle.av_cells.specs.declared.kind.Kind.{Kind}
use Rattle.av_types.proofs.SamePositions.{same_chunk_is}
use Rattle.av_cells.specs.Positions.{same_chunk}
use Rattle.av_land.specs.Land.{Land, has_chunk}
use Rattle.av_land.specs.Tick.{turned, turned_all}
use Rattle.av_groups.specs.Parts.{Chunks, IsPart, with_part, StaysIn, IsAirOutside, AreTurnedApart, TurnsStayInTheirPart}
use Rattle.av_groups.proofs.OneTurn.{turned_whole, turned_inside, air_after}

-- what is put over twice is what was put there last
over_twice : (b : Chunks) (u v w : Land ℕ) → with_part b u (with_part b v w) ≡ with_part b u w
over_twice b u v w = λ i. record { height = w.height; chunks = w.chunks; at = λ q. by (b (chunk_of q)) (u.at q) (v.at q) (w.at q) i; lists = λ c. by (b c) (u.lists c) (v.lists c) (w.lists c) i } where
  by : (t : Bool) {A : Type 0} (x y z : A) → cond t x (cond t y z) ≡ cond t x z
  by true x y z = refl
  by false x y z = refl

pub turned_apart : TurnsStayInTheirPart
turned_apart k now b [] w u air stays is = record { inside = is; whole = none } where
  none : w ≡ with_part b u w
  none = λ i. record { height = w.height; chunks = w.chunks; at = λ q. by (b (chunk_of q)) (u.at q) (w.at q) 0 (is.at q) i; lists = λ c. by (b c) (u.lists c) (w.lists c) [] (is.lists c) i } where
    by : (t : Bool) {A : Type 0} (x y z : A) → x ≡ cond t y z → y ≡ cond t x y
    by true x y z e = sym e
    by false x y z e = refl
turned_apart k now b (e ∷ es) w u air stays is =
    let here = All-head (StaysIn w b) e es stays in
    let rest : AreTurnedApart k now b es (turned k now e.pos w) (turned k now e.pos u) =
    turned_apart k now b es (turned k now e.pos w) (turned k now e.pos u) (air_after k now e w air) (All-tail (StaysIn w b) e es stays) (turned_inside k now b e w u air here is) in
    record {
      inside = rest.inside;
      whole =
          rest.whole
          ∙ ap (with_part b (turned_all k now es (turned k now e.pos u))) (turned_whole k now b e w u air here is)
          ∙ over_twice b (turned_all k now es (turned k now e.pos u)) (turned k now e.pos u) w;
    }

pub air_after_all : (k : ℕ → Kind) (now : ℕ) (es : List Entry) (w : Land ℕ) → IsAirOutside w → IsAirOutside (turned_all k now es w)
air_after_all k now [] w air = air
air_after_all k now (e ∷ es) w air = air_after_all k now es (turned k now e.pos w) (air_after k now e w air)

-- the same chunks are loaded after turns
pub stays_after : (k : ℕ → Kind) (now : ℕ) (b : Chunks) (es fs : List Entry) (w : Land ℕ) → All (StaysIn w b) fs → All (StaysIn (turned_all k now es w) b) fs
stays_after k now b [] fs w stays = stays
stays_after k now b (e ∷ es) fs w stays = stays_after k now b es fs (turned k now e.pos w) stays

pub turned_both : (k : ℕ → Kind) (now : ℕ) (es fs : List Entry) (w : Land ℕ) → turned_all k now (es ++ fs) w ≡ turned_all k now fs (turned_all k now es w)
turned_both k now [] fs w = refl
turned_both k now (e ∷ es) fs w = turned_both k now es fs (turned k now e.pos w)

-- these chunks of a land alone
abbrev pub part : Chunks → Land ℕ → Land ℕ
part b w = record { height = w.height; chunks = filter b w.chunks; at = λ p. if b (chunk_of p) then w.at p else 0; lists = λ c. if b c then w.lists c else [] }

has_part : (b : Chunks) (cs : List ChunkPos) (c : ChunkPos) → has_chunk (filter b cs) c ≡ b c && has_chunk cs c
has_part b [] c = none (b c) where
  none : (t : Bool) → false ≡ t && false
  none true = refl
  none false = refl
has_part b (d ∷ ds) c = by (b d) (same_chunk d c) refl refl (has_part b ds c) where
  by : (t s : Bool) → b d ≡ t → same_chunk d c ≡ s → has_chunk (filter b ds) c ≡ b c && has_chunk ds c
      → has_chunk (cond t (d ∷ filter b ds) (filter b ds)) c ≡ b c && (s || has_chunk ds c)
  by true true e f rest = rw (f, sym (ap b (same_chunk_is d c f)) ∙ e) refl
  by true false e f rest = rw f rest
  by false true e f rest = rest ∙ rw (sym (ap b (same_chunk_is d c f)) ∙ e) refl
  by false false e f rest = rest

pub part_is : (b : Chunks) (w : Land ℕ) → IsPart b w (part b w)
part_is b w = record { loaded = λ q. ap (λ t. t && is_block_of w.height q.y) (has_part b w.chunks (chunk_of q)) ∙ assoc (b (chunk_of q)) (has_chunk w.chunks (chunk_of q)) (is_block_of w.height q.y); at = λ q. refl; lists = λ c. refl } where
  assoc : (x y z : Bool) → (x && y) && z ≡ x && (y && z)
  assoc true y z = refl
  assoc false y z = refl

-- where the land was changed in other chunks, a part of it is one still
pub part_elsewhere : (a b : Chunks) (u v w : Land ℕ) → ((c : ChunkPos) → a c ≡ true → b c ≡ false) → IsPart a w u → IsPart a (with_part b v w) u
part_elsewhere a b u v w out is = record { loaded = is.loaded; at = λ q. is.at q ∙ by (a (chunk_of q)) (b (chunk_of q)) (out (chunk_of q)) (v.at q) (w.at q) 0; lists = λ c. is.lists c ∙ by (a c) (b c) (out c) (v.lists c) (w.lists c) [] } where
  by : (s t : Bool) → (s ≡ true → t ≡ false) → {A : Type 0} (x y z : A) → cond s y z ≡ cond s (cond t x y) z
  by true t h x y z = rw (h refl) refl
  by false t h x y z = refl

-- after turns in b, those in a
behind : (k : ℕ → Kind) (now : ℕ) (a b : Chunks) (es fs : List Entry) (w u v : Land ℕ) → ((c : ChunkPos) → a c ≡ true → b c ≡ false) → IsAirOutside w → All (StaysIn w b) es → All (StaysIn w a) fs
    → IsPart b w u → IsPart a w v → turned_all k now fs (turned_all k now es w) ≡ with_part a (turned_all k now fs v) (with_part b (turned_all k now es u) w)
behind k now a b es fs w u v out air stays others is_u is_v =
    let first : turned_all k now es w ≡ with_part b (turned_all k now es u) w = (turned_apart k now b es w u air stays is_u).whole in
    let still : IsPart a (turned_all k now es w) v = subst (λ x. IsPart a x v) (sym first) (part_elsewhere a b v (turned_all k now es u) w out is_v) in
    (turned_apart k now a fs (turned_all k now es w) v (air_after_all k now es w air) (stays_after k now a es fs w others) still).whole ∙ ap (with_part a (turned_all k now fs v)) first

-- the other chunks
abbrev off : Chunks → Chunks
off b c = not (b c)

-- two lists of entries, one in some chunks and one in the others, may be turned in either order
pub swapped : (k : ℕ → Kind) (now : ℕ) (b : Chunks) (es fs : List Entry) (w : Land ℕ) → IsAirOutside w → All (StaysIn w b) es → All (StaysIn w (λ c. not (b c))) fs
    → turned_all k now (es ++ fs) w ≡ turned_all k now (fs ++ es) w
swapped k now b es fs w air stays others =
    turned_both k now es fs w
    ∙ behind k now (off b) b es fs w (part b w) (part (off b) w) (λ c h. flip (b c) h) air stays others (part_is b w) (part_is (off b) w)
    ∙ over_each
    ∙ sym (turned_both k now fs es w ∙ behind k now b (off b) fs es w (part (off b) w) (part b w) (λ c h. flip_back (b c) h) air others stays (part_is (off b) w) (part_is b w))
  where
    X : Land ℕ
    X = turned_all k now es (part b w)

    Y : Land ℕ
    Y = turned_all k now fs (part (off b) w)

    flip : (t : Bool) → not t ≡ true → t ≡ false
    flip true h = sym h
    flip false h = refl

    flip_back : (t : Bool) → t ≡ true → not t ≡ false
    flip_back true h = refl
    flip_back false h = sym h

    over_each : with_part (off b) Y (with_part b X w) ≡ with_part b X (with_part (off b) Y w)
    over_each = λ i. record { height = w.height; chunks = w.chunks; at = λ q. by (b (chunk_of q)) (X.at q) (Y.at q) (w.at q) i; lists = λ c. by (b c) (X.lists c) (Y.lists c) (w.lists c) i } where
      by : (t : Bool) {A : Type 0} (x y z : A) → cond (not t) y (cond t x z) ≡ cond t x (cond (not t) y z)
      by true x y z = refl
      by false x y z = refl
