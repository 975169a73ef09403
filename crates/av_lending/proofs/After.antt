-- The land after some groups of a tick.
use Rattle.std.proofs.Common.{◌≡◌, ℕ, zero, suc, ◌+◌, ◌-◌, ◌<◌, ◌≤◌, ◌++◌, ◌∷◌, [], List, length, take, get_or, slice_get, Bool, false, cond, Option, Some, None, All, refl, sym, ap, subst, ◌∙◌, arith, ◌⊎◌, inl, inr}
use Rattle.std.proofs.lemmas.Bool.{true≢false, cases_lt}
use Rattle.std.proofs.lemmas.List.{take_more, take_all}
use Rattle.std.proofs.lemmas.Option.{slice_get-get_or, slice_get_within, get_or_from_slice_get}
use Rattle.std.proofs.lemmas.Grind.{flat_map-append}
use Rattle.std.specs.List.{flat_map}
use Rattle.av_types.specs.Positions.{chunk_of, section_of, place_of}
use Rattle.av_types.specs.declared.position.Pos.{Pos}
use Rattle.av_types.specs.declared.position.ChunkPos.{ChunkPos}
use Rattle.av_types.specs.declared.tick.Entry.{Entry}
use Rattle.av_rules.specs.declared.kinds.Kinds.{Kinds}
use Rattle.av_cells.specs.Kinds.{kinds_of}
use Rattle.av_cells.specs.declared.kind.Kind.{Kind}
use Rattle.av_cells.specs.Grid.{Filling, is_here, number_in}
use Rattle.av_land.specs.Land.{Land, has_chunk, is_loaded}
use Rattle.av_land.specs.Idle.{NothingDue}
use Rattle.av_land.specs.Tick.{turned, turned_all, without_due}
use Rattle.av_land.proofs.Later.{nothing_due_after, nothing_left}
use Rattle.av_world.specs.Lands.{land_of, IsUncarved}
use Rattle.av_world.specs.Views.{grid}
use Rattle.av_world.specs.declared.worlds.World.{World}
use Rattle.av_groups.specs.declared.groups.Group.{Group}
use Rattle.av_groups.specs.Groups.{entries_in, touched, NoneTouches}
use Rattle.av_groups.specs.Parts.{with_part, StaysIn, IsAirOutside}
use Rattle.av_groups.proofs.Apart.{turned_apart, turned_both, air_after_all, stays_after, part, part_is}
use Rattle.av_lending.specs.declared.plans.Plan.{Plan}
use Rattle.av_lending.specs.Plans.{groups_of, entries_of, kinds_in, start_of, after, IsPlan}

-- the entries of groups
abbrev pub all_in : List Entry → List Group → List Entry
all_in es gs = flat_map (entries_in es) gs

-- those of the first m groups of a plan
abbrev pub first_of : Plan → ℕ → List Entry
first_of p m = all_in (entries_of p) (take m (groups_of p))

entries_more : (es : List Entry) (gs : List Group) (m : ℕ) (g : Group) → slice_get gs m ≡ Some g → all_in es (take (m + 1) gs) ≡ all_in es (take m gs) ++ entries_in es g
entries_more es gs m g is =
    ap (all_in es) (take_more gs m g (slice_get_within gs m g is) ∙ ap (λ h. take m gs ++ h ∷ []) (get_or_from_slice_get gs m g g is))
    ∙ flat_map-append (entries_in es) (take m gs) (g ∷ [])
    ∙ ap (λ xs. all_in es (take m gs) ++ xs) (none (entries_in es g))
  where
    none : (es : List Entry) → es ++ [] ≡ es
    none [] = refl
    none (e ∷ es) = ap (λ l. e ∷ l) (none es)

pub after_next : (p : Plan) (m : ℕ) (g : Group) → slice_get (groups_of p) m ≡ Some g → after p (m + 1) ≡ turned_all (kinds_of (kinds_in p)) p.tick (entries_in (entries_of p) g) (after p m)
after_next p m g is = ap (λ es. turned_all (kinds_of (kinds_in p)) p.tick es (without_due p.tick (start_of p))) (entries_more (entries_of p) (groups_of p) m g is) ∙ turned_both (kinds_of (kinds_in p)) p.tick (first_of p m) (entries_in (entries_of p) g) (without_due p.tick (start_of p))

pub after_past : (p : Plan) (m : ℕ) → length (groups_of p) ≤ m → after p (m + 1) ≡ after p m
after_past p m past = ap (λ gs. turned_all (kinds_of (kinds_in p)) p.tick (all_in (entries_of p) gs) (without_due p.tick (start_of p))) (take_all (m + 1) (groups_of p) (omega (arith, past)) ∙ sym (take_all m (groups_of p) past))

-- what all groups leave is what their entries leave
pub all_turned : (k : Kinds) (now : ℕ) (w : World) (es : List Entry) (p : Plan) → IsPlan p → p.tick ≡ now → p.kinds.value ≡ k → p.start.value ≡ w → entries_of p ≡ es
    → after p (length (groups_of p)) ≡ turned_all (kinds_of k) now es (without_due now (land_of w))
all_turned k now w es p is tick kinds start entries = λ i. turned_all (kinds_of (kinds i)) (tick i) (all i) (without_due (tick i) (land_of (start i))) where
  all : first_of p (length (groups_of p)) ≡ es
  all = ap (all_in (entries_of p)) (take_all (length (groups_of p)) (groups_of p) (omega arith)) ∙ is.groups.entries_are ∙ entries

-- ---- what turns leave as it is

loaded_after_all : (k : ℕ → Kind) (now : ℕ) (es : List Entry) (w : Land ℕ) (q : Pos) → is_loaded (turned_all k now es w) q ≡ is_loaded w q
loaded_after_all k now [] w q = refl
loaded_after_all k now (e ∷ es) w q = loaded_after_all k now es (turned k now e.pos w) q

pub height_after_all : (k : ℕ → Kind) (now : ℕ) (es : List Entry) (w : Land ℕ) → (turned_all k now es w).height ≡ w.height
height_after_all k now [] w = refl
height_after_all k now (e ∷ es) w = height_after_all k now es (turned k now e.pos w)

pub chunks_after_all : (k : ℕ → Kind) (now : ℕ) (es : List Entry) (w : Land ℕ) → (turned_all k now es w).chunks ≡ w.chunks
chunks_after_all k now [] w = refl
chunks_after_all k now (e ∷ es) w = chunks_after_all k now es (turned k now e.pos w)

pub loaded_after : (p : Plan) (m : ℕ) (q : Pos) → is_loaded (after p m) q ≡ is_loaded (start_of p) q
loaded_after p m q = loaded_after_all (kinds_of (kinds_in p)) p.tick (first_of p m) (without_due p.tick (start_of p)) q

pub air_outside : (w : World) → IsUncarved w → IsAirOutside (land_of w)
air_outside w whole q out = by (grid w (section_of q)) (ap (λ l. l q) whole ∙ out) where
  by : (o : Option Filling) → is_here o ≡ false → number_in o (place_of q) ≡ 0
  by None h = refl
  by (Some f) h = absurd (true≢false h)

pub air_after : (p : Plan) → IsPlan p → (m : ℕ) → IsAirOutside (after p m)
air_after p is m = air_after_all (kinds_of (kinds_in p)) p.tick (first_of p m) (without_due p.tick (start_of p)) (air_outside p.start.value is.ready.whole)

pub stay_after : (p : Plan) → IsPlan p → (m i : ℕ) (g : Group) → slice_get (groups_of p) i ≡ Some g → All (StaysIn (after p m) (has_chunk (touched g))) (entries_in (entries_of p) g)
stay_after p is m i g at = stays_after (kinds_of (kinds_in p)) p.tick (has_chunk (touched g)) (first_of p m) (entries_in (entries_of p) g) (without_due p.tick (start_of p)) (is.groups.cut.each i g at).stay

-- what was due has left
pub none_due_after : (p : Plan) (m : ℕ) → NothingDue p.tick (after p m)
none_due_after p m = nothing_due_after (kinds_of (kinds_in p)) p.tick (first_of p m) (without_due p.tick (start_of p)) (nothing_left p.tick (start_of p))

-- ---- a chunk that groups do not touch

pub record IsSameAt (c : ChunkPos) (v w : Land ℕ) : Type 0 where
  pub at : (q : Pos) → chunk_of q ≡ c → v.at q ≡ w.at q
  pub list : v.lists c ≡ w.lists c

untouched : (p : Plan) → IsPlan p → (m : ℕ) (g : Group) (c : ChunkPos) → slice_get (groups_of p) m ≡ Some g → has_chunk (touched g) c ≡ false → IsSameAt c (after p m) (after p (m + 1))
untouched p is m g c at none = record {
  at = λ q e. sym (ap (λ (v : Land ℕ). v.at q) whole ∙ ap (λ b. cond b (left.at q) ((after p m).at q)) (ap (has_chunk (touched g)) e ∙ none));
  list = sym (ap (λ (v : Land ℕ). v.lists c) whole ∙ ap (λ b. cond b (left.lists c) ((after p m).lists c)) none);
} where
  b : ChunkPos → Bool
  b = has_chunk (touched g)

  left : Land ℕ
  left = turned_all (kinds_of (kinds_in p)) p.tick (entries_in (entries_of p) g) (part (has_chunk (touched g)) (after p m))

  whole : after p (m + 1) ≡ with_part (has_chunk (touched g)) left (after p m)
  whole = after_next p m g at ∙ (turned_apart (kinds_of (kinds_in p)) p.tick (has_chunk (touched g)) (entries_in (entries_of p) g) (after p m) (part (has_chunk (touched g)) (after p m)) (air_after p is m) (stay_after p is m m g at) (part_is (has_chunk (touched g)) (after p m))).whole

one_step : (p : Plan) → IsPlan p → (m : ℕ) (c : ChunkPos) → ((g : Group) → slice_get (groups_of p) m ≡ Some g → has_chunk (touched g) c ≡ false) → IsSameAt c (after p m) (after p (m + 1))
one_step p is m c none = by (groups_of p) refl (cases_lt m (length (groups_of p))) where
  by : (gs : List Group) → groups_of p ≡ gs → (m < length (groups_of p)) ⊎ (length (groups_of p) ≤ m) → IsSameAt c (after p m) (after p (m + 1))
  by [] e (inl l) = absurd (omega (arith, l, ap length e))
  by (h ∷ hs) e (inl l) = let at = slice_get-get_or (groups_of p) m h l in untouched p is m (get_or (groups_of p) m h) c at (none (get_or (groups_of p) m h) at)
  by gs e (inr past) = record { at = λ q d. sym (ap (λ (v : Land ℕ). v.at q) (after_past p m past)); list = sym (ap (λ (v : Land ℕ). v.lists c) (after_past p m past)) }

over : (c : ChunkPos) (u v w : Land ℕ) → IsSameAt c u v → IsSameAt c v w → IsSameAt c u w
over c u v w a b = record { at = λ q e. a.at q e ∙ b.at q e; list = a.list ∙ b.list }

steps : (p : Plan) → IsPlan p → (n a : ℕ) (c : ChunkPos) → NoneTouches (groups_of p) a (n + a) c → IsSameAt c (after p a) (after p (n + a))
steps p is zero a c none = subst (λ k. IsSameAt c (after p a) (after p k)) (omega arith) (record { at = λ q e. refl; list = refl })
steps p is (suc n) a c none =
    let before = steps p is n a c (λ j g from to at. none j g from (omega (arith, to)) at) in
    let here = one_step p is (n + a) c (λ g at. none (n + a) g (omega arith) (omega arith) at) in
    over c (after p a) (after p (n + a)) (after p (suc n + a)) before (subst (λ k. IsSameAt c (after p (n + a)) (after p k)) (omega arith) here)

-- where none of the groups from a to b touches a chunk, it is the same after a and after b of them
pub same_after : (p : Plan) → IsPlan p → (a b : ℕ) (c : ChunkPos) → a ≤ b → NoneTouches (groups_of p) a b c → IsSameAt c (after p a) (after p b)
same_after p is a b c up none = subst (λ k. IsSameAt c (after p a) (after p k)) back (steps p is (b - a) a c (λ j g from to at. none j g from (omega (arith, to, back)) at)) where
  back : (b - a) + a ≡ b
  back = omega (arith, up)
