-- Chunks of a world that are lent, stay or come back.
use Rattle.std.proofs.Common.{◌≡◌, ℕ, not, filter, ◌<◌, ◌≤◌, ◌&&◌, ◌||◌, ◌∷◌, [], List, length, map, get_or, slice_get, Bool, true, false, cond, Option, Some, None, All, refl, sym, ap, subst, ◌∙◌, ◌⊎◌, inl, inr}
use Rattle.std.proofs.lemmas.Bool.{true≢false, cases_lt}
use Rattle.std.proofs.lemmas.List.Elements.{All-head, All-tail}
use Rattle.std.proofs.lemmas.Option.{get_or_from_slice_get}
use Rattle.av_types.specs.Positions.{chunk_of, chunk_of_section, section_of, place_of, is_block_of}
use Rattle.av_types.specs.declared.position.Pos.{Pos}
use Rattle.av_types.specs.declared.position.ChunkPos.{ChunkPos}
use Rattle.av_types.specs.declared.position.SectionPos.{SectionPos}
use Rattle.av_types.proofs.SamePositions.{same_chunk_is}
use Rattle.av_ticks.specs.Entries.{is_due}
use Rattle.av_rules.specs.Kinds.{kind_count}
use Rattle.av_cells.specs.Positions.{same_chunk}
use Rattle.av_cells.specs.Grid.{is_here, number_in}
use Rattle.av_cells.specs.Rule.{HasKinds}
use Rattle.av_land.specs.Land.{has_chunk, is_loaded}
use Rattle.av_land.specs.Tick.{without_due}
use Rattle.av_world.specs.Index.{slot}
use Rattle.av_world.specs.Lands.{land_of, IsUncarved}
use Rattle.av_world.specs.Lending.{IsLent}
use Rattle.av_world.specs.Views.{grid, blocks, lists, height_of, positions_of}
use Rattle.av_world.specs.declared.worlds.World.{World}
use Rattle.av_world.proofs.ChunkReads.{has_chunk_past}
use Rattle.av_groups.specs.declared.groups.Group.{Group}
use Rattle.av_groups.specs.declared.groups.Touch.{Touch}
use Rattle.av_groups.specs.Groups.{touched, NoneTouches}
use Rattle.av_groups.specs.Parts.{IsPart}
use Rattle.av_groups.proofs.Added.{all_has}
use Rattle.av_lending.specs.declared.plans.Plan.{Plan}
use Rattle.av_lending.specs.Plans.{groups_of, kinds_in, start_of, after, stage_of, IsPlan, IsLentAfter, IsAtStage, IsUnderWay}
use Rattle.av_lending.specs.Brought.{IsNext, CameTo}
use Rattle.av_lending.proofs.After.{same_after, loaded_after, IsSameAt}
use Rattle.av_lending.proofs.Stages.{slot_is}

-- a chunk that is among those touched is that of a touch
touch_of : (P Q : Touch → Type 0) (ts : List Touch) (c : ChunkPos) → All P ts → All Q ts → has_chunk (map (λ t. t.chunk) ts) c ≡ true → (t : Touch) × (t.chunk ≡ c) × P t × Q t
touch_of P Q [] c ps qs h = absurd (true≢false (sym h))
touch_of P Q (t ∷ ts) c ps qs h = by (same_chunk t.chunk c) refl h (touch_of P Q ts c (All-tail P t ts ps) (All-tail Q t ts qs)) where
  by : (s : Bool) → same_chunk t.chunk c ≡ s → s || has_chunk (map (λ t. t.chunk) ts) c ≡ true → (has_chunk (map (λ t. t.chunk) ts) c ≡ true → (t : Touch) × (t.chunk ≡ c) × P t × Q t) → (t : Touch) × (t.chunk ≡ c) × P t × Q t
  by true e h rest = (t, same_chunk_is t.chunk c e, All-head P t ts ps, All-head Q t ts qs)
  by false e h rest = rest h

pub is_there : (ps : List ChunkPos) (c : ChunkPos) → has_chunk ps c ≡ true → slot ps c < length ps
is_there ps c h = by (cases_lt (slot ps c) (length ps)) where
  by : (slot ps c < length ps) ⊎ (length ps ≤ slot ps c) → slot ps c < length ps
  by (inl l) = l
  by (inr past) = absurd (true≢false (sym h ∙ has_chunk_past ps c past))

pub all_there : (ps cs : List ChunkPos) → All (λ c. has_chunk ps c ≡ true) cs → All (λ c. slot ps c < length ps) cs
all_there ps cs h k d l = is_there ps (get_or cs k d) (h k d l)

-- a stage later, where no group between touches the chunk
pub later : (p : Plan) → IsPlan p → (a b : ℕ) (w : World) (c : ChunkPos) → a ≤ b → NoneTouches (groups_of p) a b c → IsAtStage p a w c → IsAtStage p b w c
later p is a b w c up none was = let same : IsSameAt c (after p a) (after p b) = same_after p is a b c up none in record { at = λ q e. was.at q e ∙ same.at q e; loaded = was.loaded; list = was.list ∙ same.list }

-- a chunk whose sections and entries stay keeps its stage
pub kept : (p : Plan) (m : ℕ) (old new : World) (c : ChunkPos) → ((s : SectionPos) → chunk_of_section s ≡ c → grid new s ≡ grid old s) → lists new c ≡ lists old c → IsAtStage p m old c → IsAtStage p m new c
kept p m old new c sections list was = record {
  at = λ q e. ap (λ f. number_in f (place_of q)) (sections (section_of q) e) ∙ was.at q e;
  loaded = λ q e. ap is_here (sections (section_of q) e) ∙ was.loaded q e;
  list = ap (filter (λ e. not (is_due p.tick e))) list ∙ was.list;
}

-- ---- lending

-- what stands at the number of a group is the group
pub its_group : (gs : List Group) (i : ℕ) (g x : Group) → slice_get gs i ≡ Some g → x ≡ get_or gs i x → x ≡ g
its_group gs i g x at found = found ∙ get_or_from_slice_get gs i g x at

-- each chunk that the group touches is as its groups before it leave it, by where it stands among these
abbrev pub IsNextIn : List ChunkPos → List (Option ℕ) → Group → Type 0
IsNextIn ps stages g = All (λ t. stage_of ps stages t.chunk ≡ Some t.before) g.touches.items

pub next_in : (p : Plan) → IsPlan p → (i : ℕ) (g : Group) → slice_get (groups_of p) i ≡ Some g → (stages : List (Option ℕ)) → IsNext stages g → IsNextIn (positions_of p.start.value) stages g
next_in p is i g at stages next k d l = let t = get_or g.touches.items k d in ap (λ n. get_or stages n None) (slot_is p.start.value t.chunk t.index ((is.groups.cut.each i g at).own_index k d l)) ∙ next k d l

module _ (p : Plan) (is : IsPlan p) (i : ℕ) (g : Group) (at : slice_get (groups_of p) i ≡ Some g) (old new lent : World) (stages : List (Option ℕ)) (way : IsUnderWay p old stages) (next : IsNextIn (positions_of p.start.value) stages g)
    (l : IsLent old new lent) (has : (c : ChunkPos) → has_chunk (positions_of lent) c ≡ has_chunk (touched g) c) where
  -- the group's chunks are as the groups before it leave them
  staged : (c : ChunkPos) → has_chunk (touched g) c ≡ true → IsAtStage p i old c
  staged c h = by (touch_of (λ t. stage_of (positions_of p.start.value) stages t.chunk ≡ Some t.before) (λ t. (t.before ≤ i) × NoneTouches (groups_of p) t.before i t.chunk) g.touches.items c next (is.groups.cut.each i g at).behind h) where
    by : (t : Touch) × (t.chunk ≡ c) × (stage_of (positions_of p.start.value) stages t.chunk ≡ Some t.before) × ((t.before ≤ i) × NoneTouches (groups_of p) t.before i t.chunk) → IsAtStage p i old c
    by (t, e, stage, (up, none)) = subst (IsAtStage p i old) e (later p is t.before i old t.chunk up none (way.known t.chunk t.before stage))

  there : (c : ChunkPos) → has_chunk (touched g) c ≡ true → has_chunk (positions_of p.start.value) c ≡ true
  there c h = all_has (λ c. has_chunk (positions_of p.start.value) c ≡ true) (touched g) c (is.groups.cut.each i g at).there h

  lent_at : (q : Pos) → grid lent (section_of q) ≡ cond (has_chunk (touched g) (chunk_of q)) (grid old (section_of q)) None
  lent_at q = l.lent_grid (section_of q) ∙ ap (λ t. cond t (grid old (section_of q)) None) (has (chunk_of q))

  is_loaded_lent : (q : Pos) → is_loaded (land_of lent) q ≡ has_chunk (touched g) (chunk_of q) && is_block_of (height_of p.start.value) q.y
  is_loaded_lent q = ap (λ t. t && is_block_of (height_of lent) q.y) (has (chunk_of q)) ∙ ap (λ h. has_chunk (touched g) (chunk_of q) && is_block_of h q.y) (l.lent_height ∙ way.height_is)

  loaded_in : (q : Pos) → has_chunk (touched g) (chunk_of q) && is_block_of (height_of p.start.value) q.y ≡ has_chunk (touched g) (chunk_of q) && is_loaded (start_of p) q
  loaded_in q = by (has_chunk (touched g) (chunk_of q)) (there (chunk_of q)) where
    by : (t : Bool) → (t ≡ true → has_chunk (positions_of p.start.value) (chunk_of q) ≡ true) → t && is_block_of (height_of p.start.value) q.y ≡ t && is_loaded (start_of p) q
    by true h = sym (ap (λ t. t && is_block_of (height_of p.start.value) q.y) (h refl))
    by false h = refl

  part_of : IsPart (has_chunk (touched g)) (after p i) (without_due p.tick (land_of lent))
  part_of = record {
    loaded = λ q. is_loaded_lent q ∙ loaded_in q ∙ ap (λ t. has_chunk (touched g) (chunk_of q) && t) (sym (loaded_after p i q));
    at = λ q. ap (λ f. number_in f (place_of q)) (lent_at q) ∙ by_number q (has_chunk (touched g) (chunk_of q)) (staged (chunk_of q));
    lists = λ c. ap (filter (λ e. not (is_due p.tick e))) (l.lent_lists c ∙ ap (λ t. cond t (lists old c) []) (has c)) ∙ by_list c (has_chunk (touched g) c) (staged c);
  } where
    by_number : (q : Pos) (t : Bool) → (t ≡ true → IsAtStage p i old (chunk_of q)) → number_in (cond t (grid old (section_of q)) None) (place_of q) ≡ cond t ((after p i).at q) 0
    by_number q true s = (s refl).at q refl
    by_number q false s = refl

    by_list : (c : ChunkPos) (t : Bool) → (t ≡ true → IsAtStage p i old c) → filter (λ e. not (is_due p.tick e)) (cond t (lists old c) []) ≡ cond t ((after p i).lists c) []
    by_list c true s = (s refl).list
    by_list c false s = refl

  whole : IsUncarved lent
  whole = λ j q. (ap is_here (lent_at q) ∙ by q (has_chunk (touched g) (chunk_of q)) (staged (chunk_of q)) ∙ sym (is_loaded_lent q ∙ loaded_in q)) j where
    by : (q : Pos) (t : Bool) → (t ≡ true → IsAtStage p i old (chunk_of q)) → is_here (cond t (grid old (section_of q)) None) ≡ t && is_loaded (start_of p) q
    by q true s = (s refl).loaded q refl
    by q false s = refl

  numbers : HasKinds (kind_count (kinds_in p)) (blocks lent)
  numbers q here = subst (λ f. number_in f (place_of q) < kind_count (kinds_in p)) (sym (lent_at q)) (by (has_chunk (touched g) (chunk_of q)) (ap is_here (sym (lent_at q)) ∙ here)) where
    by : (t : Bool) → is_here (cond t (grid old (section_of q)) None) ≡ true → number_in (cond t (grid old (section_of q)) None) (place_of q) < kind_count (kinds_in p)
    by true h = way.numbers q h
    by false h = absurd (true≢false (sym h))

  pub given : IsLentAfter p i i lent
  given = record { group = g; is = at; chunks = has; part = part_of; height_is = l.lent_height ∙ way.height_is; ready = record { whole = whole; numbers = numbers } }

  left_at : (s : SectionPos) → grid new s ≡ cond (has_chunk (touched g) (chunk_of_section s)) None (grid old s)
  left_at s = l.left_grid s ∙ ap (λ t. cond t None (grid old s)) (has (chunk_of_section s))

  stays : (m : ℕ) (c : ChunkPos) → has_chunk (touched g) c ≡ false → IsAtStage p m old c → IsAtStage p m new c
  stays m c none was =
      kept p m old new c (λ s e. left_at s ∙ ap (λ t. cond t None (grid old s)) (ap (has_chunk (touched g)) e ∙ none)) (l.left_lists c ∙ ap (λ t. cond t [] (lists old c)) (has c ∙ none)) was

  pub still_under_way : (marked : List (Option ℕ)) → length marked ≡ length (positions_of p.start.value) → CameTo (positions_of p.start.value) (touched g) None stages marked → IsUnderWay p new marked
  still_under_way marked long came = record {
    height_is = l.height_is ∙ way.height_is;
    positions_are = l.positions_are ∙ way.positions_are;
    broken_is = l.broken_is ∙ way.broken_is;
    long = long;
    numbers = new_numbers;
    absent = λ c out. stays 0 c (not_touched c out) (way.absent c out);
    known = λ c m stage. by c m (came c m stage);
  } where
    new_numbers : HasKinds (kind_count (kinds_in p)) (blocks new)
    new_numbers q here = subst (λ f. number_in f (place_of q) < kind_count (kinds_in p)) (sym (left_at (section_of q))) (by (has_chunk (touched g) (chunk_of q)) (ap is_here (sym (left_at (section_of q))) ∙ here)) where
      by : (t : Bool) → is_here (cond t None (grid old (section_of q))) ≡ true → number_in (cond t None (grid old (section_of q))) (place_of q) < kind_count (kinds_in p)
      by true h = absurd (true≢false (sym h))
      by false h = way.numbers q h

    not_touched : (c : ChunkPos) → has_chunk (positions_of p.start.value) c ≡ false → has_chunk (touched g) c ≡ false
    not_touched c out = by (has_chunk (touched g) c) (there c) where
      by : (t : Bool) → (t ≡ true → has_chunk (positions_of p.start.value) c ≡ true) → t ≡ false
      by true h = absurd (true≢false (sym (h refl) ∙ out))
      by false h = refl

    some_none : (m : ℕ) → None ≡ Some m → ⊥
    some_none m e = true≢false (ap (λ (o : Option ℕ). is_none o) e) where
      is_none : Option ℕ → Bool
      is_none None = true
      is_none (Some m) = false

    by : (c : ChunkPos) (m : ℕ) → ((has_chunk (touched g) c ≡ true) × (None ≡ Some m)) ⊎ ((has_chunk (touched g) c ≡ false) × (stage_of (positions_of p.start.value) stages c ≡ Some m)) → IsAtStage p m new c
    by c m (inl (h, e)) = absurd (some_none m e)
    by c m (inr (h, e)) = stays m c h (way.known c m e)
