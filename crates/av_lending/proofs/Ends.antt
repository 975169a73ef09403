-- How a tick in groups begins, goes on and ends.
use Rattle.std.proofs.Common.{◌≡◌, ℕ, zero, suc, ◌+◌, ◌<◌, ◌≤◌, ◌&&◌, ◌||◌, ◌∷◌, [], List, length, map, get_or, Bool, true, false, cond, Option, Some, None, All, refl, sym, ap, subst, ◌∙◌, arith, ◌⊎◌, inl, inr}
use Rattle.std.proofs.lemmas.Bool.{true≢false, cases_lt, or_right}
use Rattle.std.proofs.lemmas.Option.{slice_get-get_or}
use Rattle.av_types.specs.Positions.{chunk_of, chunk_of_section, section_of, place_of, is_block_of}
use Rattle.av_types.specs.declared.position.Pos.{Pos}
use Rattle.av_types.specs.declared.position.ChunkPos.{ChunkPos}
use Rattle.av_types.specs.declared.position.SectionPos.{SectionPos}
use Rattle.av_types.proofs.SamePositions.{same_chunk_from}
use Rattle.av_rules.specs.Kinds.{kind_count}
use Rattle.av_cells.specs.Kinds.{kinds_of}
use Rattle.av_cells.specs.Positions.{same_chunk}
use Rattle.av_cells.specs.Grid.{is_here, number_in}
use Rattle.av_cells.specs.Rule.{HasKinds}
use Rattle.av_land.specs.Land.{has_chunk, is_loaded}
use Rattle.av_land.specs.Tick.{without_due}
use Rattle.av_world.specs.Index.{slot}
use Rattle.av_world.specs.Lands.{land_of}
use Rattle.av_world.specs.Lending.{IsTakenBack}
use Rattle.av_world.specs.Views.{grid, blocks, lists, height_of, positions_of}
use Rattle.av_world.specs.declared.worlds.World.{World}
use Rattle.av_groups.specs.Groups.{touched, NoneTouches}
use Rattle.av_groups.proofs.Added.{all_has}
use Rattle.av_lending.specs.declared.plans.Plan.{Plan}
use Rattle.av_lending.specs.Plans.{groups_of, kinds_in, start_of, after, stage_of, IsPlan, IsLentAfter, IsAtStage, IsUnderWay, IsFinished}
use Rattle.av_lending.specs.Brought.{IsBringing}
use Rattle.av_lending.proofs.After.{first_of, loaded_after, height_after_all, chunks_after_all}
use Rattle.av_lending.proofs.Chunks.{is_there, later, kept}
use Rattle.av_lending.proofs.Stages.{some_past}

-- ---- the beginning

abbrev value_or : Option ℕ → ℕ
value_or None = 0
value_or (Some m) = m

stage_zero : (stages : List (Option ℕ)) (i m : ℕ) → All (λ o. o ≡ Some 0) stages → get_or stages i None ≡ Some m → m ≡ 0
stage_zero stages i m zeros e = by (cases_lt i (length stages)) where
  by : (i < length stages) ⊎ (length stages ≤ i) → m ≡ 0
  by (inl l) = ap value_or (sym e ∙ zeros i None l)
  by (inr past) = absurd (some_past stages i m past e)

at_start : (p : Plan) → IsPlan p → (c : ChunkPos) → IsAtStage p 0 p.start.value c
at_start p is c = record { at = λ q e. refl; loaded = λ q e. ap (λ l. l q) is.ready.whole; list = refl }

pub begun : (p : Plan) → IsPlan p → (w : World) → p.start.value ≡ w → (stages : List (Option ℕ)) → All (λ o. o ≡ Some 0) stages → length stages ≡ length (positions_of w) → IsUnderWay p w stages
begun p is w start stages zeros long = subst (λ v. IsUnderWay p v stages) start (record {
  height_is = refl;
  positions_are = refl;
  broken_is = refl;
  long = long ∙ ap (λ v. length (positions_of v)) (sym start);
  numbers = is.ready.numbers;
  absent = λ c out. at_start p is c;
  known = λ c m e. subst (λ k. IsAtStage p k p.start.value c) (sym (stage_zero stages (slot (positions_of p.start.value) c) m zeros e)) (at_start p is c);
})

-- ---- what comes back

has_own : (ps : List ChunkPos) (k : ℕ) (d : ChunkPos) → k < length ps → has_chunk ps (get_or ps k d) ≡ true
has_own [] k d l = absurd (omega (arith, l))
has_own (c ∷ ps) zero d l = ap (λ t. t || has_chunk ps c) (same_chunk_from c c refl)
has_own (c ∷ ps) (suc k) d l = or_right (same_chunk c (get_or ps k d)) (has_chunk ps (get_or ps k d)) (has_own ps k d (omega (arith, l)))

module _ (p : Plan) (is : IsPlan p) (i : ℕ) (old new back : World) (stages : List (Option ℕ)) (way : IsUnderWay p old stages) (lent : IsLentAfter p i (i + 1) back) where
  there : (c : ChunkPos) → has_chunk (touched lent.group) c ≡ true → has_chunk (positions_of p.start.value) c ≡ true
  there c h = all_has (λ c. has_chunk (positions_of p.start.value) c ≡ true) (touched lent.group) c (is.groups.cut.each i lent.group lent.is).there h

  -- its chunks are chunks of the world
  pub back_there : All (λ c. slot (positions_of old) c < length (positions_of old)) (positions_of back)
  back_there k d l = subst (λ ps. slot ps (get_or (positions_of back) k d) < length ps) (sym way.positions_are)
      (is_there (positions_of p.start.value) (get_or (positions_of back) k d) (there (get_or (positions_of back) k d) (sym (lent.chunks (get_or (positions_of back) k d)) ∙ has_own (positions_of back) k d l)))

  pub back_height : height_of back ≡ height_of old
  back_height = lent.height_is ∙ sym way.height_is

  module _ (taken : IsTakenBack old new back) where
    at_is : (s : SectionPos) → grid new s ≡ cond (has_chunk (touched lent.group) (chunk_of_section s)) (grid back s) (grid old s)
    at_is s = taken.grid_is s ∙ ap (λ t. cond t (grid back s) (grid old s)) (lent.chunks (chunk_of_section s))

    stays : (m : ℕ) (c : ChunkPos) → has_chunk (touched lent.group) c ≡ false → IsAtStage p m old c → IsAtStage p m new c
    stays m c none was = kept p m old new c (λ s e. at_is s ∙ ap (λ t. cond t (grid back s) (grid old s)) (ap (has_chunk (touched lent.group)) e ∙ none)) (taken.lists_are c ∙ ap (λ t. cond t (lists back c) (lists old c)) (lent.chunks c ∙ none)) was

    comes : (c : ChunkPos) → has_chunk (touched lent.group) c ≡ true → IsAtStage p (i + 1) new c
    comes c h = kept p (i + 1) back new c (λ s e. at_is s ∙ ap (λ t. cond t (grid back s) (grid old s)) (ap (has_chunk (touched lent.group)) e ∙ h)) (taken.lists_are c ∙ ap (λ t. cond t (lists back c) (lists old c)) (lent.chunks c ∙ h))
        (record {
          at = λ q e. lent.part.at q ∙ ap (λ t. cond t ((after p (i + 1)).at q) 0) (ap (has_chunk (touched lent.group)) e ∙ h);
          loaded = λ q e. ap (λ l. l q) lent.ready.whole ∙ lent.part.loaded q ∙ ap (λ t. t && is_loaded (after p (i + 1)) q) (ap (has_chunk (touched lent.group)) e ∙ h) ∙ loaded_after p (i + 1) q;
          list = lent.part.lists c ∙ ap (λ t. cond t ((after p (i + 1)).lists c) []) h;
        })

    numbers : HasKinds (kind_count (kinds_in p)) (blocks new)
    numbers q here = subst (λ f. number_in f (place_of q) < kind_count (kinds_in p)) (sym (at_is (section_of q))) (by (has_chunk (touched lent.group) (chunk_of q)) (ap is_here (sym (at_is (section_of q))) ∙ here)) where
      by : (t : Bool) → is_here (cond t (grid back (section_of q)) (grid old (section_of q))) ≡ true → number_in (cond t (grid back (section_of q)) (grid old (section_of q))) (place_of q) < kind_count (kinds_in p)
      by true h = lent.ready.numbers q h
      by false h = way.numbers q h

    pub goes_on : (marked : List (Option ℕ)) → IsBringing (positions_of p.start.value) (touched lent.group) (Some (i + 1)) stages marked → IsUnderWay p new marked
    goes_on marked bringing = record {
      height_is = taken.height_is ∙ way.height_is;
      positions_are = taken.positions_are ∙ way.positions_are;
      broken_is = taken.broken_is ∙ way.broken_is;
      long = bringing.long;
      numbers = numbers;
      absent = λ c out. stays 0 c (not_touched c out) (way.absent c out);
      known = λ c m stage. by c m (bringing.came c m stage);
    } where
      not_touched : (c : ChunkPos) → has_chunk (positions_of p.start.value) c ≡ false → has_chunk (touched lent.group) c ≡ false
      not_touched c out = off (has_chunk (touched lent.group) c) (there c) where
        off : (t : Bool) → (t ≡ true → has_chunk (positions_of p.start.value) c ≡ true) → t ≡ false
        off true h = absurd (true≢false (sym (h refl) ∙ out))
        off false h = refl

      by : (c : ChunkPos) (m : ℕ) → ((has_chunk (touched lent.group) c ≡ true) × (Some (i + 1) ≡ Some m)) ⊎ ((has_chunk (touched lent.group) c ≡ false) × (stage_of (positions_of p.start.value) stages c ≡ Some m)) → IsAtStage p m new c
      by c m (inl (h, e)) = subst (λ k. IsAtStage p k new c) (ap value_or e) (comes c h)
      by c m (inr (h, e)) = stays m c h (way.known c m e)

-- ---- the end

stage_at : (last : List ℕ) (i : ℕ) → i < length last → get_or (map Some last) i None ≡ Some (get_or last i 0)
stage_at [] i l = absurd (omega (arith, l))
stage_at (m ∷ last) zero l = refl
stage_at (m ∷ last) (suc i) l = stage_at last i (omega (arith, l))

module _ (p : Plan) (is : IsPlan p) (w : World) (stages : List (Option ℕ)) (way : IsUnderWay p w stages) (all : stages ≡ map Some p.groups.value.last.items) where
  n : ℕ
  n = length (groups_of p)

  at_end : (c : ChunkPos) → IsAtStage p (length (groups_of p)) w c
  at_end c = by (has_chunk (positions_of p.start.value) c) refl where
    by : (t : Bool) → has_chunk (positions_of p.start.value) c ≡ t → IsAtStage p (length (groups_of p)) w c
    by true e =
        let ps = positions_of p.start.value in
        let last = p.groups.value.last.items in
        let below : slot ps c < length last = subst (λ k. slot ps c < k) (sym is.groups.cut.long) (is_there ps c e) in
        let m = get_or last (slot ps c) 0 in
        let behind = is.groups.cut.behind c m (slice_get-get_or last (slot ps c) 0 below) in later p is m (length (groups_of p)) w c (behind.0) (behind.1) (way.known c m (ap (λ xs. get_or xs (slot ps c) None) all ∙ stage_at last (slot ps c) below))
    by false e = later p is 0 (length (groups_of p)) w c (omega arith) untouched (way.absent c e) where
      untouched : NoneTouches (groups_of p) 0 (length (groups_of p)) c
      untouched j g from to at = off (has_chunk (touched g) c) (λ h. all_has (λ c. has_chunk (positions_of p.start.value) c ≡ true) (touched g) c (is.groups.cut.each j g at).there h) where
        off : (t : Bool) → (t ≡ true → has_chunk (positions_of p.start.value) c ≡ true) → t ≡ false
        off true h = absurd (true≢false (sym (h refl) ∙ e))
        off false h = refl

  loaded_is : (blocks w).loaded ≡ (blocks p.start.value).loaded
  loaded_is = λ j q. ((at_end (chunk_of q)).loaded q refl ∙ ap (λ l. l q) (sym is.ready.whole)) j

  pub finished : IsFinished p w
  finished = record {
    land_is = λ j. record {
      height = (way.height_is ∙ sym (height_after_all (kinds_of (kinds_in p)) p.tick (first_of p (length (groups_of p))) (without_due p.tick (start_of p)))) j;
      chunks = (way.positions_are ∙ sym (chunks_after_all (kinds_of (kinds_in p)) p.tick (first_of p (length (groups_of p))) (without_due p.tick (start_of p)))) j;
      at = λ q. (at_end (chunk_of q)).at q refl j;
      lists = λ c. (at_end c).list j;
    };
    ready = record { whole = λ j q. ((at_end (chunk_of q)).loaded q refl ∙ same_loaded q) j; numbers = way.numbers };
    chunks = record { site_is = λ j. record { height = Some (way.height_is j); chunks = way.positions_are j; broken = way.broken_is j }; loaded_is = loaded_is };
  } where
    same_loaded : (q : Pos) → is_loaded (start_of p) q ≡ is_loaded (land_of w) q
    same_loaded q = sym (λ j. has_chunk (way.positions_are j) (chunk_of q) && is_block_of (way.height_is j) q.y)
