-- Every lawful list of events leaves what each part's own turns leave, and in the end what the tick of one thread leaves.
use Rattle.std.proofs.Common.{◌≡◌, ℕ, nat_eq, Bool, true, false, List, [], ◌∷◌, take, filter, slice_get, Option, Some, None, ◌⊎◌, inl, inr, refl, sym, ap, ◌∙◌, subst, IsTrue}
use Rattle.std.specs.List.{AllByRecursion, Contains}
use Rattle.std.specs.Ordering.{is_lt}
use Rattle.std.specs.List.Sorted.{ties}
use Rattle.std.proofs.lemmas.Bool.{true≢false, eqb-true, eq-eqb}
use Rattle.std.proofs.lemmas.List.Elements.{All-contains, All-from_recursion}
use Rattle.std.proofs.Math.Seq.{take-length}
use Rattle.av_types.specs.declared.position.Pos.{Pos}
use Rattle.av_types.specs.declared.position.SectionPos.{SectionPos}
use Rattle.av_types.specs.Positions.{section_of}
use Rattle.av_types.specs.declared.tick.Entry.{Entry}
use Rattle.av_types.specs.declared.tick.Made.{Made}
use Rattle.av_cells.specs.declared.kind.Kind.{Kind}
use Rattle.av_cells.specs.World.{World, Lists, listed_all}
use Rattle.av_ticks.specs.Entries.{made_order}
use Rattle.av_types.specs.Order.{ordered}
use Rattle.av_ticks.proofs.EntryOrder.{made_laws}
use Rattle.av_types.proofs.OrderLemmas.{sorted_is_ordered}
use Rattle.av_water.specs.Frame.{Agree, InLoadedReach, AreApart, Commute, SameCells}
use Rattle.av_water.proofs.Apart.{apart_commute, loaded_reach_or}
use Rattle.av_land.specs.Land.{Land, cells_of}
use Rattle.av_cells.specs.Sets.{Set}
use Rattle.av_land.specs.Tick.{ticked}
use Rattle.av_play.specs.declared.event.DueEntry.{DueEntry}
use Rattle.av_play.specs.declared.event.Stage.{Stage}
use Rattle.av_play.specs.declared.event.Event.{Event}
use Rattle.av_play.specs.declared.event.Stage.TheVariants.{Ended}
use Rattle.av_play.specs.Partition.{numbered, InTerritory, ShareSection, IsPlan, IsOfPart, part_at}
use Rattle.av_play.specs.Play.{in_order, labelled, world_after, made_after, State, start, AreLawful, play, AllBack, entries_of, gathered, outcome}
use Rattle.av_play.specs.Laws.{IsAfterEvents, EntriesCommute, done_of, done_in, IsAsAlone}
use Rattle.av_play.specs.Ticks.{opened, due_in, outcome_of}
use Rattle.av_play.proofs.LandTurns.{turned_in_order}
use Rattle.av_play.proofs.Lists.{kept, each_chosen, chosen_twice, none_chosen, search_each}
use Rattle.av_play.proofs.Projection.{chosen, IsFree, SetsApart, Projects, project, after_loaded}
use Rattle.av_play.proofs.Trace.{known_all, of_part, IsTraced, play_traced, start_traced}
use Rattle.av_play.proofs.Merge.{made_sorted, same_maker, in_order_is}

-- territories that share no section are apart
pub unshared_apart : {S : Type 0} (division : Pos → S) (w : World) (p q : Pos) → ¬ ShareSection division w p q → AreApart w p q
unshared_apart division w p q h r i j l =
    h (record { section = division r; first = record { block = r; in_reach = i; loaded = l; lies = refl }; second = record { block = r; in_reach = j; loaded = l; lies = refl } })

same_world : (v w : World) → SameCells v w → v ≡ w
same_world v w s = λ i. record { loaded = λ q. s.same_loaded q tt i; number = λ q. s.same_number q tt i; pending = λ q. s.same_pending q tt i }

pub unshared_commute : {S : Type 0} (division : Pos → S) (k : ℕ → Kind) (now : ℕ) (x y : DueEntry) (w : World) → ¬ ShareSection division w x.entry.pos y.entry.pos → EntriesCommute k now x y w
unshared_commute division k now x y w h =
    let c : Commute k now x.entry.pos y.entry.pos w = apart_commute k now x.entry.pos y.entry.pos w (unshared_apart division w x.entry.pos y.entry.pos h) in
    record {
      same_world = same_world _ _ c.same_cells;
      same_first = ap (labelled x.index 0) c.same_first;
      same_second = ap (labelled y.index 0) c.same_second;
    }

stable_number : (a b : ℕ) → (¬ (a ≡ b) → ⊥) → a ≡ b
stable_number a b h = by (nat_eq a b) refl where
  by : (c : Bool) → nat_eq a b ≡ c → a ≡ b
  by true e = eqb-true a b e
  by false e = absurd (h (λ g. true≢false (sym (ap (nat_eq a) (sym g) ∙ eq-eqb a a refl) ∙ e)))

pub stable_test : (a b : Bool) → (¬ (a ≡ b) → ⊥) → a ≡ b
stable_test true true h = refl
stable_test true false h = absurd (h true≢false)
stable_test false true h = absurd (h (λ e. true≢false (sym e)))
stable_test false false h = refl

module _ {S : Type 0} (division : Pos → S) (w : World) (entries : List Entry) (parts : List (List DueEntry)) (plan : IsPlan division w entries parts) where
  abbrev all : List DueEntry
  all = numbered 0 entries

  abbrev own : ℕ → ℕ → Bool
  own n i = nat_eq (plan.part_of i) n

  of_part_is : (n : ℕ) (x : DueEntry) → Contains (part_at parts n) x → (nat_eq (plan.part_of x.index) n ≡ true) × Contains all x
  of_part_is n x c =
      All-contains (λ y. (nat_eq (plan.part_of y.index) n ≡ true) × Contains all y) (of_part plan.part_of n all) x
      (All-from_recursion _ _ (each_chosen (Contains all) (λ y. nat_eq (plan.part_of y.index) n) all (known_all all)))
      (subst (λ l. Contains l x) (plan.each n) c)

  -- entries of two parts share no section
  unshared : (x y : DueEntry) → Contains all x → Contains all y → ¬ (plan.part_of x.index ≡ plan.part_of y.index) → ¬ ShareSection division w x.entry.pos y.entry.pos
  unshared x y cx cy f s = f ((plan.together x y cx cy).1 (record { between = []; links = s }))

  parts_apart : (n : ℕ) → SetsApart w all (own n)
  parts_apart n = record { apart = λ x y cx cy hx hy. unshared_apart division w x.entry.pos y.entry.pos (unshared x y cx cy (λ e. true≢false (sym hx ∙ ap (λ i. nat_eq i n) e ∙ hy))) }

  none_apart : SetsApart w all (λ i. false)
  none_apart = record { apart = λ x y cx cy hx hy. absurd (true≢false (sym hx)) }

  -- no section lies in two parts' territories
  pub share_nothing : (m n : ℕ) (s : S) → ¬ (m ≡ n) → IsOfPart division w (part_at parts m) s → IsOfPart division w (part_at parts n) s → ⊥
  share_nothing m n s f a b =
      let ka = of_part_is m a.owner a.there in
      let kb = of_part_is n b.owner b.there in
      f (sym (eqb-true _ _ ka.0) ∙ (plan.together a.owner b.owner ka.1 kb.1).1 (record { between = []; links = record { section = s; first = a.territory; second = b.territory } }) ∙ eqb-true _ _ kb.0)

  free_in_part : (n : ℕ) (q : Pos) → IsOfPart division w (part_at parts n) (division q) → IsFree w all (own n) q
  free_in_part n q o =
      let ko = of_part_is n o.owner o.there in
      record {
        free = λ y cy hy i. unshared o.owner y ko.1 cy (λ e. true≢false (sym ko.0 ∙ ap (λ j. nat_eq j n) e ∙ hy))
            (record { section = division q; first = o.territory; second = record { block = q; in_reach = i.0; loaded = i.1; lies = refl } });
      }

  in_own_part : (y : DueEntry) → Contains all y → Contains (part_at parts (plan.part_of y.index)) y
  in_own_part y c = subst (λ l. Contains l y) (sym (plan.each (plan.part_of y.index))) (kept (λ x. nat_eq (plan.part_of x.index) (plan.part_of y.index)) all y (eq-eqb (plan.part_of y.index) (plan.part_of y.index) refl) c)

  free_elsewhere : (q : Pos) → ((n : ℕ) → ¬ IsOfPart division w (part_at parts n) (division q)) → IsFree w all (λ i. false) q
  free_elsewhere q f =
      record { free = λ y cy hy i. f (plan.part_of y.index) (record { owner = y; there = in_own_part y cy; territory = record { block = q; in_reach = i.0; loaded = i.1; lies = refl } }) }

  agree_itself : (R : Pos → Type 0) → Agree R w w
  agree_itself R = record { same_loaded = λ q r. refl; same_number = λ q r. refl; same_pending = λ q r. refl }

  projected : (k : ℕ → Kind) (now : ℕ) (n : ℕ) (es : List DueEntry) → AllByRecursion (Contains all) es → Projects k now (own n) (IsFree w all (own n)) w w es (chosen (own n) es)
  projected k now n es among = project k now w all (own n) (parts_apart n) es among w w refl refl (agree_itself (IsFree w all (own n)))

  -- what each block is where no entry writes it
  untouched : (k : ℕ → Kind) (now : ℕ) (q : Pos) → IsFree w all (λ i. false) q → (es : List DueEntry) → AllByRecursion (Contains all) es → Agree (λ r. r ≡ q) (world_after k now es w) w
  untouched k now q f es among =
      let o : Projects k now (λ i. false) (IsFree w all (λ i. false)) w w es (chosen (λ i. false) es) = project k now w all (λ i. false) none_apart es among w w refl refl (agree_itself (IsFree w all (λ i. false))) in
      let at : (r : Pos) → r ≡ q → IsFree w all (λ i. false) r = λ r e. subst (IsFree w all (λ i. false)) (sym e) f in
      record {
        same_loaded = λ r e. o.cells.same_loaded r (at r e) ∙ ap (λ l. (world_after k now l w).loaded r) (none_chosen es);
        same_number = λ r e. o.cells.same_number r (at r e) ∙ ap (λ l. (world_after k now l w).number r) (none_chosen es);
        same_pending = λ r e. o.cells.same_pending r (at r e) ∙ ap (λ l. (world_after k now l w).pending r) (none_chosen es);
      }

  among_part : (n : ℕ) → AllByRecursion (Contains all) (part_at parts n)
  among_part n = subst (AllByRecursion (Contains all)) (sym (plan.each n)) (seconds (of_part plan.part_of n all) (each_chosen (Contains all) (λ y. nat_eq (plan.part_of y.index) n) all (known_all all))) where
    seconds : (xs : List DueEntry) → AllByRecursion (λ y. (nat_eq (plan.part_of y.index) n ≡ true) × Contains all y) xs → AllByRecursion (Contains all) xs
    seconds [] h = tt
    seconds (x ∷ xs) h = (h.0.1, seconds xs h.1)

  -- where each part's sections are as its own entries alone leave them, the world is that after the tick
  module _ (k : ℕ → Kind) (now : ℕ) (v : World) (made : List Made) (h : IsAsAlone division k now w parts plan.part_of (part_at parts) v made) where
    -- what one reads of a world at a block
    same_read : {A : Type 0} (read : World → Pos → A) → ((R : Pos → Type 0) (a b : World) → Agree R a b → (q : Pos) → R q → read a q ≡ read b q)
        → ((a b : A) → (¬ (a ≡ b) → ⊥) → a ≡ b) → (q : Pos) → read v q ≡ read (world_after k now all w) q
    same_read {A} read same stable q = by (search_each (Contains all) (λ x. InLoadedReach w x.entry.pos q) (λ x. loaded_reach_or w x.entry.pos q) all (known_all all)) where
      by : ((x : DueEntry) × Contains all x × InLoadedReach w x.entry.pos q) ⊎ AllByRecursion (λ x. ¬ InLoadedReach w x.entry.pos q) all → read v q ≡ read (world_after k now all w) q
      by (inl g) =
          let n : ℕ = plan.part_of g.0.index in
          let o : IsOfPart division w (part_at parts n) (division q) = record { owner = g.0; there = in_own_part g.0 g.1; territory = record { block = q; in_reach = g.2.0; loaded = g.2.1; lies = refl } } in
          same _ v (world_after k now (part_at parts n) w) (h.sections n) q o
          ∙ ap (λ l. read (world_after k now l w) q) (plan.each n)
          ∙ sym (same _ _ _ (projected k now n all (known_all all)).cells q (free_in_part n q o))
      by (inr g) =
          let f : IsFree w all (λ i. false) q = record { free = λ y cy hy. All-contains (λ x. ¬ InLoadedReach w x.entry.pos q) all y (All-from_recursion _ _ g) cy } in
          stable _ _ (λ differ. differ (same _ v w h.elsewhere q (λ n o. differ (same _ v (world_after k now (part_at parts n) w) (h.sections n) q o ∙ same _ _ w (untouched k now q f (part_at parts n) (among_part n)) q refl ∙ sym (same _ _ w (untouched k now q f all (known_all all)) q refl)))
          ∙ sym (same _ _ w (untouched k now q f all (known_all all)) q refl)))

    pub whole_world : v ≡ world_after k now all w
    whole_world =
        λ i. record {
          loaded = (h.loaded ∙ sym (after_loaded k now all w)) i;
          number = λ q. same_read (λ u r. u.number r) (λ R a b e r o. e.same_number r o) stable_number q i;
          pending = λ q. same_read (λ u r. u.pending r) (λ R a b e r o. e.same_pending r o) stable_test q i;
        }

    same_ties : (z : Made) → filter (ties (λ x y. is_lt (made_order x y)) z) (made_after k now all w) ≡ filter (ties (λ x y. is_lt (made_order x y)) z) made
    same_ties z =
        let n : ℕ = plan.part_of z.maker in
        let t : Made → Bool = ties (λ x y. is_lt (made_order x y)) z in
        let b : Made → Bool = λ m. nat_eq (plan.part_of m.maker) n in
        let inner : (m : Made) → t m ≡ true → b m ≡ true = λ m e. ap (λ i. nat_eq (plan.part_of i) n) (sym (same_maker z m e)) ∙ eq-eqb n n refl in
        sym (chosen_twice t b inner (made_after k now all w))
        ∙ ap (filter t) ((projected k now n all (known_all all)).made ∙ ap (λ l. made_after k now l w) (sym (plan.each n)) ∙ sym (h.put_aside n))
        ∙ chosen_twice t b inner made

    pub merged : ordered made_order made ≡ made_after k now all w
    merged = sym (sorted_is_ordered made_order made_laws made (made_after k now all w) (made_sorted k now entries w) same_ties)

    pub gathers_whole : (lists : Lists) → gathered v lists made ≡ in_order k now entries w lists
    gathers_whole lists = (λ i. record { world = whole_world i; lists = listed_all lists (entries_of (merged i)) }) ∙ sym (in_order_is k now 0 entries w lists)

  -- turns in which each part's own stand in the part's order
  alone_of : (k : ℕ → Kind) (now : ℕ) (es : List DueEntry) → AllByRecursion (Contains all) es → (done : ℕ → List DueEntry) → ((n : ℕ) → of_part plan.part_of n es ≡ done n) → IsAsAlone division k now w parts plan.part_of done (world_after k now es w) (made_after k now es w)
  alone_of k now es among done progress =
      let p : (n : ℕ) → Projects k now (own n) (IsFree w all (own n)) w w es (chosen (own n) es) = λ n. projected k now n es among in
      let o : Projects k now (λ i. false) (IsFree w all (λ i. false)) w w es (chosen (λ i. false) es) = project k now w all (λ i. false) none_apart es among w w refl refl (agree_itself (IsFree w all (λ i. false))) in
      record {
        loaded = after_loaded k now es w;
        sections = λ n. record {
          same_loaded = λ q h. (p n).cells.same_loaded q (free_in_part n q h) ∙ ap (λ l. (world_after k now l w).loaded q) (progress n);
          same_number = λ q h. (p n).cells.same_number q (free_in_part n q h) ∙ ap (λ l. (world_after k now l w).number q) (progress n);
          same_pending = λ q h. (p n).cells.same_pending q (free_in_part n q h) ∙ ap (λ l. (world_after k now l w).pending q) (progress n);
        };
        put_aside = λ n. (p n).made ∙ ap (λ l. made_after k now l w) (progress n);
        elsewhere = record {
          same_loaded = λ q h. o.cells.same_loaded q (free_elsewhere q h) ∙ ap (λ l. (world_after k now l w).loaded q) (none_chosen es);
          same_number = λ q h. o.cells.same_number q (free_elsewhere q h) ∙ ap (λ l. (world_after k now l w).number q) (none_chosen es);
          same_pending = λ q h. o.cells.same_pending q (free_elsewhere q h) ∙ ap (λ l. (world_after k now l w).pending q) (none_chosen es);
        };
      }

  alone : (k : ℕ → Kind) (now : ℕ) (lists : Lists) (s : State) (es : List DueEntry) → IsTraced k now w lists all parts plan.part_of s es → IsAsAlone division k now w parts plan.part_of (done_in parts s) s.world s.made
  alone k now lists s es t =
      subst (λ v. IsAsAlone division k now w parts plan.part_of (done_in parts s) v s.made) (sym t.world)
      (subst (λ l. IsAsAlone division k now w parts plan.part_of (done_in parts s) (world_after k now es w) l) (sym t.made)
      (alone_of k now es t.among (done_in parts s) t.progress))

  whole : (part : List DueEntry) (g : Option Stage) → ((x : Stage) → g ≡ Some x → x ≡ Ended) → take (done_of part g) part ≡ part
  whole part None h = take-length part
  whole part (Some x) h = ap (λ y. take (done_of part (Some y)) part) (h x refl) ∙ take-length part

  -- the tick in its own order is such a world too
  pub alone_after : (k : ℕ → Kind) (now : ℕ) → IsAsAlone division k now w parts plan.part_of (part_at parts) (world_after k now all w) (made_after k now all w)
  alone_after k now = alone_of k now all (known_all all) (part_at parts) (λ n. sym (plan.each n))

  -- what is of a part is so from the start, since no event loads a block
  from_start : (part : List DueEntry) (x : S) (v : World) → v.loaded ≡ w.loaded → IsOfPart division v part x → IsOfPart division w part x
  from_start part x v e o =
      let t : InTerritory division v o.owner.entry.pos x = o.territory in
      record { owner = o.owner; there = o.there; territory = record { block = t.block; in_reach = t.in_reach; loaded = subst (λ f. IsTrue (f t.block)) e t.loaded; lies = t.lies } }

  -- what holds after every lawful list
  pub as_alone : (k : ℕ → Kind) (now : ℕ) (lists : Lists) (events : List Event) → AreLawful k now parts (start w lists parts) events
      → IsAfterEvents division k now w lists parts plan.part_of (play k now parts (start w lists parts) events)
  as_alone k now lists events lawful =
      let traced = play_traced k now w lists all parts plan.part_of plan.each events (start w lists parts) [] (start_traced k now w lists all parts plan.part_of plan.each) lawful in
      let s : State = play k now parts (start w lists parts) events in
      let own : IsAsAlone division k now w parts plan.part_of (done_in parts s) s.world s.made = alone k now lists s traced.0 traced.1 in
      record {
        apart = λ m n x f g h o i. share_nothing m n x f (from_start (part_at parts m) x s.world own.loaded o) (from_start (part_at parts n) x s.world own.loaded i);
        alone = own;
        lists_same = traced.1.lists_same;
      }

  ended : (k : ℕ → Kind) (now : ℕ) (lists : Lists) (s : State) → IsAfterEvents division k now w lists parts plan.part_of s → AllBack s → outcome s ≡ in_order k now entries w lists
  ended k now lists s h back =
      let all_done : done_in parts s ≡ part_at parts = λ i n. whole (part_at parts n) (slice_get s.stages n) (back n) i in
      ap (λ l. gathered s.world l s.made) h.lists_same ∙ gathers_whole k now s.world s.made (subst (λ d. IsAsAlone division k now w parts plan.part_of d s.world s.made) all_done h.alone) lists

  -- every lawful list that brings all parts back
  pub gives_whole : (k : ℕ → Kind) (now : ℕ) (lists : Lists) (events : List Event) → AreLawful k now parts (start w lists parts) events → AllBack (play k now parts (start w lists parts) events)
      → outcome (play k now parts (start w lists parts) events) ≡ in_order k now entries w lists
  gives_whole k now lists events lawful back = ended k now lists (play k now parts (start w lists parts) events) (as_alone k now lists events lawful) back

-- no section of a chunk lies in two parts' territories
pub parts_share_nothing : (w : World) (entries : List Entry) (parts : List (List DueEntry)) → IsPlan section_of w entries parts → (m n : ℕ) (s : SectionPos) → ¬ (m ≡ n)
    → IsOfPart section_of w (part_at parts m) s → IsOfPart section_of w (part_at parts n) s → ⊥
parts_share_nothing = share_nothing section_of

-- from the opened tick of a land, that is the tick
pub gives_tick : {S : Type 0} (division : Pos → S) (k : ℕ → Kind) (now : ℕ) (edits : List (Set ℕ)) (w : Land ℕ) (parts : List (List DueEntry)) → IsPlan division (cells_of (opened k now edits w)) (due_in k now edits w) parts → (events : List Event)
    → AreLawful k now parts (start (cells_of (opened k now edits w)) (opened k now edits w).lists parts) events
    → AllBack (play k now parts (start (cells_of (opened k now edits w)) (opened k now edits w).lists parts) events)
    → outcome (play k now parts (start (cells_of (opened k now edits w)) (opened k now edits w).lists parts) events) ≡ outcome_of (ticked k now edits w)
gives_tick division k now edits w parts plan events lawful back =
    let v : Land ℕ = opened k now edits w in
    gives_whole division (cells_of v) (due_in k now edits w) parts plan k now v.lists events lawful back ∙ turned_in_order k now (due_in k now edits w) v
