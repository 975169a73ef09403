-- An entry turned in the parcel of its part is turned in the whole.
use Rattle.std.proofs.Common.{◌≡◌, ℕ, Bool, true, false, not, cond, ◌&&◌, ◌||◌, List, [], ◌∷◌, ◌++◌, length-set, Option, Some, ◌⊎◌, inl, inr, refl, sym, ap, ◌∙◌, subst, slice_get, slice_set, IsTrue}
use Rattle.std.specs.List.{Contains, All}
use Rattle.std.proofs.lemmas.Bool.{true≢false}
use Rattle.std.proofs.lemmas.List.Elements.{All-head, All-tail}
use Rattle.av_play.proofs.LandTurns.{listed_pending}
use Rattle.av_ticks.proofs.Lookup.{cond_neither}
use Rattle.av_types.specs.Positions.{chunk_of, section_of}
use Rattle.av_types.specs.declared.position.Pos.{Pos}
use Rattle.av_types.specs.declared.position.ChunkPos.{ChunkPos}
use Rattle.av_types.specs.declared.position.SectionPos.{SectionPos}
use Rattle.av_types.specs.declared.position.Height.{Height}
use Rattle.av_types.specs.declared.tick.Entry.{Entry}
use Rattle.av_types.specs.declared.tick.Made.{Made}
use Rattle.av_types.proofs.SamePositions.{same_pos_is, same_pos_back}
use Rattle.av_ticks.specs.Entries.{is_pending}
use Rattle.av_cells.specs.declared.kind.Kind.{Kind}
use Rattle.av_cells.specs.Positions.{InReach, same_pos}
use Rattle.av_cells.specs.World.{World, Lists, listed_all}
use Rattle.av_cells.specs.Grid.{among}
use Rattle.av_cells.specs.Turn.{Change, turn}
use Rattle.av_water.specs.Frame.{Agree, Same, Kept, InLoadedReach}
use Rattle.av_water.proofs.Inside.{turn_kept, turn_made}
use Rattle.av_world.specs.OutOf.{IsPartOf}
use Rattle.av_play.specs.declared.event.DueEntry.{DueEntry}
use Rattle.av_play.specs.declared.event.Stage.{Stage}
use Rattle.av_play.specs.Parts.{part_at}
use Rattle.av_play.specs.Play.{entries_of, labelled, made_by}
use Rattle.av_play.specs.Waiting.{is_among, AreNew}
use Rattle.av_play.proofs.Lists.{at_set}
use Rattle.av_play.proofs.Turns.{turn_within}
use Rattle.av_play.proofs.Waiting.{turn_waits, turn_fresh}
use Rattle.av_cluster.specs.Clusters.{sections_at}
use Rattle.av_inter.specs.Out.{Out}
use Rattle.av_inter.specs.Whole.{read, whole}
use Rattle.av_inter.specs.Lawful.{HasOut, is_home, is_ended, IsBlank, IsOut, listed, are_new, IsCore}
use Rattle.av_inter.specs.Turned.{Turns}
use Rattle.av_play.proofs.Labelling.{entries_of_append, entries_of_labelled}
use Rattle.av_inter.proofs.LookUps.{AreOff, read_off, read_own, read_other, which}

pub among_or : (q : Pos) (xs ys : List Entry) → is_among q (xs ++ ys) ≡ cond (is_among q xs) true (is_among q ys)
among_or q [] ys = refl
among_or q (x ∷ xs) ys = by (same_pos q x.pos) (among_or q xs ys) where
  by : (b : Bool) → is_among q (xs ++ ys) ≡ cond (is_among q xs) true (is_among q ys) → cond b true (is_among q (xs ++ ys)) ≡ cond (cond b true (is_among q xs)) true (is_among q ys)
  by true h = refl
  by false h = h

pub among_each : (P : Pos → Type 0) (q : Pos) (es : List Entry) → All (λ e. P e.pos) es → is_among q es ≡ true → P q
among_each P q [] h t = absurd (true≢false (sym t))
among_each P q (e ∷ es) h t = by (same_pos q e.pos) refl t (among_each P q es (All-tail (λ e. P e.pos) e es h)) where
  by : (b : Bool) → same_pos q e.pos ≡ b → cond b true (is_among q es) ≡ true → (is_among q es ≡ true → P q) → P q
  by true s u more = subst P (sym (same_pos_is q e.pos s)) (All-head (λ e. P e.pos) e es h)
  by false s u more = more u

pub new_by : (v w : World) (es : List Entry) → ((q : Pos) → v.pending q ≡ w.pending q) → AreNew w es → AreNew v es
new_by v w [] s h = tt
new_by v w (e ∷ es) s h = (s e.pos ∙ h.0, h.1, new_by v w es s h.2)

both_of : (a b c : Bool) → (not a && not b) && c ≡ true → (a ≡ false) × (b ≡ false) × (c ≡ true)
both_of true b c h = absurd (true≢false (sym h))
both_of false true c h = absurd (true≢false (sym h))
both_of false false c h = (refl, refl, h)

-- the test of entries that are new
pub new_from : (w : World) (es : List Entry) → are_new w es ≡ true → AreNew w es
new_from w [] h = tt
new_from w (e ∷ es) h = let n = both_of (w.pending e.pos) (is_among e.pos es) (are_new w es) h in (n.0, n.1, new_from w es n.2)

pub new_to : (w : World) (es : List Entry) → AreNew w es → are_new w es ≡ true
new_to w [] h = refl
new_to w (e ∷ es) h = λ i. (not (h.0 i) && not (h.1 i)) && new_to w es h.2 i

pub new_among : (w : World) (p : Pos) (es : List Entry) → AreNew w es → is_among p es ≡ true → w.pending p ≡ false
new_among w p [] n h = absurd (true≢false (sym h))
new_among w p (e ∷ es) n h = by (same_pos p e.pos) refl h (new_among w p es n.2) where
  by : (s : Bool) → same_pos p e.pos ≡ s → cond s true (is_among p es) ≡ true → (is_among p es ≡ true → w.pending p ≡ false) → w.pending p ≡ false
  by true s h more = ap w.pending (same_pos_is p e.pos s) ∙ n.0
  by false s h more = more h

-- new after es were made, and so new before
new_after : (w v : World) (es fs : List Entry) → AreNew w es → ((q : Pos) → v.pending q ≡ cond (is_among q es) true (w.pending q)) → AreNew v fs → AreNew w (es ++ fs)
new_after w v es fs h c g = join es h (λ q n. (cond_neither (is_among q es) (w.pending q) (sym (c q) ∙ n)).0) where
  drops : (fs : List Entry) → AreNew v fs → AreNew w fs
  drops [] g = tt
  drops (f ∷ fs) g = ((cond_neither (is_among f.pos es) (w.pending f.pos) (sym (c f.pos) ∙ g.0)).1, g.1, drops fs g.2)

  outside : (x : Entry) (fs : List Entry) → ((q : Pos) → v.pending q ≡ false → same_pos q x.pos ≡ false) → AreNew v fs → is_among x.pos fs ≡ false
  outside x [] o g = refl
  outside x (f ∷ fs) o g = ap (λ b. cond b true (is_among x.pos fs)) (same_pos_back f.pos x.pos (o f.pos g.0)) ∙ outside x fs o g.2

  join : (xs : List Entry) → AreNew w xs → ((q : Pos) → v.pending q ≡ false → is_among q xs ≡ false) → AreNew w (xs ++ fs)
  join [] h o = drops fs g
  join (x ∷ xs) h o = (
    h.0,
    among_or x.pos xs fs ∙ ap (λ b. cond b true (is_among x.pos fs)) h.1 ∙ outside x fs (λ q n. (cond_neither (same_pos q x.pos) (is_among q xs) (o q n)).0) g,
    join xs h.2 (λ q n. (cond_neither (same_pos q x.pos) (is_among q xs) (o q n)).1),
  )

first_of : (a b : Bool) → a || b ≡ false → a ≡ false
first_of true b h = absurd (true≢false h)
first_of false b h = refl

-- a part of a world is one after a turn too
part_after : (h : Height) (ps : List ChunkPos) (l : Lists) (b : World) (aside : Lists) → IsPartOf h ps l b aside → (k : ℕ → Kind) (now : ℕ) (p : Pos)
    → IsPartOf h ps l (turn k now p b).world (listed_all aside (turn k now p b).made)
part_after h ps l b aside i k now at =
    record {
      inside = λ p t. i.inside p (sym (loaded_is p) ∙ t);
      tied = λ p t. turn_waits k now at b p ∙ ap (λ c. cond (is_among p made) true c) (i.tied p (sym (loaded_is p) ∙ t)) ∙ both (is_among p made) (is_pending p (l (chunk_of p))) (is_pending p (aside (chunk_of p)))
          ∙ ap (λ c. is_pending p (l (chunk_of p)) || c) (sym (listed_pending p made aside));
      apart = λ p t e. by p (sym (loaded_is p) ∙ t) (is_among p made) refl (sym (listed_pending p made aside) ∙ e);
    }
  where
    made : List Entry
    made = (turn k now at b).made

    loaded_is : (p : Pos) → (turn k now at b).world.loaded p ≡ b.loaded p
    loaded_is p = ap (λ f. f p) (turn_kept k now at b).kept_loaded

    both : (m a c : Bool) → cond m true (a || c) ≡ a || cond m true c
    both true true c = refl
    both true false c = refl
    both false a c = refl

    by : (p : Pos) → IsTrue (b.loaded p) → (m : Bool) → is_among p made ≡ m → cond m true (is_pending p (aside (chunk_of p))) ≡ true → is_pending p (l (chunk_of p)) ≡ false
    by p t true m e = first_of (is_pending p (l (chunk_of p))) _ (sym (i.tied p t) ∙ new_among b p made (turn_fresh k b now at) m)
    by p t false m e = i.apart p t e

module _ (count : ℕ) (h : Height) (ps : List ChunkPos) (l : Lists) (rest : World) (secs : List (List SectionPos)) (parts : List (List DueEntry)) (stages : List Stage) (os : List (Option Out)) (made : List Made)
    (core : IsCore count h ps l rest secs parts stages os made) (blank_rest : (q : Pos) → rest.loaded q ≡ false → IsBlank rest q) (tied_rest : (q : Pos) → rest.loaded q ≡ true → rest.pending q ≡ is_pending q (l (chunk_of q))) where
  abbrev es : List Entry
  es = entries_of made

  abbrev w : World
  w = whole os rest made

  pub only_one : (n : ℕ) (o : Out) → HasOut os n o → (q : Pos) → o.blocks.loaded q ≡ true → (m : ℕ) (p : Out) → HasOut os m p → p.blocks.loaded q ≡ true → m ≡ n
  only_one n o e q t m p d u = core.apart m n (section_of q) (sym ((core.out m p d).inside q) ∙ u) (sym ((core.out n o e).inside q) ∙ t)

  pub own_read : {X : Type 0} (f : World → Pos → X) (n : ℕ) (o : Out) → HasOut os n o → (q : Pos) → o.blocks.loaded q ≡ true → read f os rest q ≡ f o.blocks q
  own_read f n o e q t = read_own f os rest q n o e t (only_one n o e q t)

  off_of : (q : Pos) → w.loaded q ≡ false → AreOff os q
  off_of q u n o e = by (o.blocks.loaded q) refl where
    by : (b : Bool) → o.blocks.loaded q ≡ b → b ≡ false
    by true t = absurd (true≢false (sym (own_read (λ v. v.loaded) n o e q t ∙ t) ∙ u))
    by false t = refl

  not_among : (q : Pos) → w.loaded q ≡ false → is_among q es ≡ false
  not_among q u = by (is_among q es) refl where
    by : (b : Bool) → is_among q es ≡ b → b ≡ false
    by true t = absurd (true≢false (sym (core.within q t) ∙ u))
    by false t = refl

  -- a block that is not loaded
  blank_whole : (q : Pos) → w.loaded q ≡ false → IsBlank w q
  blank_whole q u =
      let off = off_of q u in
      let r : IsBlank rest q = blank_rest q (sym (read_off (λ v. v.loaded) os rest q off) ∙ u) in
      record {
        number = read_off (λ v. v.number) os rest q off ∙ r.number;
        pending = ap (λ b. cond b true (read (λ v. v.pending) os rest q)) (not_among q u) ∙ read_off (λ v. v.pending) os rest q off ∙ r.pending;
      }

  -- what waits is what was put aside and what waits in the lists
  pub whole_waits : (q : Pos) → w.pending q ≡ cond (is_among q es) true ((listed w l).pending q)
  whole_waits q = by (which os q) where
    absorb : (a x b : Bool) → b ≡ true → cond a true (x || a) ≡ cond a true (b && x)
    absorb true x b e = refl
    absorb false true b e = sym (ap (λ c. c && true) e)
    absorb false false true e = refl
    absorb false false false e = refl

    of_rest : (b : Bool) → rest.loaded q ≡ b → rest.pending q ≡ b && is_pending q (l (chunk_of q))
    of_rest true e = tied_rest q e
    of_rest false e = (blank_rest q e).pending

    by : ((n : ℕ) × (o : Out) × HasOut os n o × (o.blocks.loaded q ≡ true)) ⊎ AreOff os q → w.pending q ≡ cond (is_among q es) true ((listed w l).pending q)
    by (inl (n, o, e, t)) =
        ap (λ b. cond (is_among q es) true b) (own_read (λ v. v.pending) n o e q t ∙ (core.out n o e).waits q t)
        ∙ absorb (is_among q es) (is_pending q (l (chunk_of q))) (w.loaded q) (own_read (λ v. v.loaded) n o e q t ∙ t)
    by (inr off) =
        ap (λ b. cond (is_among q es) true b) (read_off (λ v. v.pending) os rest q off ∙ of_rest (rest.loaded q) refl ∙ ap (λ b. b && is_pending q (l (chunk_of q))) (sym (read_off (λ v. v.loaded) os rest q off)))

  module _ (n : ℕ) (o : Out) (e : HasOut os n o) (x : DueEntry) (there : Contains (part_at parts n) x) (k : ℕ → Kind) (now : ℕ) (new : Out) (more : List Made) (t : Turns k now count x o new made more) where
    abbrev b : World
    b = o.blocks

    abbrev tb : Change
    tb = turn k now x.entry.pos b

    abbrev tw : Change
    tw = turn k now x.entry.pos w

    abbrev after : List (Option Out)
    after = slice_set os n (Some new)

    abbrev w' : World
    w' = whole after rest more

    abbrev R : Pos → Type 0
    R q = InReach x.entry.pos q ⊎ (b.loaded q ≡ true)

    mine : IsOut count h ps l made (sections_at secs n) o
    mine = core.out n o e

    not_loaded : (q : Pos) → InReach x.entry.pos q → b.loaded q ≡ false → w.loaded q ≡ false
    not_loaded q i f = by (w.loaded q) refl where
      by : (c : Bool) → w.loaded q ≡ c → c ≡ false
      by true u = absurd (true≢false (sym (mine.inside q ∙ core.own n x q there i u) ∙ f))
      by false u = refl

    at : (q : Pos) → R q → (b.loaded q ≡ true) ⊎ ((b.loaded q ≡ false) × (w.loaded q ≡ false))
    at q (inr u) = inl u
    at q (inl i) = by (b.loaded q) refl where
      by : (c : Bool) → b.loaded q ≡ c → (b.loaded q ≡ true) ⊎ ((b.loaded q ≡ false) × (w.loaded q ≡ false))
      by true u = inl u
      by false u = inr (u, not_loaded q i u)

    absorbed : (a y : Bool) → y || a ≡ cond a true (y || a)
    absorbed true true = refl
    absorbed true false = refl
    absorbed false y = refl

    agree : Agree R b w
    agree = record { same_loaded = λ q r. loaded q (at q r); same_number = λ q r. number q (at q r); same_pending = λ q r. pending q (at q r) } where
      loaded : (q : Pos) → (b.loaded q ≡ true) ⊎ ((b.loaded q ≡ false) × (w.loaded q ≡ false)) → b.loaded q ≡ w.loaded q
      loaded q (inl u) = sym (own_read (λ v. v.loaded) n o e q u)
      loaded q (inr f) = f.0 ∙ sym f.1

      number : (q : Pos) → (b.loaded q ≡ true) ⊎ ((b.loaded q ≡ false) × (w.loaded q ≡ false)) → b.number q ≡ w.number q
      number q (inl u) = sym (own_read (λ v. v.number) n o e q u)
      number q (inr f) = (mine.blank q f.0).number ∙ sym (blank_whole q f.1).number

      pending : (q : Pos) → (b.loaded q ≡ true) ⊎ ((b.loaded q ≡ false) × (w.loaded q ≡ false)) → b.pending q ≡ w.pending q
      pending q (inl u) =
          mine.waits q u ∙ absorbed (is_among q es) (is_pending q (l (chunk_of q))) ∙ ap (λ c. cond (is_among q es) true c) (sym (own_read (λ v. v.pending) n o e q u ∙ mine.waits q u))
      pending q (inr f) = (mine.blank q f.0).pending ∙ sym (blank_whole q f.1).pending

    same : Same R tb tw
    same = turn_within k now x.entry.pos R b w (λ q i. inl i) agree

    pub put_same : more ≡ made ++ made_by k now x w
    put_same = t.put ∙ ap (λ es. made ++ labelled x.index 0 es) same.same_made

    entries_more : entries_of more ≡ es ++ tb.made
    entries_more = ap entries_of t.put ∙ entries_of_append made (made_by k now x b) ∙ ap (λ ys. es ++ ys) (entries_of_labelled x.index 0 tb.made)

    kept_b : Kept (InLoadedReach b x.entry.pos) b tb.world
    kept_b = turn_kept k now x.entry.pos b

    kept_w : Kept (InLoadedReach w x.entry.pos) w tw.world
    kept_w = turn_kept k now x.entry.pos w

    loaded_kept : (q : Pos) → new.blocks.loaded q ≡ b.loaded q
    loaded_kept q = ap (λ (v : World). v.loaded q) t.blocks ∙ ap (λ f. f q) kept_b.kept_loaded

    has : (m : ℕ) (p : Out) → HasOut after m p → ((m ≡ n) × (p ≡ new)) ⊎ ((¬ (m ≡ n)) × HasOut os m p)
    has m p d = by (at_set os n m (Some o) (Some new) e) where
      by : ((m ≡ n) × (slice_get after m ≡ Some (Some new))) ⊎ ((¬ (m ≡ n)) × (slice_get after m ≡ slice_get os m)) → ((m ≡ n) × (p ≡ new)) ⊎ ((¬ (m ≡ n)) × HasOut os m p)
      by (inl g) = let f : Some (Some p) ≡ Some (Some new) = sym d ∙ g.1 in inl (g.0, cc)
      by (inr g) = inr (g.0, sym g.1 ∙ d)

    has_new : HasOut after n new
    has_new = by (at_set os n n (Some o) (Some new) e) where
      by : ((n ≡ n) × (slice_get after n ≡ Some (Some new))) ⊎ ((¬ (n ≡ n)) × (slice_get after n ≡ slice_get os n)) → HasOut after n new
      by (inl g) = g.1
      by (inr g) = absurd (g.0 refl)

    read_new : {X : Type 0} (f : World → Pos → X) (q : Pos) → b.loaded q ≡ true → read f after rest q ≡ f new.blocks q
    read_new f q u = read_own f after rest q n new has_new (loaded_kept q ∙ u) alone where
      alone : (m : ℕ) (p : Out) → HasOut after m p → p.blocks.loaded q ≡ true → m ≡ n
      alone m p d v = by (has m p d) where
        by : ((m ≡ n) × (p ≡ new)) ⊎ ((¬ (m ≡ n)) × HasOut os m p) → m ≡ n
        by (inl g) = g.0
        by (inr g) = only_one n o e q u m p g.1 v

    read_old : {X : Type 0} (f : World → Pos → X) (q : Pos) → b.loaded q ≡ false → read f after rest q ≡ read f os rest q
    read_old f q u = read_other f os rest q n (Some o) (Some new) e u (loaded_kept q ∙ u)

    either : {A : Type 0} (q : Pos) → (b.loaded q ≡ true → A) → (b.loaded q ≡ false → A) → A
    either {A} q f g = by (b.loaded q) refl where
      by : (c : Bool) → b.loaded q ≡ c → A
      by true u = f u
      by false u = g u

    loaded_same : (q : Pos) → w'.loaded q ≡ w.loaded q
    loaded_same q = either q (λ u. read_new (λ v. v.loaded) q u ∙ loaded_kept q ∙ sym (own_read (λ v. v.loaded) n o e q u)) (λ u. read_old (λ v. v.loaded) q u)

    number_is : (q : Pos) → w'.number q ≡ tw.world.number q
    number_is q =
        either q (λ u. read_new (λ v. v.number) q u ∙ ap (λ (v : World). v.number q) t.blocks ∙ same.agree.same_number q (inr u))
        (λ u. read_old (λ v. v.number) q u ∙ sym (kept_w.kept_number q (λ i. true≢false (sym i.1 ∙ not_loaded q i.0 u))))

    pending_is : (q : Pos) → w'.pending q ≡ tw.world.pending q
    pending_is q =
        ap (λ ys. cond (is_among q ys) true (read (λ v. v.pending) after rest q)) entries_more ∙ ap (λ c. cond c true (read (λ v. v.pending) after rest q)) (among_or q es tb.made)
        ∙ either q (λ u. ap (λ c. cond (cond (is_among q es) true (is_among q tb.made)) true c) (read_new (λ v. v.pending) q u ∙ ap (λ (v : World). v.pending q) t.blocks ∙ turn_waits k now x.entry.pos b q)
        ∙ twice (is_among q es) (is_among q tb.made) (b.pending q) ∙ ap (λ c. cond (is_among q tb.made) true (cond (is_among q es) true c)) (sym (own_read (λ v. v.pending) n o e q u)))
        (λ u. ap (λ c. cond (cond (is_among q es) true (is_among q tb.made)) true c) (read_old (λ v. v.pending) q u) ∙ once (is_among q es) (is_among q tb.made) (read (λ v. v.pending) os rest q))
        ∙ ap (λ ys. cond (is_among q ys) true (w.pending q)) same.same_made ∙ sym (turn_waits k now x.entry.pos w q)
      where
        twice : (a m r : Bool) → cond (cond a true m) true (cond m true r) ≡ cond m true (cond a true r)
        twice true true r = refl
        twice true false r = refl
        twice false true r = refl
        twice false false r = refl

        once : (a m r : Bool) → cond (cond a true m) true r ≡ cond m true (cond a true r)
        once true true r = refl
        once true false r = refl
        once false true r = refl
        once false false r = refl

    pub world_is : w' ≡ tw.world
    world_is = λ i. record { loaded = λ q. (loaded_same q ∙ sym (ap (λ f. f q) kept_w.kept_loaded)) i; number = λ q. number_is q i; pending = λ q. pending_is q i }

    made_here : (q : Pos) → is_among q tb.made ≡ true → b.loaded q ≡ true
    made_here q a = among_each (λ q. b.loaded q ≡ true) q tb.made (λ j d u. (turn_made k now x.entry.pos b j d u).loaded) a

    out_new : IsOut count h ps l more (sections_at secs n) new
    out_new =
        record {
          inside = λ q. loaded_kept q ∙ mine.inside q;
          part = subst (λ v. IsPartOf h ps l v new.aside) (sym t.blocks) (subst (λ a. IsPartOf h ps l tb.world a) (sym t.aside) (part_after h ps l b o.aside mine.part k now x.entry.pos));
          waits = λ q u. ap (λ (v : World). v.pending q) t.blocks ∙ turn_waits k now x.entry.pos b q ∙ ap (λ c. cond (is_among q tb.made) true c) (mine.waits q (sym (loaded_kept q) ∙ u))
              ∙ joins (is_among q tb.made) (is_pending q (l (chunk_of q))) (is_among q es) ∙ ap (λ c. is_pending q (l (chunk_of q)) || c) (sym (ap (is_among q) entries_more ∙ among_or q es tb.made));
          blank = λ q u. let f : b.loaded q ≡ false = sym (loaded_kept q) ∙ u in let z = mine.blank q f in
              record {
                number = ap (λ (v : World). v.number q) t.blocks ∙ kept_b.kept_number q (λ i. true≢false (sym i.1 ∙ f)) ∙ z.number;
                pending = ap (λ (v : World). v.pending q) t.blocks ∙ kept_b.kept_pending q (λ i. true≢false (sym i.1 ∙ f)) ∙ z.pending;
              };
          known = t.known;
        }
      where
        joins : (m y a : Bool) → cond m true (y || a) ≡ y || cond a true m
        joins true true a = refl
        joins true false true = refl
        joins true false false = refl
        joins false true a = refl
        joins false false true = refl
        joins false false false = refl

    out_other : (m : ℕ) (p : Out) → ¬ (m ≡ n) → HasOut os m p → IsOut count h ps l more (sections_at secs m) p
    out_other m p f d =
        let i = core.out m p d in
        record {
          inside = i.inside;
          part = i.part;
          waits = λ q u. i.waits q u ∙ ap (λ c. is_pending q (l (chunk_of q)) || c) (sym (ap (is_among q) entries_more ∙ among_or q es tb.made ∙ drop (is_among q es) (is_among q tb.made) (none q u)));
          blank = i.blank;
          known = i.known;
        }
      where
        drop : (a m : Bool) → m ≡ false → cond a true m ≡ a
        drop true m e = refl
        drop false m e = e

        none : (q : Pos) → p.blocks.loaded q ≡ true → is_among q tb.made ≡ false
        none q u = by (is_among q tb.made) refl where
          by : (c : Bool) → is_among q tb.made ≡ c → c ≡ false
          by true a = absurd (f (only_one n o e q (made_here q a) m p d u))
          by false a = refl

    pub core_turned : IsCore count h ps l rest secs parts stages after more
    core_turned =
        record {
          counted = length-set os n (Some new) ∙ core.counted;
          back = λ m. back_at m (at_set os n m (Some o) (Some new) e);
          out = λ m p d. out_at m p (has m p d);
          away = λ m p q d a. away_at m p q a (has m p d);
          apart = core.apart;
          own = λ m y q c i u. core.own m y q c i (sym (loaded_same q) ∙ u);
          here = λ m y c. loaded_same y.entry.pos ∙ core.here m y c;
          within = λ q a. loaded_same q ∙ within_at q (is_among q es) refl (sym (ap (is_among q) entries_more ∙ among_or q es tb.made) ∙ a);
          fresh = new_to (listed w' l) (entries_of more) (new_by (listed w' l) (listed w l) (entries_of more) (λ q. ap (λ c. c && is_pending q (l (chunk_of q))) (loaded_same q))
              (subst (AreNew (listed w l)) (ap (λ ys. es ++ ys) (sym same.same_made) ∙ sym entries_more) (new_after (listed w l) w es tw.made (new_from (listed w l) es core.fresh) whole_waits (turn_fresh k w now x.entry.pos))));
        }
      where
        back_at : (m : ℕ) → ((m ≡ n) × (slice_get after m ≡ Some (Some new))) ⊎ ((¬ (m ≡ n)) × (slice_get after m ≡ slice_get os m)) → is_home (slice_get after m) ≡ is_ended (slice_get stages m)
        back_at m (inl g) = ap is_home g.1 ∙ sym (ap is_home (ap (slice_get os) g.0 ∙ e)) ∙ core.back m
        back_at m (inr g) = ap is_home g.1 ∙ core.back m

        out_at : (m : ℕ) (p : Out) → ((m ≡ n) × (p ≡ new)) ⊎ ((¬ (m ≡ n)) × HasOut os m p) → IsOut count h ps l more (sections_at secs m) p
        out_at m p (inl g) = subst (λ r. IsOut count h ps l more (sections_at secs m) r) (sym g.1) (subst (λ j. IsOut count h ps l more (sections_at secs j) new) (sym g.0) out_new)
        out_at m p (inr g) = out_other m p g.0 g.1

        away_at : (m : ℕ) (p : Out) (q : Pos) → among (sections_at secs m) (section_of q) ≡ true → ((m ≡ n) × (p ≡ new)) ⊎ ((¬ (m ≡ n)) × HasOut os m p) → rest.loaded q ≡ false
        away_at m p q a (inl g) = core.away n o q e (subst (λ j. among (sections_at secs j) (section_of q) ≡ true) g.0 a)
        away_at m p q a (inr g) = core.away m p q g.1 a

        within_at : (q : Pos) (a : Bool) → is_among q es ≡ a → cond a true (is_among q tb.made) ≡ true → w.loaded q ≡ true
        within_at q true f u = core.within q f
        within_at q false f u = let m = made_here q u in own_read (λ v. v.loaded) n o e q m ∙ m
