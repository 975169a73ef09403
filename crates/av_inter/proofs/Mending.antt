-- A parcel that comes back leaves the whole as it was.
use Rattle.std.proofs.Common.{◌≡◌, ℕ, Bool, true, false, cond, ◌&&◌, ◌||◌, List, Option, None, Some, ◌⊎◌, inl, inr, refl, sym, ap, ◌∙◌, length-set, slice_get, slice_set}
use Rattle.av_types.specs.Positions.{chunk_of, section_of}
use Rattle.av_types.specs.declared.position.Pos.{Pos}
use Rattle.av_types.specs.declared.position.ChunkPos.{ChunkPos}
use Rattle.av_types.specs.declared.position.SectionPos.{SectionPos}
use Rattle.av_types.specs.declared.position.Height.{Height}
use Rattle.av_types.specs.declared.tick.Made.{Made}
use Rattle.av_ticks.specs.Entries.{is_pending}
use Rattle.av_cells.specs.World.{World, Lists}
use Rattle.av_cells.specs.Grid.{among}
use Rattle.av_world.specs.OutOf.{mended}
use Rattle.av_play.specs.declared.event.DueEntry.{DueEntry}
use Rattle.av_play.specs.declared.event.Stage.{Stage}
use Rattle.av_play.specs.declared.event.Stage.TheVariants.{Ended}
use Rattle.av_play.specs.Play.{entries_of}
use Rattle.av_play.specs.Waiting.{is_among}
use Rattle.av_play.proofs.Lists.{at_set}
use Rattle.av_cluster.specs.Clusters.{sections_at}
use Rattle.av_inter.specs.Out.{Out}
use Rattle.av_inter.specs.Whole.{read, whole}
use Rattle.av_inter.specs.Lawful.{HasOut, is_home, is_ended, IsBlank, listed, IsCore}
use Rattle.av_inter.proofs.LookUps.{AreOff, read_off, read_other, read_rest}
use Rattle.av_inter.proofs.OneTurn.{only_one, own_read, new_by, new_from, new_to}

module _ (count : ℕ) (h : Height) (ps : List ChunkPos) (l : Lists) (rest : World) (secs : List (List SectionPos)) (parts : List (List DueEntry)) (stages : List Stage) (os : List (Option Out)) (made : List Made)
    (core : IsCore count h ps l rest secs parts stages os made) (blank_rest : (q : Pos) → rest.loaded q ≡ false → IsBlank rest q) (tied_rest : (q : Pos) → rest.loaded q ≡ true → rest.pending q ≡ is_pending q (l (chunk_of q)))
    (n : ℕ) (o : Out) (e : HasOut os n o) (held : Stage) (at : slice_get stages n ≡ Some held) where
  abbrev b : World
  b = o.blocks

  abbrev w : World
  w = whole os rest made

  abbrev after : List (Option Out)
  after = slice_set os n None

  abbrev new : World
  new = mended l b rest

  abbrev w' : World
  w' = whole after new made

  has : (m : ℕ) (p : Out) → HasOut after m p → (¬ (m ≡ n)) × HasOut os m p
  has m p d = by (at_set os n m (Some o) None e) where
    by : ((m ≡ n) × (slice_get after m ≡ Some None)) ⊎ ((¬ (m ≡ n)) × (slice_get after m ≡ slice_get os m)) → (¬ (m ≡ n)) × HasOut os m p
    by (inl g) = let f : Some (Some p) ≡ Some None = sym d ∙ g.1 in cc
    by (inr g) = (g.0, sym g.1 ∙ d)

  off : (q : Pos) → b.loaded q ≡ true → AreOff after q
  off q u m p d = by (p.blocks.loaded q) refl where
    by : (c : Bool) → p.blocks.loaded q ≡ c → c ≡ false
    by true v = absurd ((has m p d).0 (only_one count h ps l rest secs parts stages os made core blank_rest tied_rest n o e q u m p (has m p d).1 v))
    by false v = refl

  own : {X : Type 0} (f : World → Pos → X) (q : Pos) → b.loaded q ≡ true → read f os rest q ≡ f b q
  own f q u = own_read count h ps l rest secs parts stages os made core blank_rest tied_rest f n o e q u

  either : {A : Type 0} (q : Pos) → (b.loaded q ≡ true → A) → (b.loaded q ≡ false → A) → A
  either {A} q f g = by (b.loaded q) refl where
    by : (c : Bool) → b.loaded q ≡ c → A
    by true u = f u
    by false u = g u

  elsewhere : {X : Type 0} (f : World → Pos → X) (q : Pos) → f new q ≡ f rest q → b.loaded q ≡ false → read f after new q ≡ read f os rest q
  elsewhere f q s u = read_rest f after rest new q s ∙ read_other f os rest q n (Some o) None e u tt

  loaded_same : (q : Pos) → w'.loaded q ≡ w.loaded q
  loaded_same q =
      either q (λ u. read_off (λ v. v.loaded) after new q (off q u) ∙ ap (λ c. cond c true (rest.loaded q)) u ∙ sym (own (λ v. v.loaded) q u ∙ u))
      (λ u. elsewhere (λ v. v.loaded) q (ap (λ c. cond c true (rest.loaded q)) u) u)

  number_same : (q : Pos) → w'.number q ≡ w.number q
  number_same q =
      either q (λ u. read_off (λ v. v.number) after new q (off q u) ∙ ap (λ c. cond c (b.number q) (rest.number q)) u ∙ sym (own (λ v. v.number) q u))
      (λ u. elsewhere (λ v. v.number) q (ap (λ c. cond c (b.number q) (rest.number q)) u) u)

  pending_same : (q : Pos) → w'.pending q ≡ w.pending q
  pending_same q =
      either q
      (λ u. ap (λ c. cond (is_among q (entries_of made)) true c) (read_off (λ v. v.pending) after new q (off q u) ∙ ap (λ c. cond c (is_pending q (l (chunk_of q))) (rest.pending q)) u)
      ∙ absorb (is_among q (entries_of made)) (is_pending q (l (chunk_of q)))
      ∙ ap (λ c. cond (is_among q (entries_of made)) true c) (sym (own (λ v. v.pending) q u ∙ (core.out n o e).waits q u)))
      (λ u. ap (λ c. cond (is_among q (entries_of made)) true c) (elsewhere (λ v. v.pending) q (ap (λ c. cond c (is_pending q (l (chunk_of q))) (rest.pending q)) u) u))
    where
      absorb : (a x : Bool) → cond a true x ≡ cond a true (x || a)
      absorb true x = refl
      absorb false true = refl
      absorb false false = refl

  pub whole_same : w' ≡ w
  whole_same = λ i. record { loaded = λ q. loaded_same q i; number = λ q. number_same q i; pending = λ q. pending_same q i }

  pub core_mended : IsCore count h ps l new secs parts (slice_set stages n Ended) after made
  core_mended =
      record {
        counted = length-set os n None ∙ core.counted ∙ sym (length-set stages n Ended);
        back = λ m. back_at m (at_set os n m (Some o) None e) (at_set stages n m held Ended at);
        out = λ m p d. core.out m p (has m p d).1;
        away = λ m p q d a. away_at m p q d a;
        apart = core.apart;
        own = λ m y q c i u. core.own m y q c i (sym (loaded_same q) ∙ u);
        here = λ m y c. loaded_same y.entry.pos ∙ core.here m y c;
        within = λ q a. loaded_same q ∙ core.within q a;
        fresh = new_to (listed w' l) (entries_of made) (new_by (listed w' l) (listed w l) (entries_of made) (λ q. ap (λ c. c && is_pending q (l (chunk_of q))) (loaded_same q)) (new_from (listed w l) (entries_of made) core.fresh));
      }
    where
      back_at : (m : ℕ) → ((m ≡ n) × (slice_get after m ≡ Some None)) ⊎ ((¬ (m ≡ n)) × (slice_get after m ≡ slice_get os m))
          → ((m ≡ n) × (slice_get (slice_set stages n Ended) m ≡ Some Ended)) ⊎ ((¬ (m ≡ n)) × (slice_get (slice_set stages n Ended) m ≡ slice_get stages m)) → is_home (slice_get after m) ≡ is_ended (slice_get (slice_set stages n Ended) m)
      back_at m (inl g) (inl s) = ap is_home g.1 ∙ sym (ap is_ended s.1)
      back_at m (inl g) (inr s) = absurd (s.0 g.0)
      back_at m (inr g) (inl s) = absurd (g.0 s.0)
      back_at m (inr g) (inr s) = ap is_home g.1 ∙ core.back m ∙ ap is_ended (sym s.1)

      away_at : (m : ℕ) (p : Out) (q : Pos) → HasOut after m p → among (sections_at secs m) (section_of q) ≡ true → new.loaded q ≡ false
      away_at m p q d a =
          either q (λ u. absurd ((has m p d).0 (core.apart m n (section_of q) a (sym ((core.out n o e).inside q) ∙ u))))
          (λ u. ap (λ c. cond c true (rest.loaded q)) u ∙ core.away m p q (has m p d).1 a)
