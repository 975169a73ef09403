-- Who holds a part, and what an event leaves of a core.
use Rattle.std.proofs.Common.{◌≡◌, ℕ, zero, suc, ◌<◌, nat_eq, Bool, true, false, cond, List, [], ◌∷◌, ◌++◌, length, get_or, slice_get, slice_set, Option, None, Some, refl, sym, ap, ◌∙◌, arith}
use Rattle.std.specs.List.{Contains}
use Rattle.std.proofs.lemmas.Bool.{true≢false, eqb-true, eq-eqb}
use Rattle.std.proofs.lemmas.List.{length-map}
use Rattle.std.proofs.lemmas.Option.{slice_get_within, get_or_from_slice_get}
use Rattle.av_world.proofs.Corners.{reach_self}
use Rattle.av_types.specs.Positions.{chunk_of}
use Rattle.av_types.specs.declared.position.Pos.{Pos}
use Rattle.av_types.specs.declared.position.ChunkPos.{ChunkPos}
use Rattle.av_types.specs.declared.position.SectionPos.{SectionPos}
use Rattle.av_types.specs.declared.position.Height.{Height}
use Rattle.av_types.specs.declared.tick.Made.{Made}
use Rattle.av_ticks.specs.Entries.{is_pending}
use Rattle.av_cells.specs.World.{World, Lists}
use Rattle.av_cells.specs.declared.kind.Kind.{Kind}
use Rattle.av_world.specs.declared.parcels.Parcel.{Parcel}
use Rattle.av_play.specs.declared.event.DueEntry.{DueEntry}
use Rattle.av_play.specs.declared.event.Stage.{Stage}
use Rattle.av_play.specs.declared.event.Stage.TheVariants.{Waits, Held, Ended}
use Rattle.av_play.specs.declared.event.Event.TheVariants.{Turn}
use Rattle.av_play.specs.Parts.{part_at}
use Rattle.av_play.specs.Play.{State, after, turned, turned_if_held, turn_of, made_by}
use Rattle.av_inter.specs.Out.{Out, out_in, outs}
use Rattle.av_inter.specs.Whole.{whole}
use Rattle.av_inter.specs.Lawful.{is_home, is_ended, IsBlank, IsCore}
use Rattle.av_inter.specs.Refusals.{done_by}
use Rattle.av_inter.specs.Turned.{CanTurnIn, TurnsIn}
use Rattle.av_inter.proofs.OneTurn.{world_is, put_same, core_turned}

pub held_by : (worker : ℕ) (g : Option Stage) (done : ℕ) → done_by worker g ≡ Some done → g ≡ Some (Held worker done)
held_by worker None done e = cc
held_by worker (Some Waits) done e = cc
held_by worker (Some Ended) done e = cc
held_by worker (Some (Held holder count)) done e = by (nat_eq holder worker) refl e where
  by : (b : Bool) → nat_eq holder worker ≡ b → cond b (Some count) None ≡ Some done → Some (Held holder count) ≡ Some (Held worker done)
  by true s f = let same : holder ≡ worker = eqb-true holder worker s in let d : count ≡ done = cc in (λ i. Some (Held (same i) (d i)))
  by false s f = cc

pub not_held : (worker : ℕ) (g : Option Stage) → done_by worker g ≡ None → (done : ℕ) → ¬ (g ≡ Some (Held worker done))
not_held worker g e done h = let f : Some done ≡ None = sym (ap (λ b. cond b (Some done) None) (eq-eqb worker worker refl)) ∙ sym (ap (done_by worker) h) ∙ e in cc

pub slot_out : (cs : List (Option Parcel)) (n : ℕ) (d : Option Parcel) → n < length cs → slice_get (outs cs) n ≡ Some (out_in (get_or cs n d))
slot_out [] n d l = absurd (omega arith)
slot_out (c ∷ cs) zero d l = refl
slot_out (c ∷ cs) (suc n) d l = slot_out cs n d (omega arith)

pub outs_set : (cs : List (Option Parcel)) (n : ℕ) (x : Option Parcel) → outs (slice_set cs n x) ≡ slice_set (outs cs) n (out_in x)
outs_set [] n x = refl
outs_set (c ∷ cs) zero x = refl
outs_set (c ∷ cs) (suc n) x = ap (λ os. out_in c ∷ os) (outs_set cs n x)

-- setting what is there changes nothing
pub set_same : {X : Type 0} (xs : List X) (n : ℕ) (x : X) → slice_get xs n ≡ Some x → slice_set xs n x ≡ xs
set_same [] n x e = refl
set_same (y ∷ ys) zero x e = let g : y ≡ x = cc in ap (λ z. z ∷ ys) (sym g)
set_same (y ∷ ys) (suc n) x e = ap (λ zs. y ∷ zs) (set_same ys n x e)

pub among_part : (xs : List DueEntry) (n : ℕ) (x : DueEntry) → slice_get xs n ≡ Some x → Contains xs x
among_part xs n x e = (n, slice_get_within xs n x e, get_or_from_slice_get xs n x x e)

-- the state after a turn
pub turn_state : (k : ℕ → Kind) (now : ℕ) (parts : List (List DueEntry)) (s : State) (worker n done : ℕ) (x : DueEntry) → slice_get s.stages n ≡ Some (Held worker done) → slice_get (part_at parts n) done ≡ Some x
    → (w : World) (more : List Made) (stages : List Stage) → w ≡ (turn_of k now x s.world).world → more ≡ s.made ++ made_by k now x s.world → stages ≡ slice_set s.stages n (Held worker (suc done))
    → record { world = w; lists = s.lists; made = more; stages = stages } ≡ after k now parts s (Turn worker n)
turn_state k now parts s worker n done x e f w more stages a b c =
    (λ i. record { world = a i; lists = s.lists; made = b i; stages = c i }) ∙ sym (ap (turned k now s worker n done) f) ∙ sym (ap (turned_if_held k now (part_at parts n) s n) e)

module _ (count : ℕ) (h : Height) (ps : List ChunkPos) (l : Lists) (rest : World) (secs : List (List SectionPos)) (parts : List (List DueEntry)) (stages : List Stage) (os : List (Option Out)) (made : List Made)
    (core : IsCore count h ps l rest secs parts stages os made) (n : ℕ) (g : Stage) (at : slice_get stages n ≡ Some g) (held : is_ended (Some g) ≡ false) where
  abbrev w : World
  w = whole os rest made

  -- a part that is held or waits has a parcel
  pub inside : n < length os
  inside = let a = slice_get_within stages n g at in let b = core.counted in omega arith

  not_home : is_home (slice_get os n) ≡ false
  not_home = core.back n ∙ ap is_ended at ∙ held

  pub has_out : (o : Option Out) → slice_get os n ≡ Some o → (p : Out) × (o ≡ Some p)
  has_out None e = absurd (true≢false (sym (ap is_home e) ∙ not_home))
  has_out (Some p) e = (p, refl)

  pub can_turn : (o : Option Out) (x : DueEntry) → slice_get os n ≡ Some o → Contains (part_at parts n) x → CanTurnIn count x o
  can_turn None x e there = absurd (true≢false (sym (ap is_home e) ∙ not_home))
  can_turn (Some p) x e there =
      record { known = (core.out n p e).known; loaded = (core.out n p e).inside x.entry.pos ∙ core.own n x x.entry.pos there (reach_self x.entry.pos) (core.here n x there) }

  pub record AfterTurn (k : ℕ → Kind) (now : ℕ) (x : DueEntry) (more : List Made) (o : Option Out) : Type 0 where
    pub turned_world : whole (slice_set os n o) rest more ≡ (turn_of k now x w).world
    pub turned_made : more ≡ made ++ made_by k now x w
    pub lawful : IsCore count h ps l rest secs parts stages (slice_set os n o) more

  pub after_turn : ((q : Pos) → rest.loaded q ≡ false → IsBlank rest q) → ((q : Pos) → rest.loaded q ≡ true → rest.pending q ≡ is_pending q (l (chunk_of q)))
      → (k : ℕ → Kind) (now : ℕ) (x : DueEntry) (more : List Made) (o p : Option Out) → slice_get os n ≡ Some o → Contains (part_at parts n) x → TurnsIn k now count x o p made more → AfterTurn k now x more p
  after_turn blank tied k now x more None p e there t = absurd t
  after_turn blank tied k now x more (Some o) None e there t = absurd t
  after_turn blank tied k now x more (Some o) (Some p) e there t =
      record {
        turned_world = world_is count h ps l rest secs parts stages os made core blank tied n o e x there k now p more t;
        turned_made = put_same count h ps l rest secs parts stages os made core blank tied n o e x there k now p more t;
        lawful = core_turned count h ps l rest secs parts stages os made core blank tied n o e x there k now p more t;
      }

-- a part that has a stage has a slot
pub inside_parcels : (cs : List (Option Parcel)) (stages : List Stage) (n : ℕ) (g : Stage) → length (outs cs) ≡ length stages → slice_get stages n ≡ Some g → n < length cs
inside_parcels cs stages n g counted at = let a = slice_get_within stages n g at in let b = length-map cs out_in in omega (arith, counted)
