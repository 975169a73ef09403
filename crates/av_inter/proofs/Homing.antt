-- A part that comes back.
use Rattle.std.proofs.Common.{◌≡◌, ℕ, true, false, List, Option, None, Some, sym, ap, ◌∙◌, subst, slice_get, slice_set}
use Rattle.std.proofs.lemmas.Bool.{true≢false}
use Rattle.av_types.specs.Positions.{chunk_of}
use Rattle.av_types.specs.declared.position.Pos.{Pos}
use Rattle.av_types.specs.declared.position.ChunkPos.{ChunkPos}
use Rattle.av_types.specs.declared.position.SectionPos.{SectionPos}
use Rattle.av_types.specs.declared.position.Height.{Height}
use Rattle.av_types.specs.declared.tick.Made.{Made}
use Rattle.av_ticks.specs.Entries.{is_pending}
use Rattle.av_cells.specs.World as cells
use Rattle.av_cells.specs.World.{Lists}
use Rattle.av_world.specs.Views.{lists, IsSameButBlocks}
use Rattle.av_world.specs.declared.worlds.World.{World}
use Rattle.av_world.specs.declared.parcels.Parcel.{Parcel}
use Rattle.av_play.specs.declared.event.DueEntry.{DueEntry}
use Rattle.av_play.specs.declared.event.Stage.{Stage}
use Rattle.av_play.specs.declared.event.Stage.TheVariants.{Ended}
use Rattle.av_inter.specs.Out.{Out, out_of, out_in}
use Rattle.av_inter.specs.Whole.{whole}
use Rattle.av_inter.specs.Lawful.{is_home, is_ended, IsBlank, IsCore}
use Rattle.av_inter.specs.Cut.{HoldsPartOf, put_blocks}
use Rattle.av_inter.proofs.Mending.{whole_same, core_mended}

-- a core is one over another world with the same chunks and lists
pub core_moved : (count : ℕ) (v w : World) (rest : cells.World) (secs : List (List SectionPos)) (parts : List (List DueEntry)) (stages : List Stage) (os : List (Option Out)) (made : List Made) → IsSameButBlocks v w
    → IsCore count v.height v.positions.items (lists v) rest secs parts stages os made → IsCore count w.height w.positions.items (lists w) rest secs parts stages os made
core_moved count v w rest secs parts stages os made s i =
    subst (λ h. IsCore count h w.positions.items (lists w) rest secs parts stages os made) (sym s.height)
    (subst (λ ps. IsCore count v.height ps (lists w) rest secs parts stages os made) (sym (ap (λ x. x.items) s.positions))
    (subst (λ l. IsCore count v.height v.positions.items l rest secs parts stages os made) (sym s.lists_are) i))

-- the slot of a part is of a part of the world
pub slot_of_world : (count : ℕ) (w : World) (rest : cells.World) (secs : List (List SectionPos)) (parts : List (List DueEntry)) (stages : List Stage) (os : List (Option Out)) (made : List Made) → IsCore count w.height w.positions.items (lists w) rest secs parts stages os made
    → (n : ℕ) (o : Option Parcel) → slice_get os n ≡ Some (out_in o) → HoldsPartOf w o
slot_of_world count w rest secs parts stages os made core n None e = tt
slot_of_world count w rest secs parts stages os made core n (Some c) e = (core.out n (out_of c) e).part

module _ (count : ℕ) (h : Height) (ps : List ChunkPos) (l : Lists) (rest : cells.World) (secs : List (List SectionPos)) (parts : List (List DueEntry)) (stages : List Stage) (os : List (Option Out)) (made : List Made)
    (core : IsCore count h ps l rest secs parts stages os made) (blank : (q : Pos) → rest.loaded q ≡ false → IsBlank rest q) (tied : (q : Pos) → rest.loaded q ≡ true → rest.pending q ≡ is_pending q (l (chunk_of q))) where
  pub record AfterBack (n : ℕ) (new : cells.World) : Type 0 where
    pub same_whole : whole (slice_set os n None) new made ≡ whole os rest made
    pub lawful : IsCore count h ps l new secs parts (slice_set stages n Ended) (slice_set os n None) made

  pub after_back : (n : ℕ) (g : Stage) → slice_get stages n ≡ Some g → is_ended (Some g) ≡ false → (slot : Option Out) → slice_get os n ≡ Some slot → (new : cells.World) → new ≡ put_blocks l slot rest → AfterBack n new
  after_back n g at held None e new put = absurd (true≢false (sym (ap is_home e) ∙ core.back n ∙ ap is_ended at ∙ held))
  after_back n g at held (Some o) e new put =
      subst (AfterBack n) (sym put)
      (record {
        same_whole = whole_same count h ps l rest secs parts stages os made core blank tied n o e g at;
        lawful = core_mended count h ps l rest secs parts stages os made core blank tied n o e g at;
      })
