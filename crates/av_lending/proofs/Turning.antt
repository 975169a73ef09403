-- A group turned in the world that is lent for it.
use Rattle.std.proofs.Common.{◌≡◌, ℕ, ◌+◌, ◌&&◌, ◌∷◌, [], List, get_or, filter, Bool, true, false, not, cond, All, refl, sym, ap, subst, ◌∙◌}
use Rattle.std.proofs.lemmas.List.Elements.{All-head, All-tail}
use Rattle.std.specs.List.{list_all}
use Rattle.av_types.specs.declared.position.ChunkPos.{ChunkPos}
use Rattle.av_types.specs.declared.tick.Entry.{Entry}
use Rattle.av_ticks.specs.Entries.{is_due}
use Rattle.av_rules.specs.Kinds.{kind_count}
use Rattle.av_cells.specs.Kinds.{kinds_of}
use Rattle.av_land.specs.Land.{Land, has_chunk, is_loaded}
use Rattle.av_land.specs.Tick.{turned_all, without_due}
use Rattle.av_land.proofs.Idle.{all_stay}
use Rattle.av_world.specs.Lands.{land_of}
use Rattle.av_world.specs.Views.{blocks}
use Rattle.av_world.specs.declared.worlds.World.{World}
use Rattle.av_world.proofs.Corners.{reach_self}
use Rattle.av_serial.specs.Ready.{IsReady}
use Rattle.av_groups.specs.Groups.{entries_in, touched}
use Rattle.av_groups.specs.Parts.{IsPart, StaysIn}
use Rattle.av_groups.proofs.Apart.{turned_apart}
use Rattle.av_lending.specs.declared.plans.Plan.{Plan}
use Rattle.av_lending.specs.Plans.{entries_of, kinds_in, start_of, after, IsPlan, IsLentAfter}
use Rattle.av_lending.proofs.After.{after_next, air_after, stay_after, none_due_after, loaded_after, height_after_all, chunks_after_all}

all_pass : (P : Entry → Bool) (es : List Entry) → All (λ e. P e ≡ true) es → list_all P es ≡ true
all_pass P [] h = refl
all_pass P (e ∷ es) h = by (P e) (All-head (λ e. P e ≡ true) e es h) (all_pass P es (All-tail (λ e. P e ≡ true) e es h)) where
  by : (t : Bool) → t ≡ true → list_all P es ≡ true → t && list_all P es ≡ true
  by true h rest = rest
  by false h rest = h

module _ (p : Plan) (is : IsPlan p) (i : ℕ) (u : World) (lent : IsLentAfter p i i u) where
  -- the blocks of its entries are loaded
  loaded_one : (e : Entry) → is_loaded (start_of p) e.pos ≡ true → StaysIn (start_of p) (has_chunk (touched lent.group)) e → (blocks u).loaded e.pos ≡ true
  loaded_one e l stays =
      ap (λ f. f e.pos) lent.ready.whole ∙ lent.part.loaded e.pos ∙ ap (λ t. t && is_loaded (after p i) e.pos) (stays e.pos (reach_self e.pos) l) ∙ loaded_after p i e.pos ∙ l

  pub entries_loaded : list_all (λ (e : Entry). (blocks u).loaded e.pos) (entries_in (entries_of p) lent.group) ≡ true
  entries_loaded =
      let g = is.groups.cut.each i lent.group lent.is in
      all_pass (λ e. (blocks u).loaded e.pos) (entries_in (entries_of p) lent.group) (λ k d l. loaded_one (get_or (entries_in (entries_of p) lent.group) k d) (g.loaded k d l) (g.stay k d l))

  -- what turns leave once what is due has left
  pub turned_lent : (v : World) → land_of v ≡ turned_all (kinds_of (kinds_in p)) p.tick (entries_in (entries_of p) lent.group) (without_due p.tick (land_of u)) → IsReady (kind_count (kinds_in p)) v → IsLentAfter p i (i + 1) v
  turned_lent v done ready = record {
    group = lent.group;
    is = lent.is;
    chunks = λ c. ap (λ cs. has_chunk cs c) (ap (λ (w : Land ℕ). w.chunks) done ∙ chunks_after_all (kinds_of (kinds_in p)) p.tick (entries_in (entries_of p) lent.group) (without_due p.tick (land_of u))) ∙ lent.chunks c;
    part = record { loaded = part_is.loaded; at = part_is.at; lists = λ c. ap (filter (λ e. not (is_due p.tick e))) (part_is.lists c) ∙ by c (has_chunk (touched lent.group) c) };
    height_is = ap (λ (w : Land ℕ). w.height) done ∙ height_after_all (kinds_of (kinds_in p)) p.tick (entries_in (entries_of p) lent.group) (without_due p.tick (land_of u)) ∙ lent.height_is;
    ready = ready;
  } where
    inside : IsPart (has_chunk (touched lent.group)) (turned_all (kinds_of (kinds_in p)) p.tick (entries_in (entries_of p) lent.group) (after p i)) (turned_all (kinds_of (kinds_in p)) p.tick (entries_in (entries_of p) lent.group) (without_due p.tick (land_of u)))
    inside = (turned_apart (kinds_of (kinds_in p)) p.tick (has_chunk (touched lent.group)) (entries_in (entries_of p) lent.group) (after p i) (without_due p.tick (land_of u)) (air_after p is i) (stay_after p is i i lent.group lent.is) lent.part).inside

    part_is : IsPart (has_chunk (touched lent.group)) (after p (i + 1)) (land_of v)
    part_is = subst (λ w. IsPart (has_chunk (touched lent.group)) (after p (i + 1)) w) (sym done)
        (subst (λ w. IsPart (has_chunk (touched lent.group)) w (turned_all (kinds_of (kinds_in p)) p.tick (entries_in (entries_of p) lent.group) (without_due p.tick (land_of u)))) (sym (after_next p i lent.group lent.is)) inside)

    by : (c : ChunkPos) (t : Bool) → filter (λ e. not (is_due p.tick e)) (cond t ((after p (i + 1)).lists c) []) ≡ cond t ((after p (i + 1)).lists c) []
    by c true = all_stay p.tick ((after p (i + 1)).lists c) (none_due_after p (i + 1) c)
    by c false = refl
