-- A world stays ready.
use Rattle.std.proofs.Common.{◌≡◌, ℕ, zero, suc, ◌<◌, ◌≤◌, ◌+◌, pos, IsTrue, Bool, true, false, cond, nat_eq, List, [], ◌∷◌, length, get_or, drop, Result, Ok, Err, OnOk, is_err, true≢false, refl, sym, ap, subst, ◌∙◌, arith}
use Rattle.std.specs.List.{list_all}
use Rattle.std.proofs.lemmas.Bool.{and_parts}
use Rattle.av_types.specs.declared.position.Pos.{Pos}
use Rattle.av_types.specs.declared.position.ChunkPos.{ChunkPos}
use Rattle.av_types.specs.declared.position.SectionPos.{SectionPos}
use Rattle.av_types.specs.Positions.{chunk_of, section_of, chunk_of_section, block_at}
use Rattle.av_types.proofs.Coordinates.{section_back}
use Rattle.av_types.specs.declared.tick.Entry.{Entry}
use Rattle.av_cells.specs.World as cells
use Rattle.av_cells.specs.Rule.{HasKinds}
use Rattle.av_cells.specs.declared.kind.Kind.{Kind}
use Rattle.av_cells.proofs.Wakes.{HasKinds-same}
use Rattle.av_land.specs.Land.{Land}
use Rattle.av_land.specs.Tick.{set_in, edited, turned, turned_all, without_due}
use Rattle.av_world.specs.Lands.{land_of}
use Rattle.av_world.specs.Views.{blocks, site, room, CanSetAt}
use Rattle.av_world.proofs.Whole.{whole_kept}
use Rattle.av_world.specs.declared.worlds.World.{World}
use Rattle.av_edits.specs.declared.edit.Edit.{Edit}
use Rattle.av_edits.specs.Numbered.{number_sets}
use Rattle.av_serial.specs.Ready.{IsReady, HasSameChunks, IsStillPrepared, CanApply}

pub ready_on : (n : ℕ) (old new : World) → site new ≡ site old → (blocks new).loaded ≡ (blocks old).loaded → HasKinds n (blocks new) → IsReady n old → IsReady n new
ready_on n old new s l h r = record { whole = whole_kept old new s l r.whole; numbers = h }

pub kinds_same : (n : ℕ) (old new : World) → blocks new ≡ blocks old → IsReady n old → HasKinds n (blocks new)
kinds_same n old new b r = subst (λ (v : cells.World). HasKinds n v) (sym b) r.numbers

pub ready_same : (n : ℕ) (old new : World) → site new ≡ site old → blocks new ≡ blocks old → IsReady n old → IsReady n new
ready_same n old new s b r = ready_on n old new s (ap (λ (v : cells.World). v.loaded) b) (kinds_same n old new b r) r

-- after what is due has left
pub ready_left : (n now : ℕ) (old new : World) → site new ≡ site old → (blocks new).loaded ≡ (blocks old).loaded → land_of new ≡ without_due now (land_of old) → IsReady n old → IsReady n new
ready_left n now old new s l left r = ready_on n old new s l (HasKinds-same n (blocks old) (blocks new) (record { loaded = l; number = ap (λ (w : Land ℕ). w.at) left }) r.numbers) r

pub chunks_refl : (w : World) → HasSameChunks w w
chunks_refl w = record { site_is = refl; loaded_is = refl }

pub chunks_on : (u v w : World) → HasSameChunks u v → HasSameChunks v w → HasSameChunks u w
chunks_on u v w a b = record { site_is = b.site_is ∙ a.site_is; loaded_is = b.loaded_is ∙ a.loaded_is }

pub sound_on : (u v : World) → HasSameChunks u v → u.broken ≡ false → v.broken ≡ false
sound_on u v a s = ap (λ (x : cells.Site). x.broken) a.site_is ∙ s

pub can_apply_on : (n : ℕ) (u v : World) (e : Edit) → HasSameChunks u v → CanApply n u e → CanApply n v e
can_apply_on n u v e a c = record { loaded = subst (λ (f : Pos → Bool). IsTrue (f e.pos)) (sym a.loaded_is) c.loaded; number = c.number }

-- each chunk and each section has a block
pub prepared_on : (old new : World) → ((q : Pos) → room old (chunk_of q) ≤ room new (chunk_of q)) → ((q : Pos) (n : ℕ) → CanSetAt old (section_of q) n → CanSetAt new (section_of q) n) → IsStillPrepared old new
prepared_on old new rooms sets = record {
  room_grows = λ c.
      (let s : SectionPos = record { x = c.x; y = pos 0; z = c.z } in
      let back : chunk_of (block_at s 0) ≡ c = ap (λ (t : SectionPos). chunk_of_section t) (section_back s 0 (omega arith)) in
      subst (λ (d : ChunkPos). room old d ≤ room new d) back (rooms (block_at s 0)));
  prepared = λ s n. subst (λ (t : SectionPos). CanSetAt old t n → CanSetAt new t n) (section_back s 0 (omega arith)) (sets (block_at s 0) n);
}

-- what an answer that is no refusal says
pub when_ok : {A E : Type 0} (r : Result A E) (P : Type 0) → is_err r ≡ false → OnOk r P → P
when_ok (Ok x) P e h = h
when_ok (Err x) P e h = absurd (true≢false e)

-- ---- one more turn, one more edit

pub turned_next : (k : ℕ → Kind) (now : ℕ) (es : List Entry) (i : ℕ) (d : Entry) (w v : Land ℕ) → i < length es → v ≡ turned k now (get_or es i d).pos w → turned_all k now (drop i es) w ≡ turned_all k now (drop (i + 1) es) v
turned_next k now [] i d w v h to = absurd (omega arith)
turned_next k now (x ∷ es) zero d w v h to = ap (turned_all k now es) (sym to)
turned_next k now (x ∷ es) (suc i) d w v h to = let step : suc i + 1 ≡ suc (i + 1) = omega arith in rw step (turned_next k now es i d w v (omega arith) to)

pub passes_at : (p : Entry → Bool) (es : List Entry) (i : ℕ) (e : Entry) → i < length es → e ≡ get_or es i e → list_all p es ≡ true → p e ≡ true
passes_at p [] i e h is all = absurd (omega arith)
passes_at p (x ∷ es) zero e h is all = ap p is ∙ (and_parts (p x) (list_all p es) all).0
passes_at p (x ∷ es) (suc i) e h is all = passes_at p es i e (omega arith) is (and_parts (p x) (list_all p es) all).1

pub edited_next : (k : ℕ → Kind) (now : ℕ) (es : List Edit) (i : ℕ) (d : Edit) (w v : Land ℕ) → i < length es → v ≡ cond (nat_eq (get_or es i d).tick now) (set_in k now (get_or es i d).pos (get_or es i d).number w) w
    → edited k now (number_sets (drop i es)) w ≡ edited k now (number_sets (drop (i + 1) es)) v
edited_next k now [] i d w v h to = absurd (omega arith)
edited_next k now (x ∷ es) zero d w v h to = ap (edited k now (number_sets es)) (sym to)
edited_next k now (x ∷ es) (suc i) d w v h to = let step : suc i + 1 ≡ suc (i + 1) = omega arith in rw step (edited_next k now es i d w v (omega arith) to)

pub passes_get : (p : Entry → Bool) (es : List Entry) (i : ℕ) (d : Entry) → i < length es → list_all p es ≡ true → p (get_or es i d) ≡ true
passes_get p [] i d h all = absurd (omega arith)
passes_get p (x ∷ es) zero d h all = (and_parts (p x) (list_all p es) all).0
passes_get p (x ∷ es) (suc i) d h all = passes_get p es i d (omega arith) (and_parts (p x) (list_all p es) all).1

pub loaded_get : (u v : World) (es : List Entry) (i : ℕ) (d : Entry) → HasSameChunks u v → i < length es → list_all (λ e. (blocks u).loaded e.pos) es ≡ true → (blocks v).loaded (get_or es i d).pos ≡ true
loaded_get u v es i d a h all = ap (λ (f : Pos → Bool). f (get_or es i d).pos) a.loaded_is ∙ passes_get (λ e. (blocks u).loaded e.pos) es i d h all
