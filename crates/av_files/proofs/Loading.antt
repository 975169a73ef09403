-- Steps of a loader: what was found at one index stays while other chunks come in and the table grows.
use Rattle.std.proofs.Common.{◌≡◌, ◌∙◌, ℕ, zero, suc, List, [], ◌∷◌, ◌++◌, true, Some, sym, subst}
use Rattle.std.specs.Prelude.{slice_get, slice_index_or}
use Rattle.std.proofs.lemmas.Option.{none-some}
use Rattle.av_types.specs.declared.position.Pos.{Pos}
use Rattle.av_types.specs.declared.position.ChunkPos.{ChunkPos}
use Rattle.av_types.specs.declared.position.Height.{Height}
use Rattle.av_types.specs.declared.tick.Entry.{Entry}
use Rattle.av_tags.specs.Nbt.{Document}
use Rattle.av_state.specs.BlockState.{BlockState, air}
use Rattle.av_document.specs.Ticks.{lies_in}
use Rattle.av_document.specs.Chunk.{RestOfChunk, DenotesChunk}
use Rattle.av_land.specs.Land.{Land, has_chunk}
use Rattle.av_files.specs.Denotes.{Rest, IsSlot, absent, kept, full}

-- two worlds and rests are alike in one chunk
pub record AgreeAt (h : Height) (w v : Land BlockState) (r s : Rest) (c : ChunkPos) : Type 0 where
  pub loaded : has_chunk w.chunks c ≡ has_chunk v.chunks c
  pub cells : (p : Pos) → lies_in c h p ≡ true → w.at p ≡ v.at p
  pub lists : w.lists c ≡ v.lists c
  pub kept_same : r.kept c ≡ s.kept c
  pub chunk : r.chunk c ≡ s.chunk c

pub denotes_kept : (h : Height) (c : ChunkPos) (d : Document) (cells now : Pos → BlockState) (water then : List Entry) (rest other : RestOfChunk) → ((p : Pos) → lies_in c h p ≡ true → cells p ≡ now p) → water ≡ then → rest ≡ other
    → DenotesChunk c h d cells water rest → DenotesChunk c h d now then other
denotes_kept h c d cells now water then rest other same list is den =
    subst (λ x. DenotesChunk c h d now then x) is (subst (λ x. DenotesChunk c h d now x rest) list (record {
      no_fault = den.no_fault;
      full = den.full;
      cells_are = λ p inside. sym (same p inside) ∙ den.cells_are p inside;
      water_is = den.water_is;
      name_is = den.name_is;
      tags_are = den.tags_are;
      foreign_are = den.foreign_are;
      outside_is = den.outside_is;
      section_is = den.section_is;
    }))

pub slot_kept : (h : Height) (w v : Land BlockState) (r s : Rest) (file : List ℕ) (c : ChunkPos) (i : ℕ) → AgreeAt h w v r s c → IsSlot h w r file c i → IsSlot h v s file c i
slot_kept h w v r s file c i a (absent none out_of none_kept) = absent none (sym a.loaded ∙ out_of) (sym a.kept_same ∙ none_kept)
slot_kept h w v r s file c i a (kept p d held sp nf part out_of some_kept) = kept p d held sp nf part (sym a.loaded ∙ out_of) (sym a.kept_same ∙ some_kept)
slot_kept h w v r s file c i a (full p d held sp den there none_kept) =
    full p d held sp (denotes_kept h c d w.at v.at (w.lists c) (v.lists c) (r.chunk c) (s.chunk c) a.cells a.lists a.chunk den) (sym a.loaded ∙ there) (sym a.kept_same ∙ none_kept)

-- the table may grow meanwhile: a state that has a number keeps it
pub state_stays : (table more : List BlockState) (n : ℕ) (s : BlockState) → slice_get table n ≡ Some s → slice_index_or (table ++ more) n air ≡ s
state_stays [] more n s h = absurd (none-some s h)
state_stays (x ∷ table) more zero s h = same x s h where
  same : (x y : BlockState) → Some x ≡ Some y → x ≡ y
  same x y e = cc
state_stays (x ∷ table) more (suc n) s h = state_stays table more n s h
