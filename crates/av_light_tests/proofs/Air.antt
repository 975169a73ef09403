-- Sections in which nothing waits.
use Rattle.std.proofs.Common.{◌≡◌, ℕ, zero, suc, ◌++◌, List, [], ◌∷◌, length, get_or, Bool, true, false, cond, Option, Some, None, refl, subst, sym, arith, ap, ◌∙◌}
use Rattle.std.specs.List.{All}
use Rattle.av_types.specs.Division.{divided}
use Rattle.av_types.specs.Positions.{place_of, is_section_of, section_index}
use Rattle.av_types.specs.declared.position.ChunkPos.{ChunkPos}
use Rattle.av_types.specs.declared.position.Height.{Height}
use Rattle.av_section.specs.Section.{IsFilled}
use Rattle.av_section.specs.declared.section.Section.{Section}
use Rattle.av_ticks.specs.Entries.{is_pending}
use Rattle.av_ticks.specs.Ticks.{entries}
use Rattle.av_document.specs.Ticks.{lies_in}
use Rattle.av_chunk.specs.declared.chunk.Chunk.{Chunk}
use Rattle.av_cells.specs.Grid.{pending_in}
use Rattle.av_world.specs.Sections.{filling_in}
use Rattle.av_world.specs.Inserted.{IsNewChunk}

-- nothing waits in it
pub record IsIdle (o : Option Section) : Type 0 where
  pub idle : (i : ℕ) → pending_in (filling_in o) i ≡ false

abbrev pub AreIdle : List (Option Section) → Type 0
AreIdle os = (k : ℕ) → IsIdle (get_or os k None)

pub none_idle : AreIdle []
none_idle k = record { idle = λ i. refl }

pub idle_more : (os : List (Option Section)) (s : Section) (n : ℕ) → AreIdle os → IsFilled s n → AreIdle (os ++ Some s ∷ [])
idle_more [] s n idle filled zero = record { idle = filled.pending }
idle_more [] s n idle filled (suc k) = record { idle = λ i. refl }
idle_more (o ∷ os) s n idle filled zero = idle zero
idle_more (o ∷ os) s n idle filled (suc k) = idle_more os s n (λ j. idle (suc j)) filled k

pub new_chunk : (c : ChunkPos) (h : Height) (x : Chunk) → length x.sections.items ≡ h.sections → AreIdle x.sections.items → entries x.ticks ≡ [] → IsNewChunk c h x
new_chunk c h x count idle none = record {
  whole = count;
  within = subst (All (λ e. lies_in c h e.pos ≡ true)) (sym none) (λ k d less. absurd (omega arith));
  tied = λ p e t. waits (is_section_of h (divided p.y 16)) (get_or x.sections.items (section_index h (divided p.y 16)) None) (place_of p) (idle (section_index h (divided p.y 16))) ∙ sym (ap (is_pending p) none);
} where
  waits : (b : Bool) (o : Option Section) (i : ℕ) → IsIdle o → pending_in (filling_in (cond b o None)) i ≡ false
  waits true o i idle = idle.idle i
  waits false o i idle = refl
