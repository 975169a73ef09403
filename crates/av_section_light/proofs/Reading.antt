-- What a section says of the blocks in it.
use Rattle.std.proofs.Common.{◌≡◌, ℕ, max, true, false, Some, None, sym, ap, ◌∙◌}
use Rattle.std.specs.Prelude.{IsTrue}
use Rattle.av_types.specs.Positions.{section_of, place_of}
use Rattle.av_types.specs.declared.position.Pos.{Pos}
use Rattle.av_types.specs.declared.position.SectionPos.{SectionPos}
use Rattle.av_section.specs.declared.section.Section.{Section}
use Rattle.av_section.specs.Section.{number_at}
use Rattle.av_rules.specs.declared.kinds.Kinds.{Kinds}
use Rattle.av_rules.specs.Kinds.{row_at}
use Rattle.av_cells.specs.Grid.{Grid, cells_of, is_here, number_in}
use Rattle.av_flood.specs.Light.{cost}
use Rattle.av_section_light.specs.Light.{terrain_of}
use Rattle.av_section_light.specs.Sections.{filling_of}

-- a section that is not there
pub not_loaded : (g : Grid) (p : Pos) (s : SectionPos) → s ≡ section_of p → None ≡ g s → (cells_of g).loaded p ≡ false
not_loaded g p s at none = ap is_here (ap g (sym at) ∙ sym none)

-- one that is
module _ (k : Kinds) (g : Grid) (p : Pos) (s : SectionPos) (found : Section) (at : s ≡ section_of p) (here : Some (filling_of found) ≡ g s) where
  filled : g (section_of p) ≡ Some (filling_of found)
  filled = ap g (sym at) ∙ sym here

  pub loaded_here : IsTrue ((cells_of g).loaded p)
  loaded_here = ap is_here filled

  pub number_here : (cells_of g).number p ≡ number_at found (place_of p)
  number_here = ap (λ o. number_in o (place_of p)) filled

  pub emission_here : (i n : ℕ) → i ≡ place_of p → n ≡ (row_at k (number_at found i)).emission → n ≡ (terrain_of k (cells_of g)).emission p
  emission_here i n e is = is ∙ ap (λ j. (row_at k (number_at found j)).emission) e ∙ ap (λ m. (row_at k m).emission) (sym number_here)

  pub opacity_here : (i n : ℕ) → i ≡ place_of p → n ≡ (row_at k (number_at found i)).opacity → max 1 n ≡ cost (terrain_of k (cells_of g)) p
  opacity_here i n e is = ap (max 1) (is ∙ ap (λ j. (row_at k (number_at found j)).opacity) e ∙ ap (λ m. (row_at k m).opacity) (sym number_here))

-- no block of a section that is not there is loaded
pub none_loaded : (g : Grid) (p : Pos) (s : SectionPos) → section_of p ≡ s → None ≡ g s → IsTrue ((cells_of g).loaded p) → ⊥
none_loaded g p s at none l = on (sym (not_loaded g p s (sym at) none) ∙ l) where
  on : false ≡ true → ⊥
  on e = cc
