-- A section as it is written, read back.
use Rattle.std.proofs.Common.{◌≡◌, ℕ, zero, suc, ◌+◌, ◌<◌, List, [], ◌∷◌, ◌++◌, false, Some, None, Option, map, refl, ap, ◌∙◌, arith}
use Rattle.std.specs.Prelude.{codes}
use Rattle.std.specs.List.{range_with_len, AllByRecursion}
use Rattle.std.specs.Str.{bytes_eq}
use Rattle.std.proofs.lemmas.List.FromFn.{length-map-range_with_len, get_or-map-range_with_len}
use Rattle.av_tags.specs.Nbt.{Nbt, byte_array, NamedTag}
use Rattle.av_tags.specs.ByName.{tag_of, with_tag, without, blank, emptied}
use Rattle.av_types.specs.Options.{◌>>=◌}
use Rattle.av_tags.specs.Shape.{byte_of, compound_of, or_else}
use Rattle.av_tags.proofs.Trees.{members_in_of}
use Rattle.av_state.specs.BlockState.{BlockState, air}
use Rattle.av_section.specs.BlockStates.{states_faults, state_at, palette_tag, data_tag}
use Rattle.av_document.specs.Chunk.{section_rest, section_number, block_states_of, data_tag_of, is_other, block_faults, block_cell}
use Rattle.av_document.specs.Layout.{section_layout, states_layout, states_of, data_tags}
use Rattle.av_document.specs.Law.{IsMeant}
use Rattle.av_document.proofs.Tags.{tag_of-place_same, tag_of-place_other, two_places, without_two_again, tag_of-without}
use Rattle.av_document.proofs.WrittenPalette.{reads_back, ReadsBack}

-- the states of a section's places, each in the form that it takes when it is read
pub meant_from : (f : ℕ → BlockState) (a n : ℕ) → ((i : ℕ) → i < a + n → IsMeant (f i)) → AllByRecursion IsMeant (map f (range_with_len a n))
meant_from f a zero h = tt
meant_from f a (suc n) h = (h a (omega arith), meant_from f (a + 1) n (λ i lt. h i (omega arith)))

-- the tags of the written `block_states`
abbrev pub written_states : List NamedTag → List BlockState → List NamedTag
written_states others states = record { name = codes "palette"; tag = palette_tag states } ∷ data_tags (data_tag states) ++ others

module _ (ms : List NamedTag) (cell : ℕ → BlockState) (light : List ℕ) where
  abbrev pub row : List NamedTag
  row = section_layout (section_rest ms) cell light

  abbrev pub others : List NamedTag
  others = (section_rest ms).states

  abbrev pub states : List BlockState
  states = states_of cell

  -- a tag of another name stays
  tag_stays : (k : List ℕ) → bytes_eq k (codes "BlockLight") ≡ false → bytes_eq k (codes "block_states") ≡ false → tag_of k row ≡ tag_of k ms
  tag_stays k light_differs states_differ =
      tag_of-place_other k (codes "BlockLight") (byte_array light) (with_tag (codes "block_states") (states_layout others states) (section_rest ms).tags) light_differs
      ∙ tag_of-place_other k (codes "block_states") (states_layout others states) (section_rest ms).tags states_differ
      ∙ tag_of-place_other k (codes "BlockLight") blank (emptied (codes "block_states") ms) light_differs
      ∙ tag_of-place_other k (codes "block_states") blank ms states_differ

  pub section_number-row : section_number row ≡ section_number ms
  section_number-row = ap (λ o. o >>= byte_of) (tag_stays (codes "Y") refl refl)

  states_there : tag_of (codes "block_states") row ≡ Some (states_layout others states)
  states_there =
      tag_of-place_other (codes "block_states") (codes "BlockLight") (byte_array light) (with_tag (codes "block_states") (states_layout others states) (section_rest ms).tags) refl
      ∙ tag_of-place_same (codes "block_states") (states_layout others states) (section_rest ms).tags

  pub block_states_of-row : block_states_of row ≡ Some (written_states others states)
  block_states_of-row = ap (λ o. o >>= compound_of) states_there ∙ ap Some (members_in_of (written_states others states))

  pub shaped-row : is_other compound_of (tag_of (codes "block_states") row) ≡ false
  shaped-row = ap (is_other compound_of) states_there

  data_there : (o : Option Nbt) → data_tag_of (record { name = codes "palette"; tag = palette_tag states } ∷ data_tags o ++ others) ≡ o
  data_there (Some t) = refl
  data_there None = tag_of-without (codes "data") (without (codes "palette") (or_else [] (block_states_of ms)))

  rest_of_states : (o : Option Nbt) → without (codes "data") (without (codes "palette") (record { name = codes "palette"; tag = palette_tag states } ∷ data_tags o ++ others)) ≡ others
  rest_of_states (Some t) = without_two_again (codes "data") (codes "palette") (or_else [] (block_states_of ms))
  rest_of_states None = without_two_again (codes "data") (codes "palette") (or_else [] (block_states_of ms))

  -- all else stays
  pub section_rest-row : section_rest row ≡ section_rest ms
  section_rest-row =
      let tags : (section_rest row).tags ≡ (section_rest ms).tags = two_places (codes "BlockLight") (codes "block_states") blank blank (byte_array light) (states_layout others states) ms refl in
      let kept : (section_rest row).states ≡ (section_rest ms).states = ap (λ o. without (codes "data") (without (codes "palette") (or_else [] o))) block_states_of-row ∙ rest_of_states (data_tag states) in
      λ i. record { tags = tags i; states = kept i }

  module _ (meant_states : (i : ℕ) → i < 4096 → IsMeant (cell i)) where
    back : ReadsBack states (Some (palette_tag states)) (data_tag states)
    back = reads_back states (length-map-range_with_len cell 0 4096) (meant_from cell 0 4096 (λ i lt. meant_states i (omega arith)))

    pub block_faults-row : block_faults (block_states_of row) ≡ []
    block_faults-row = ap block_faults block_states_of-row ∙ ap (states_faults (Some (palette_tag states))) (data_there (data_tag states)) ∙ back.no_faults

    pub block_cell-row : (i : ℕ) → i < 4096 → block_cell (block_states_of row) i ≡ cell i
    block_cell-row i lt =
        ap (λ o. block_cell o i) block_states_of-row
        ∙ ap (λ o. state_at (Some (palette_tag states)) o i) (data_there (data_tag states))
        ∙ back.state_is i lt
        ∙ get_or-map-range_with_len cell 0 4096 i i air lt (omega arith)
