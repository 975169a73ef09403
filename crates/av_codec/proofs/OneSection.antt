-- One section, taken apart.
use Rattle.std.proofs.Common.{◌≡◌, ℤ, Bool, true, false, true≢false, ◌&&◌, Some, None, IsSome, List, refl, sym, codes, if◌then◌else◌}
use Rattle.av_types.specs.Positions.{is_section_of}
use Rattle.av_types.specs.declared.position.Height.{Height}
use Rattle.av_types.specs.declared.fault.Fault.{Fault}
use Rattle.av_tags.specs.Nbt.{NamedTag}
use Rattle.av_tags.specs.ByName.{tag_of, emptied}
use Rattle.av_tags.specs.Shape.{compound_of}
use Rattle.av_tags.specs.View.{named_views}
use Rattle.av_state.specs.BlockState.{BlockState}
use Rattle.av_section.specs.declared.section.Section.{Section}
use Rattle.av_document.specs.Chunk.{section_number, is_other, block_states_of}
use Rattle.av_chunk.specs.declared.rest.SectionTags.{SectionTags}
use Rattle.av_chunk.specs.declared.rest.OutsideSection.{OutsideSection}
use Rattle.av_codec.specs.declared.reading.sections.SplitSection.TheVariants.{Inside, Outside}
use Rattle.av_codec.specs.Working.{checked_number}
use Rattle.av_codec.specs.SectionsRead.{AreStates, AreStatesRefused, IsSectionRead, IsSectionRefused}

good_at : (y : ℤ) (within other : Bool) → IsSome (if within && other then None else Some y) → within ≡ true → other ≡ false
good_at y true true h e = absurd (true≢false (sym h))
good_at y true false h e = refl
good_at y false other h e = cc

-- a section in the height that was checked has a Compound as its states, or none
pub good_states : (h : Height) (ms : List NamedTag) (y : ℤ) → IsSome (checked_number h (Some ms)) → section_number ms ≡ Some y → is_section_of h y ≡ true
    → is_other compound_of (tag_of (codes "block_states") ms) ≡ false
good_states h ms y g e w = good_at y (is_section_of h y) _ (rw e at g) w

pub outside_read : (h : Height) (ms : List NamedTag) (old : List BlockState) (o : OutsideSection) → section_number ms ≡ Some o.y → is_section_of h o.y ≡ false
    → named_views o.tags.items ≡ ms → IsSectionRead h ms old old (Outside o)
outside_read h ms old o e w t = record {
  is_split = record { number = e; without = w; tags = t };
  no_fault = rw (e, w) refl;
  states = rw (e, w) refl;
}

pub inside_read : (h : Height) (ms : List NamedTag) (old new : List BlockState) (y : ℤ) (s : Section) (kept : SectionTags) → section_number ms ≡ Some y → is_section_of h y ≡ true
    → AreStates (block_states_of ms) old new s (named_views kept.states.items) → named_views kept.tags.items ≡ emptied (codes "BlockLight") (emptied (codes "block_states") ms)
    → IsSectionRead h ms old new (Inside y s kept)
inside_read h ms old new y s kept e w r t = record {
  is_split = record { number = e; within = w; cells = r.cells; rest = rw (t, r.others_are) refl };
  no_fault = rw (e, w) r.no_fault;
  states = rw (e, w) r.states;
}

pub inside_refused : (h : Height) (ms : List NamedTag) (old : List BlockState) (y : ℤ) (f : Fault) → section_number ms ≡ Some y → is_section_of h y ≡ true
    → AreStatesRefused (block_states_of ms) old f → IsSectionRefused h ms old f
inside_refused h ms old y f e w r = record { first = λ ne. rw (e, w) (r.first ne) }
