use Rattle.std.proofs.Common.{◌≡◌, ◌∙◌, refl, sym, ap, rules, to_z, of_z, to_z-of_z, w8, FitsSigned, IsSome, Some, true, false, codes}
use Rattle.av_types.specs.Positions.{is_section_of}
use Rattle.av_tags.specs.ByName.{emptied}
use Rattle.av_tags.specs.Shape.{compound_of}
use Rattle.av_tags.specs.View.{view, named_views}
use Rattle.av_state.specs.Table.{states}
use Rattle.av_document.specs.Chunk.{section_number, block_states_of}
use Rattle.av_codec.specs.Working.{checked_number, tags_in}
use Rattle.av_codec.specs.SectionsRead.{AreStatesRefused, IsSectionRefused}
use Rattle.av_codec.proofs.OneSection.{good_states, outside_read, inside_read, inside_refused}
use Rattle.av_codec.proofs.reading.sections.read_section.Goals as goal

pub returns-then-not-is_inside-clause-ok : goal.returns-then-not-is_inside-clause-ok
returns-then-not-is_inside-clause-ok g c =
    let ms = named_views c.unwrap-tags.result.items in
    let is : compound_of (view c.args.section) ≡ Some ms = sym (rw c.unwrap-tags.ensures at c.into_members.ensures) in
    let y = c.unwrap-y.result in
    let fits : FitsSigned w8 y = search rules in
    let number : section_number ms ≡ Some y = rw (c.deref.ensures.value, c.unwrap-y.ensures) at (sym c.byte_at.ensures) in
    let same : to_z w8 (of_z w8 y) ≡ y = to_z-of_z fits in
    let outside : is_section_of c.args.height (to_z w8 (of_z w8 y)) ≡ false = sym c.is_inside.ensures ∙ c.if-not-is_inside.true in
    rw is (outside_read c.args.height ms (states (g.N.Numbering.table c.args.numbering.now)) (record { y = to_z w8 (of_z w8 y); tags = c.unwrap-tags.result }) (number ∙ ap Some (sym same)) outside refl)

pub read_states-requires : goal.read_states-requires
read_states-requires g c =
    let ms = named_views c.unwrap-tags.result.items in
    let is : compound_of (view c.args.section) ≡ Some ms = sym (rw c.unwrap-tags.ensures at c.into_members.ensures) in
    let y = c.unwrap-y.result in
    let fits : FitsSigned w8 y = search rules in
    let number : section_number ms ≡ Some y = rw (c.deref.ensures.value, c.unwrap-y.ensures) at (sym c.byte_at.ensures) in
    let within : is_section_of c.args.height y ≡ true = rw (to_z-of_z fits) at (sym c.is_inside.ensures ∙ c.if-not-is_inside.false) in
    let good : IsSome (checked_number c.args.height (Some ms)) = rw is at c.requires in
    rw c.in_ok-block_states.ensures.taken (good_states c.args.height ms y good number within)

pub returns-in_err-section-clause-err : goal.returns-in_err-section-clause-err
returns-in_err-section-clause-err g c =
    let ms = named_views c.unwrap-tags.result.items in
    let is : compound_of (view c.args.section) ≡ Some ms = sym (rw c.unwrap-tags.ensures at c.into_members.ensures) in
    let y = c.unwrap-y.result in
    let fits : FitsSigned w8 y = search rules in
    let number : section_number ms ≡ Some y = rw (c.deref.ensures.value, c.unwrap-y.ensures) at (sym c.byte_at.ensures) in
    let within : is_section_of c.args.height y ≡ true = rw (to_z-of_z fits) at (sym c.is_inside.ensures ∙ c.if-not-is_inside.false) in
    let e = c.in_err-section.field-0.0 in
    let refused : g.N.Numbering.takes ≡ true → AreStatesRefused (block_states_of ms) (states (g.N.Numbering.table c.args.numbering.now)) e = rw c.in_ok-block_states.ensures.taken at c.in_err-section.ensures.err in
    let fact : g.N.Numbering.takes ≡ true → IsSectionRefused c.args.height (tags_in (view c.args.section)) (states (g.N.Numbering.table c.args.numbering.now)) e = λ t. rw is (inside_refused c.args.height ms (states (g.N.Numbering.table c.args.numbering.now)) y e number within (refused t)) in
    search (rules, fact)

pub returns-clause-ok : goal.returns-clause-ok
returns-clause-ok g c =
    let ms = named_views c.unwrap-tags.result.items in
    let is : compound_of (view c.args.section) ≡ Some ms = sym (rw c.unwrap-tags.ensures at c.into_members.ensures) in
    let y = c.unwrap-y.result in
    let fits : FitsSigned w8 y = search rules in
    let number : section_number ms ≡ Some y = rw (c.deref.ensures.value, c.unwrap-y.ensures) at (sym c.byte_at.ensures) in
    let same : to_z w8 (of_z w8 y) ≡ y = to_z-of_z fits in
    let within : is_section_of c.args.height (to_z w8 (of_z w8 y)) ≡ true = sym c.is_inside.ensures ∙ c.if-not-is_inside.false in
    let read = rw c.in_ok-block_states.ensures.taken at c.in_ok-section.ensures.ok in
    let kept : named_views c.emptied-2.new.tags.items ≡ emptied (codes "BlockLight") (emptied (codes "block_states") ms) = rw c.in_ok-block_states.ensures.left at c.in_ok-emptied.ensures.left in
    rw is (inside_read c.args.height ms (states (g.N.Numbering.table c.args.numbering.now)) (states (g.N.Numbering.table c.read_states.new.numbering)) (to_z w8 (of_z w8 y)) c.in_ok-section.section
    (record { tags = c.emptied-2.new.tags; states = c.in_ok-section.states }) (number ∙ ap Some (sym same)) within read kept)
