use Rattle.std.proofs.Common.{◌≡◌, ◌∙◌, sym, Some, true, false, option_map, codes, rules}
use Rattle.std.proofs.lemmas.Bool.{true≢false}
use Rattle.std.specs.Option.{option_copied}
use Rattle.av_tags.specs.ByName.{tag_of}
use Rattle.av_tags.specs.View.{view, named_views}
use Rattle.av_state.specs.Table.{states}
use Rattle.av_section.specs.Reading.{IsStatesRefusal}
use Rattle.av_codec.specs.SectionsRead.{AreStatesRefused}
use Rattle.av_codec.specs.Working.{compound_in}
use Rattle.av_codec.proofs.Judging.{judged_of}
use Rattle.av_codec.proofs.reading.sections.read_states.Goals as goal

pub returns-in_err-section-clause-err : goal.returns-in_err-section-clause-err
returns-in_err-section-clause-err g c =
    let e = c.in_err-section.field-0.0 in
    let old = states (g.N.Numbering.table c.args.numbering.now) in
    let ms = named_views c.unwrap-others.result.items in
    let is : compound_in (option_map view c.args.block_states) ≡ Some ms = rw c.in-Some.is (sym (rw c.unwrap-others.ensures at c.into_members.ensures)) in
    let palette : option_map view (option_copied c.find-palette.result) ≡ tag_of (codes "palette") ms = rw c.deref.ensures.value at c.find-palette.ensures in
    let longs : option_map view (option_copied c.find.result) ≡ tag_of (codes "data") ms = rw c.deref-2.ensures.value at c.find.ensures in
    let refused : g.N.Numbering.takes ≡ true → IsStatesRefusal (tag_of (codes "palette") ms) (tag_of (codes "data") ms) old e = λ t. (rw (palette, longs) at c.in_err-section.ensures.err) (λ f. absurd (true≢false (sym t ∙ f))) in
    let fact : g.N.Numbering.takes ≡ true → AreStatesRefused (compound_in (option_map view c.args.block_states)) old e = λ t. rw is (record { first = λ ne. judged_of (tag_of (codes "palette") ms) (tag_of (codes "data") ms) old e (refused t) ne }) in
    search (rules, fact)

pub returns-clause-ok : goal.returns-clause-ok
returns-clause-ok g c =
    let ms = named_views c.unwrap-others.result.items in
    let is : compound_in (option_map view c.args.block_states) ≡ Some ms = rw c.in-Some.is (sym (rw c.unwrap-others.ensures at c.into_members.ensures)) in
    let palette : option_map view (option_copied c.find-palette.result) ≡ tag_of (codes "palette") ms = rw c.deref.ensures.value at c.find-palette.ensures in
    let longs : option_map view (option_copied c.find.result) ≡ tag_of (codes "data") ms = rw c.deref-2.ensures.value at c.find.ensures in
    let read = rw (palette, longs) at c.in_ok-section.ensures.ok in
    let others = rw c.remove.ensures.others at c.remove-2.ensures.others in
    rw is (record { no_fault = read.no_fault; states = read.states; cells = record { numbers = read.numbers; pending = read.pending }; others_are = others })
