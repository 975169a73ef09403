use Rattle.std.proofs.Common.{◌≡◌, Ok, Err, true, false, refl, sym, ◌∙◌, ap, rules, codes, option_map}
use Rattle.std.proofs.lemmas.Result.{err_from_is_err_and}
use Rattle.av_tags.specs.ByName.{tag_of, blank, emptied}
use Rattle.av_tags.specs.View.{view, views, named_views, document}
use Rattle.av_state.specs.Table.{states}
use Rattle.av_document.specs.Chunk.{sections, ticks, root_tags}
use Rattle.av_document.proofs.Tags.{tag_of-place_other}
use Rattle.av_codec.specs.Working.{admitted}
use Rattle.av_chunk.specs.Rest.{opened}
use Rattle.av_types.specs.declared.fault.Fault.TheVariants.{OutOfMemory}
use Rattle.av_chunk.specs.Reading.{IsChunkRefusal, IsAdmitted}
use Rattle.av_codec.proofs.Rows.{items_good}
use Rattle.av_codec.proofs.Assembly.{members_in-of, taken_apart}
use Rattle.av_codec.proofs.Admitted.{admitted_true, admitted_false, admitted_fault, admitted_no_memory, whatever_fault, good_sections, good_apart, good_ticks, good_list, first_loaded}
use Rattle.av_codec.proofs.reading.chunk_by.Goals as goal

pub returns-in_err-admitted-clause-err : goal.returns-in_err-admitted-clause-err
returns-in_err-admitted-clause-err g c =
    let root = named_views c.args.root.tags.items in
    let e = c.in_err-admitted.field-0.0 in
    let is : admitted c.args.height c.args.at root ≡ Err e = rw c.deref.ensures.value at (sym c.admitted.ensures) ∙ c.in_err-admitted.was in
    let fact : g.N.Numbering.takes ≡ true → IsChunkRefusal c.args.at c.args.height (document c.args.root) (states (g.N.Numbering.table c.args.numbering.now)) e =
    λ t. record { first = λ ne. rw (members_in-of root) (admitted_fault c.args.height c.args.at root (states (g.N.Numbering.table c.args.numbering.now)) e is) } in
    search (rules, fact)

pub returns-in_err-admitted-clause-memory : goal.returns-in_err-admitted-clause-memory
returns-in_err-admitted-clause-memory g c =
    let root = named_views c.args.root.tags.items in
    let e = c.in_err-admitted.field-0.0 in
    let is : admitted c.args.height c.args.at root ≡ Err e = rw c.deref.ensures.value at (sym c.admitted.ensures) ∙ c.in_err-admitted.was in
    let fact : e ≡ OutOfMemory → IsAdmitted c.args.height c.args.at (root_tags (document c.args.root)) =
    λ memory. absurd (admitted_no_memory c.args.height c.args.at root (is ∙ ap Err memory)) in
    search (rules, fact)

pub returns-then-not-branch-clause-ok : goal.returns-then-not-branch-clause-ok
returns-then-not-branch-clause-ok g c =
    let root = named_views c.args.root.tags.items in
    let is : admitted c.args.height c.args.at root ≡ Ok false = rw c.deref.ensures.value at (sym c.admitted.ensures) ∙ (c.in_ok-admitted.was ∙ ap Ok c.if-not-branch.true) in
    let kept = admitted_false c.args.height c.args.at root (states (g.N.Numbering.table c.args.numbering.now)) is in
    record { no_fault = rw (members_in-of root) kept.0; not_full = rw (members_in-of root) kept.1; states = refl }

pub items-requires : goal.items-requires
items-requires g c =
    let root = named_views c.args.root.tags.items in
    let is : admitted c.args.height c.args.at root ≡ Ok true = rw c.deref.ensures.value at (sym c.admitted.ensures) ∙ (c.in_ok-admitted.was ∙ ap Ok c.if-not-branch.false) in
    let a = admitted_true c.args.height c.args.at root is in
    rw c.in_ok-sections.ensures.taken (good_sections c.args.height root a.shape)

pub items-requires-2 : goal.items-requires-2
items-requires-2 g c =
    let root = named_views c.args.root.tags.items in
    let is : admitted c.args.height c.args.at root ≡ Ok true = rw c.deref.ensures.value at (sym c.admitted.ensures) ∙ (c.in_ok-admitted.was ∙ ap Ok c.if-not-branch.false) in
    let a = admitted_true c.args.height c.args.at root is in
    let taken : option_map view c.in_ok-ticks.ticks ≡ tag_of (codes "fluid_ticks") root =
    rw c.in_ok-sections.ensures.left at c.in_ok-ticks.ensures.taken ∙ tag_of-place_other (codes "fluid_ticks") (codes "sections") blank root refl in
    rw taken (good_ticks c.args.height root a.shape)

pub read_parts-requires-clause-numbers : goal.read_parts-requires-clause-numbers
read_parts-requires-clause-numbers g c =
    let root = named_views c.args.root.tags.items in
    let is : admitted c.args.height c.args.at root ≡ Ok true = rw c.deref.ensures.value at (sym c.admitted.ensures) ∙ (c.in_ok-admitted.was ∙ ap Ok c.if-not-branch.false) in
    let a = admitted_true c.args.height c.args.at root is in
    rw (c.items.ensures.items, c.in_ok-sections.ensures.taken) (items_good c.args.height (tag_of (codes "sections") root) (good_list c.args.height root a.shape))

pub read_parts-requires-clause-apart : goal.read_parts-requires-clause-apart
read_parts-requires-clause-apart g c =
    let root = named_views c.args.root.tags.items in
    let is : admitted c.args.height c.args.at root ≡ Ok true = rw c.deref.ensures.value at (sym c.admitted.ensures) ∙ (c.in_ok-admitted.was ∙ ap Ok c.if-not-branch.false) in
    let a = admitted_true c.args.height c.args.at root is in
    let rows : opened (views c.items.result.items) ≡ sections root = rw c.in_ok-sections.ensures.taken at c.items.ensures.rows in
    rw rows (good_apart c.args.height root a.shape)

pub returns-in_err-read-clause-err : goal.returns-in_err-read-clause-err
returns-in_err-read-clause-err g c =
    let root = named_views c.args.root.tags.items in
    let is : admitted c.args.height c.args.at root ≡ Ok true = rw c.deref.ensures.value at (sym c.admitted.ensures) ∙ (c.in_ok-admitted.was ∙ ap Ok c.if-not-branch.false) in
    let a = admitted_true c.args.height c.args.at root is in
    let e = c.in_err-read.field-0.0 in
    let rows : opened (views c.items.result.items) ≡ sections root = rw c.in_ok-sections.ensures.taken at c.items.ensures.rows in
    let taken : option_map view c.in_ok-ticks.ticks ≡ tag_of (codes "fluid_ticks") root =
    rw c.in_ok-sections.ensures.left at c.in_ok-ticks.ensures.taken ∙ tag_of-place_other (codes "fluid_ticks") (codes "sections") blank root refl in
    let water : opened (views c.items-2.result.items) ≡ ticks root = rw taken at c.items-2.ensures.rows in
    let refused = rw (rows, water) at c.in_err-read.ensures.err in
    let fact : g.N.Numbering.takes ≡ true → IsChunkRefusal c.args.at c.args.height (document c.args.root) (states (g.N.Numbering.table c.args.numbering.now)) e =
    λ t. record { first = λ ne. rw (members_in-of root) (first_loaded c.args.height c.args.at root (states (g.N.Numbering.table c.args.numbering.now)) a ∙ (refused t).first ne) } in
    let p = err_from_is_err_and c.from_residual-in_err-read.result c.from_residual-in_err-read.ensures.1 in
    rw (p.1, p.2) fact

pub returns-in_err-sections-clause-memory : goal.returns-in_err-sections-clause-memory
returns-in_err-sections-clause-memory g c =
    let root = named_views c.args.root.tags.items in
    let is : admitted c.args.height c.args.at root ≡ Ok true = rw c.deref.ensures.value at (sym c.admitted.ensures) ∙ (c.in_ok-admitted.was ∙ ap Ok c.if-not-branch.false) in
    let fact : IsAdmitted c.args.height c.args.at (root_tags (document c.args.root)) = rw (members_in-of root) (admitted_true c.args.height c.args.at root is) in
    whatever_fault c.from_residual-in_err-sections.result (λ e. e ≡ OutOfMemory) _ fact

pub returns-in_err-ticks-clause-memory : goal.returns-in_err-ticks-clause-memory
returns-in_err-ticks-clause-memory g c =
    let root = named_views c.args.root.tags.items in
    let is : admitted c.args.height c.args.at root ≡ Ok true = rw c.deref.ensures.value at (sym c.admitted.ensures) ∙ (c.in_ok-admitted.was ∙ ap Ok c.if-not-branch.false) in
    let fact : IsAdmitted c.args.height c.args.at (root_tags (document c.args.root)) = rw (members_in-of root) (admitted_true c.args.height c.args.at root is) in
    whatever_fault c.from_residual-in_err-ticks.result (λ e. e ≡ OutOfMemory) _ fact

pub returns-in_err-read-clause-memory : goal.returns-in_err-read-clause-memory
returns-in_err-read-clause-memory g c =
    let root = named_views c.args.root.tags.items in
    let is : admitted c.args.height c.args.at root ≡ Ok true = rw c.deref.ensures.value at (sym c.admitted.ensures) ∙ (c.in_ok-admitted.was ∙ ap Ok c.if-not-branch.false) in
    let fact : IsAdmitted c.args.height c.args.at (root_tags (document c.args.root)) = rw (members_in-of root) (admitted_true c.args.height c.args.at root is) in
    whatever_fault c.from_residual-in_err-read.result (λ e. e ≡ OutOfMemory) _ fact

pub assembled-requires : goal.assembled-requires
assembled-requires g c =
    let root = named_views c.args.root.tags.items in
    let is : admitted c.args.height c.args.at root ≡ Ok true = rw c.deref.ensures.value at (sym c.admitted.ensures) ∙ (c.in_ok-admitted.was ∙ ap Ok c.if-not-branch.false) in
    let rows : opened (views c.items.result.items) ≡ sections root = rw c.in_ok-sections.ensures.taken at c.items.ensures.rows in
    let taken : option_map view c.in_ok-ticks.ticks ≡ tag_of (codes "fluid_ticks") root =
    rw c.in_ok-sections.ensures.left at c.in_ok-ticks.ensures.taken ∙ tag_of-place_other (codes "fluid_ticks") (codes "sections") blank root refl in
    let water : opened (views c.items-2.result.items) ≡ ticks root = rw taken at c.items-2.ensures.rows in
    let left : named_views c.emptied-2.new.tags.items ≡ emptied (codes "fluid_ticks") (emptied (codes "sections") root) = rw c.in_ok-sections.ensures.left at c.in_ok-ticks.ensures.left in
    let apart = taken_apart c.args.at c.args.height (document c.args.root) root (states (g.N.Numbering.table c.args.numbering.now)) (states (g.N.Numbering.table c.read_parts.new.numbering)) c.emptied-2.new.tags.items c.in_ok-read.read c.in_ok-read.ticks
    c.requires (members_in-of root) (admitted_true c.args.height c.args.at root is) left (rw rows at c.in_ok-read.ensures.sections) (rw water at c.in_ok-read.ensures.ticks) (g.N.Numbering.table c.read_parts.new.numbering).numbered.bounded in
    (document c.args.root, states (g.N.Numbering.table c.args.numbering.now), states (g.N.Numbering.table c.read_parts.new.numbering), apart)

pub returns-clause-ok : goal.returns-clause-ok
returns-clause-ok g c =
    let root = named_views c.args.root.tags.items in
    let is : admitted c.args.height c.args.at root ≡ Ok true = rw c.deref.ensures.value at (sym c.admitted.ensures) ∙ (c.in_ok-admitted.was ∙ ap Ok c.if-not-branch.false) in
    let rows : opened (views c.items.result.items) ≡ sections root = rw c.in_ok-sections.ensures.taken at c.items.ensures.rows in
    let taken : option_map view c.in_ok-ticks.ticks ≡ tag_of (codes "fluid_ticks") root =
    rw c.in_ok-sections.ensures.left at c.in_ok-ticks.ensures.taken ∙ tag_of-place_other (codes "fluid_ticks") (codes "sections") blank root refl in
    let water : opened (views c.items-2.result.items) ≡ ticks root = rw taken at c.items-2.ensures.rows in
    let left : named_views c.emptied-2.new.tags.items ≡ emptied (codes "fluid_ticks") (emptied (codes "sections") root) = rw c.in_ok-sections.ensures.left at c.in_ok-ticks.ensures.left in
    let apart = taken_apart c.args.at c.args.height (document c.args.root) root (states (g.N.Numbering.table c.args.numbering.now)) (states (g.N.Numbering.table c.read_parts.new.numbering)) c.emptied-2.new.tags.items c.in_ok-read.read c.in_ok-read.ticks
    c.requires (members_in-of root) (admitted_true c.args.height c.args.at root is) left (rw rows at c.in_ok-read.ensures.sections) (rw water at c.in_ok-read.ensures.ticks) (g.N.Numbering.table c.read_parts.new.numbering).numbered.bounded in
    c.assembled.ensures (document c.args.root) (states (g.N.Numbering.table c.args.numbering.now)) (states (g.N.Numbering.table c.read_parts.new.numbering)) apart
