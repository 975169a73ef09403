use Rattle.std.proofs.Common.{◌≡◌, ◌∙◌, ◌+◌, ◌<◌, false, Some, length, slice_get, slice_set, refl, sym, ap, subst}
use Rattle.std.proofs.lemmas.Option.{slice_get_read, slice_get_within}
use Rattle.std.specs.List.{list_any}
use Rattle.av_cells.specs.Positions.{same_chunk}
use Rattle.av_land.specs.Land.{has_chunk}
use Rattle.av_world.specs.Views.{positions_of}
use Rattle.av_groups.specs.Open.{chunks_in, IsOpen, IsTouched}
use Rattle.av_groups.proofs.Touched.{has_any, is_touched, open_more}
use Rattle.av_groups.proofs.cutting.touch.Goals as goal

pub index-requires : goal.index-requires
index-requires c = subst (λ n. c.in-Some.index < n) (sym (c.args.marks.now.last.ok.0 ∙ c.requires.long)) (slice_get_within (positions_of c.args.world.now) c.in-Some.index c.args.chunk c.in-Some.ensures.found)

pub index_mut-requires : goal.index_mut-requires
index_mut-requires c = subst (λ n. c.in-Some.index < n) (sym (c.args.marks.now.last.ok.0 ∙ c.requires.long)) (slice_get_within (positions_of c.args.world.now) c.in-Some.index c.args.chunk c.in-Some.ensures.found)

pub returns-then-is_touched-clause-touched : goal.returns-then-is_touched-clause-touched
returns-then-is_touched-clause-touched c =
    let told : c.is_touched.result ≡ list_any (λ t. same_chunk t.chunk c.args.chunk) c.args.touches.now.items = c.is_touched.ensures ∙ ap (list_any (λ t. same_chunk t.chunk c.args.chunk)) c.as_slice.ensures.value in
    record { touched = λ h. has_any c.args.touches.now.items c.args.chunk ∙ sym told ∙ c.if-is_touched.true; kept = λ d h. h }

pub returns-clause-gathered : goal.returns-clause-gathered
returns-clause-gathered c =
    let ps = positions_of c.args.world.now in
    let last = c.args.marks.now.last.items in
    let ts = c.args.touches.now.items in
    let i = c.in-Some.index in
    let below : i < length last = subst (λ n. i < n) (sym c.requires.long) (slice_get_within ps i c.args.chunk c.in-Some.ensures.found) in
    let was : slice_get last i ≡ Some c.index.result.now = slice_get_read last (length last) i c.index.result.now refl below c.index.ensures in
    let told : c.is_touched.result ≡ list_any (λ t. same_chunk t.chunk c.args.chunk) ts = c.is_touched.ensures ∙ ap (list_any (λ t. same_chunk t.chunk c.args.chunk)) c.as_slice.ensures.value in
    let new : has_chunk (chunks_in ts) c.args.chunk ≡ false = has_any ts c.args.chunk ∙ sym told ∙ c.if-is_touched.false in
    subst (λ xs. IsOpen ps c.args.closed.now (slice_set last i (length c.args.closed.now + 1)) xs) (sym c.in_ok-push.ensures.items)
    (open_more ps c.args.closed.now last ts (record { chunk = c.args.chunk; index = i; before = c.index.result.now }) i c.args.world.now.lawful.rising c.in-Some.ensures.found refl was c.in-Some.ensures.there new c.requires)

pub returns-clause-touched : goal.returns-clause-touched
returns-clause-touched c =
    let ps = positions_of c.args.world.now in
    let ts = c.args.touches.now.items in
    subst (λ xs. IsTouched ps ts xs c.args.chunk) (sym c.in_ok-push.ensures.items) (is_touched ps ts (record { chunk = c.args.chunk; index = c.in-Some.index; before = c.index.result.now }))
