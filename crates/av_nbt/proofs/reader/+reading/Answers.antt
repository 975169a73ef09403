use Rattle.std.proofs.Common.{length, [], ◌∷◌, ap, ◌∙◌, sym, arith}
use Rattle.std.proofs.lemmas.List.{map-append}
use Rattle.av_tags.specs.View.{view, views, named_view, named_views}
use Rattle.av_nbt.specs.Reading.{type_at, named_at, payload_at, repeat_at, until_end}
use Rattle.av_nbt.proofs.Loops.{fails_whole, gives_err, repeat_more, repeat_stops, named_more, named_end, named_no_type, named_no_tag}
use Rattle.av_nbt.proofs.reader.+reading.Goals as goal

pub items-returns-in_err-tag : goal.items-returns-in_err-tag
items-returns-in_err-tag t c =
    let read = payload_at c.args.depth c.args.tag_type in
    let whole = repeat_at read c.args.count c.args.bytes.now in
    gives_err (λ p. (views p.0.items, p.1.now)) c.from_residual-in_err-tag.result c.in_err-tag.field-0.0 whole c.from_residual-in_err-tag.ensures.1
    (fails_whole c.in_err-tag.field-0.0 (read c.loop.rest.now) whole (repeat_stops read (views c.loop.items.items) c.args.count c.loop.counter c.loop.rest.now whole c.loop-test.true c.loop.invariant) c.in_err-tag.ensures)

pub items-loop-preserved : goal.items-loop-preserved
items-loop-preserved t c =
    let read = payload_at c.args.depth c.args.tag_type in
    let pushed = ap views c.in_ok-push.ensures.items ∙ map-append view c.loop.items.items (c.in_ok-tag.tag ∷ []) in
    rw pushed (repeat_more read (views c.loop.items.items) c.args.count c.loop.counter c.loop.rest.now (repeat_at read c.args.count c.args.bytes.now) c.in_ok-tag.after.now (view c.in_ok-tag.tag) c.loop-test.true c.in_ok-tag.ensures c.loop.invariant)

pub named_tags-returns-in_err-tag_type : goal.named_tags-returns-in_err-tag_type
named_tags-returns-in_err-tag_type t c =
    let read = payload_at c.args.depth in
    let count = length c.args.bytes.now in
    let whole = until_end read count c.args.bytes.now in
    gives_err (λ p. (named_views p.0.items, p.1.now)) c.from_residual.result c.in_err-tag_type.field-0.0 whole c.from_residual.ensures.1
    (fails_whole c.in_err-tag_type.field-0.0 (type_at c.loop.rest.now) whole (named_no_type read (named_views c.loop.tags.items) count c.loop.counter c.loop.rest.now whole (omega arith) c.loop.invariant) c.in_err-tag_type.ensures)

pub named_tags-returns-then-is_end : goal.named_tags-returns-then-is_end
named_tags-returns-then-is_end t c =
    let read = payload_at c.args.depth in
    let count = length c.args.bytes.now in
    let whole = until_end read count c.args.bytes.now in
    named_end read (named_views c.loop.tags.items) count c.loop.counter c.loop.rest.now whole (omega arith) c.loop.invariant c.in_ok-tag_type.after.now c.in_ok-tag_type.tag_type c.in_ok-tag_type.ensures (sym c.is_end.ensures ∙ c.if-is_end.true)

pub named_tags-returns-in_err-tag : goal.named_tags-returns-in_err-tag
named_tags-returns-in_err-tag t c =
    let read = payload_at c.args.depth in
    let count = length c.args.bytes.now in
    let whole = until_end read count c.args.bytes.now in
    gives_err (λ p. (named_views p.0.items, p.1.now)) c.from_residual-in_err-tag.result c.in_err-tag.field-0.0 whole c.from_residual-in_err-tag.ensures.1
    (fails_whole c.in_err-tag.field-0.0 (named_at read c.in_ok-tag_type.tag_type c.in_ok-tag_type.after.now) whole
    (named_no_tag read (named_views c.loop.tags.items) count c.loop.counter c.loop.rest.now whole (omega arith) c.loop.invariant c.in_ok-tag_type.after.now c.in_ok-tag_type.tag_type c.in_ok-tag_type.ensures (sym c.is_end.ensures ∙ c.if-is_end.false)) c.in_err-tag.ensures)

pub named_tags-loop-preserved : goal.named_tags-loop-preserved
named_tags-loop-preserved t c =
    let read = payload_at c.args.depth in
    let count = length c.args.bytes.now in
    let whole = until_end read count c.args.bytes.now in
    let pushed = ap named_views c.in_ok-push.ensures.items ∙ map-append named_view c.loop.tags.items (c.in_ok-tag.tag ∷ []) in
    rw pushed
    (named_more read (named_views c.loop.tags.items) count c.loop.counter c.loop.rest.now whole (omega arith) c.loop.invariant c.in_ok-tag_type.after.now c.in_ok-tag.after.now c.in_ok-tag_type.tag_type (named_view c.in_ok-tag.tag) c.in_ok-tag_type.ensures (sym c.is_end.ensures ∙ c.if-is_end.false)
    c.in_ok-tag.ensures)
