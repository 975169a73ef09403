use Rattle.std.proofs.Common.{◌∷◌, ◌++◌, [], length, ap, ◌∙◌, append_assoc}
use Rattle.std.specs.Int.{w32, to_be_bytes}
use Rattle.av_tags.specs.TagTypes.{type_number}
use Rattle.av_tags.specs.Nbt.{items_of}
use Rattle.av_tags.specs.View.{views}
use Rattle.av_nbt.specs.Writing.{written_items}
use Rattle.av_nbt.proofs.Loops.{writes_after}
use Rattle.av_nbt.proofs.Written.{item_count_views}
use Rattle.av_nbt.proofs.writer.+writing.Goals as goal

pub write_list-returns : goal.write_list-returns
write_list-returns t c =
    let k = type_number c.args.tag_type in
    let size = to_be_bytes w32 (length c.args.items.now) in
    let old = c.args.out.now.items in
    let pushed = c.in_ok-push.ensures.items ∙ ap (λ n. old ++ n ∷ []) c.number.ensures in
    let head = c.in_ok-write_length.ensures ∙ ap (λ o. o ++ size) pushed ∙ append_assoc old (k ∷ []) size in
    rw (item_count_views c.args.items.now) (writes_after c.write_items.result (k ∷ size) (written_items (items_of (views c.args.items.now))) old c.write_length.new.out.items c.write_items.new.out.items head c.write_items.ensures)
