use Rattle.std.proofs.Common.{rules, ap, ◌∙◌}
use Rattle.av_tags.specs.View.{view}
use Rattle.av_tags.proofs.Trees.{items_in_of}
use Rattle.av_tags.proofs.Views.{view_list}
use Rattle.av_tags.proofs.tag.Tag.as_items.Goals as goal

pub returns-in-List : goal.returns-in-List
returns-in-List c =
    let seen = ap view c.in-List.is ∙ view_list c.in-List.field-0 c.in-List.items in
    rw (seen, items_in_of) (search rules)
