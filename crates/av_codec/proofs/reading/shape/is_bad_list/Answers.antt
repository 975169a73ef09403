use Rattle.std.proofs.Common.{codes, ◌∙◌, sym}
use Rattle.av_tags.specs.ByName.{tag_of}
use Rattle.av_tags.specs.View.{views, named_views}
use Rattle.av_codec.proofs.Numbers.{is_bad_list-at}
use Rattle.av_codec.proofs.reading.shape.is_bad_list.Goals as goal

pub returns-in-Some : goal.returns-in-Some
returns-in-Some c =
    c.has_bad_section.ensures
    ∙ sym (is_bad_list-at c.args.height (tag_of (codes "sections") (named_views c.args.tags.now)) (views c.in-Some.items.now) (sym c.in-Some.ensures))
