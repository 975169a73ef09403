use Rattle.std.proofs.Common.{rules, ap, ◌∙◌}
use Rattle.av_tags.specs.View.{view}
use Rattle.av_tags.proofs.Trees.{members_in_of}
use Rattle.av_tags.proofs.Views.{view_compound}
use Rattle.av_tags.proofs.tag.Tag.into_members.Goals as goal

pub returns-in-Compound : goal.returns-in-Compound
returns-in-Compound c =
    let seen = ap view c.in-Compound.is ∙ view_compound c.in-Compound.members in
    rw (seen, members_in_of) (search rules)
