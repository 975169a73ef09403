use Rattle.std.proofs.Common.{sym, ◌∙◌}
use Rattle.av_tags.proofs.Views.{name_in_view}
use Rattle.av_tags.proofs.tag.Named.name.Goals as goal

pub returns : goal.returns
returns c = c.as_slice.ensures.value ∙ sym (name_in_view c.args.self.now)
