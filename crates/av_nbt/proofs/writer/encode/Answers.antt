use Rattle.std.proofs.Common.{◌++◌, ap, ◌∙◌}
use Rattle.av_tags.specs.View.{document}
use Rattle.av_nbt.specs.Writing.{written_document}
use Rattle.av_nbt.proofs.Written.{tags_fit}
use Rattle.av_nbt.proofs.writer.encode.Goals as goal

pub write_root-requires-clause-tags : goal.write_root-requires-clause-tags
write_root-requires-clause-tags c = tags_fit (document c.args.root.now) c.requires

pub returns-clause-written : goal.returns-clause-written
returns-clause-written c = c.in_ok-write_root.ensures ∙ ap (λ o. o ++ written_document (document c.args.root.now)) c.in_ok-out.ensures.items
