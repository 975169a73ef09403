use Rattle.std.proofs.lemmas.List.{get_or_read}
use Rattle.av_rules.specs.Rows.{shut_row}
use Rattle.av_rules.proofs.kinds.Kinds.row.Goals as goal

pub returns : goal.returns
returns c = get_or_read c.args.self.now.rows.items _ _ c.requires c.index.ensures shut_row
