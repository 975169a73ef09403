use Rattle.std.proofs.Math.Facts.{Fits-lt-pow}
use Rattle.av_nbt.proofs.LawProofs.{gives_spelled, gives_refused}
use Rattle.av_nbt.proofs.reader.decode.Goals as goal

pub returns-clause-spelled : goal.returns-clause-spelled
returns-clause-spelled c = gives_spelled c.root.result c.args.bytes.now (λ i. Fits-lt-pow (c.type_inv.bytes i)) c.root.ensures

pub returns-clause-refused : goal.returns-clause-refused
returns-clause-refused c = gives_refused c.root.result c.args.bytes.now c.root.ensures
