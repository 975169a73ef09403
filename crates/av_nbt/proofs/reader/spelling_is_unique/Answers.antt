use Rattle.av_nbt.proofs.LawProofs.{one_tag, one_document}
use Rattle.av_nbt.proofs.reader.spelling_is_unique.Goals as goal

pub returns-clause-tag : goal.returns-clause-tag
returns-clause-tag c = one_tag

pub returns-clause-document : goal.returns-clause-document
returns-clause-document c = one_document
