use Rattle.av_nbt.proofs.Written.{written_document_spells, written_reads_back}
use Rattle.av_nbt.proofs.writer.written_is_spelling.Goals as goal

pub returns-clause-spells : goal.returns-clause-spells
returns-clause-spells c = written_document_spells

pub returns-clause-reads_back : goal.returns-clause-reads_back
returns-clause-reads_back c = written_reads_back
