use Rattle.av_folders.proofs.Words.{word_at}
use Rattle.av_folders.proofs.locks.word.Goals as goal

pub returns : goal.returns
returns c = word_at c.args.words.now c.args.at c.get.result c.copied.result c.get.ensures.lookup c.copied.ensures
