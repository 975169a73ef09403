use Rattle.std.proofs.Common.{◌∙◌}
use Rattle.clap.specs.Words.{found_of}
use Rattle.clap.proofs.WalkLemmas.{one_text-rows}
use Rattle.av_words.proofs.values.is_given.Goals as goal

pub returns : goal.returns
returns c =
    let rows_are = one_text-rows (found_of c.args.matches.now) c.args.name.now in record {
      given = λ is. c.get_flag.ensures.value (rows_are ∙ is);
      not_given = λ is. c.get_flag.ensures.other (rows_are ∙ is);
      missing = λ is. c.get_flag.ensures.none (rows_are ∙ is);
    }
