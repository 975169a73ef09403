use Rattle.std.proofs.Common.{refl, codes}
use Rattle.av_words.proofs.Nones.{if_none_from}
use Rattle.clap.specs.Words.{found_of, rows_of}
use Rattle.av_words.proofs.Numbers.{stored}
use Rattle.av_words.proofs.command_line.block_words.Goals as goal

pub returns-clause-values : goal.returns-clause-values
returns-clause-values c =
    let rows = rows_of (found_of c.args.matches.now) in (
      refl,
      (
        c.in_ok-file.ensures.value,
        stored rows (codes "X") _ c.in_ok-x.ensures.value,
        stored rows (codes "Y") _ c.in_ok-y.ensures.value,
        stored rows (codes "Z") _ c.in_ok-z.ensures.value,
        c.text_of-table.ensures.either,
        c.is_given-explain.ensures,
      ),
    )

pub returns-in_err-file-clause-none : goal.returns-in_err-file-clause-none
returns-in_err-file-clause-none c = if_none_from c.from_residual.result _ (λ file at table explain h. c.in_err-file.ensures.none file h.0)

pub returns-in_err-x-clause-none : goal.returns-in_err-x-clause-none
returns-in_err-x-clause-none c = if_none_from c.from_residual-in_err-x.result _ (λ file at table explain h. c.in_err-x.ensures.none at.x h.1)

pub returns-in_err-y-clause-none : goal.returns-in_err-y-clause-none
returns-in_err-y-clause-none c = if_none_from c.from_residual-in_err-y.result _ (λ file at table explain h. c.in_err-y.ensures.none at.y h.2)

pub returns-in_err-z-clause-none : goal.returns-in_err-z-clause-none
returns-in_err-z-clause-none c = if_none_from c.from_residual-in_err-z.result _ (λ file at table explain h. c.in_err-z.ensures.none at.z h.3)
