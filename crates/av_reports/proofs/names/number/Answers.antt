use Rattle.std.proofs.Common.{w32, ap, ◌∙◌}
use Rattle.std.specs.Result.{result_ok}
use Rattle.std.proofs.lemmas.Fmt.{parse-signed_decimal}
use Rattle.av_reports.proofs.Texts.{small_number}
use Rattle.av_reports.proofs.names.number.Goals as goal

pub returns : goal.returns
returns c = λ n fits is.
    c.ok.ensures.value ∙ ap result_ok (parse-signed_decimal w32 n c.args.text.now c.parse.result fits (small_number n fits) is c.parse.ensures.value.0)
