use Rattle.std.proofs.Common.{arith}
use Rattle.av_edits.proofs.Digits.{limit_few}
use Rattle.av_edits.proofs.words.value.Goals as goal

pub overflow_mul-value : goal.overflow_mul-value
overflow_mul-value c = let a = limit_few c.loop-digit.digit-index (omega (arith, c.loop-digit-test.true, c.requires.few)) in let b = c.loop-digit.invariant.small in omega (arith, a, b)

pub overflow_add-value : goal.overflow_add-value
overflow_add-value c = let a = limit_few c.loop-digit.digit-index (omega (arith, c.loop-digit-test.true, c.requires.few)) in let b = c.loop-digit.invariant.small in let d = c.from.ensures in omega (arith, a, b, d)
