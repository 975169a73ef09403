use Rattle.std.proofs.Common.{arith, below_more, length, ap, ◌∙◌}
use Rattle.std.specs.Prelude.{nat_lt}
use Rattle.av_section_light.proofs.RowLemmas.{flag_before, flag_pushed}
use Rattle.av_section_light.proofs.rows.are_shining.Goals as goal

pub loop-number-preserved : goal.loop-number-preserved
loop-number-preserved c =
    let inv = c.loop-number.invariant in
    let pushed = (c.in_ok-push.ensures {u = tt}).items in
    record {
      count = grind (arith, ap length pushed, inv.count);
      each = below_more _ _ (λ i less. flag_before _ _ _ i pushed (omega (arith, inv.count)) ∙ inv.each i less) (flag_pushed _ _ _ _ pushed inv.count ∙ ap (nat_lt 0) c.emission.ensures);
    }

pub returns : goal.returns
returns c =
    let inv = c.loop-number.invariant in
    let end = c.loop-number-test.false in
    let most = c.loop-number.auto.number-index-end in
    record { count = omega (arith, inv.count); each = λ i less. inv.each i (omega arith) }
