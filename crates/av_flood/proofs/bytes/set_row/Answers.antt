use Rattle.std.proofs.Common.{arith, ◌+◌, ◌*◌, ◌<◌, ◌≡◌, ◌≢◌, ◌∙◌, length, below_more}
use Rattle.std.proofs.lemmas.List.{get_or-set_same, get_or-set_other}
use Rattle.av_flood.specs.Offsets.{apart}
use Rattle.av_flood.proofs.Boards.{apart_at}
use Rattle.av_flood.proofs.bytes.set_row.Goals as goal

pub loop-x-preserved : goal.loop-x-preserved
loop-x-preserved c =
    let xs = c.loop-x.layer in
    let at = 44 * c.args.z + c.loop-x.x in
    let v = c.away.result + c.away-in-loop-x.result in
    let less : at < length xs = omega arith in
    let apart_is = apart_at c.loop-x.x c.args.z c.loop-x-test.true c.requires.z in
    let is : v ≡ apart at = omega (arith, apart_is, c.away.ensures, c.away-in-loop-x.ensures) in
    record {
      here = below_more _ _ (λ x l. get_or-set_other xs at (44 * c.args.z + x) v 0 (let ne : 44 * c.args.z + x ≢ at = omega arith in ne) ∙ c.loop-x.invariant.here x l) (get_or-set_same xs at v 0 less ∙ is);
      others = λ i l. get_or-set_other xs at i v 0 (let ne : i ≢ at = omega arith in ne) ∙ c.loop-x.invariant.others i l;
    }
