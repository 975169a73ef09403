use Rattle.std.proofs.Common.{◌≡◌, ◌<◌, ◌≤◌, ◌+◌, ◌-◌, ◌*◌, ◌∙◌, ℕ, ⊎_elim, get_or, arith, ap, sym}
use Rattle.std.proofs.lemmas.Bool.{cases_lt}
use Rattle.av_flood.specs.Board.{light_at}
use Rattle.av_flood.proofs.board.Flood.layer.Goals as goal

pub loop-z-preserved : goal.loop-z-preserved
loop-z-preserved c =
    let z = c.loop-z.z in
    let old = c.loop-z.bytes in
    let new = c.put_row.new.layer in
    let row = c.row.result.now in
    let inv = c.loop-z.invariant in
    let in_row = λ (j : ℕ) (from : 16 * z ≤ j) (less : j < 16 * (z + 1)). let e : 16 * z + (j - 16 * z) ≡ j = omega arith in ap (λ i. get_or new i 0) (sym e) ∙ c.put_row.ensures.here (j - 16 * z) (omega arith) in
    record {
      light = λ j less. ⊎_elim
          (λ l. ap (λ n. n - 128) (c.put_row.ensures.others j l) ∙ inv.light j l)
          (λ l. ap (λ n. n - 128) (in_row j l less) ∙ c.row.ensures.light (j - 16 * z) (omega arith) ∙ ap (light_at c.args.self.now) (let e : 256 * c.args.y + 16 * z + (j - 16 * z) ≡ 256 * c.args.y + j = omega arith in e))
          (cases_lt j (16 * z));
      dim = λ j less. ⊎_elim
          (λ l. let e = c.put_row.ensures.others j l in let d = inv.dim j l in omega (arith, e, d))
          (λ l. let e = in_row j l less in let d = c.row.ensures.dim (j - 16 * z) 0 (omega (arith, c.row.ensures.length)) in omega (arith, e, d))
          (cases_lt j (16 * z));
    }
