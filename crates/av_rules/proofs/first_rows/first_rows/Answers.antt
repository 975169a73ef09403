use Rattle.std.proofs.Common.{◌≡◌, suc, ◌-◌, ◌<◌, ◌∷◌, length, drop, get_or, set, sym, ap, subst, ◌∙◌, arith}
use Rattle.std.proofs.Math.Seq.{drop-cons}
use Rattle.std.proofs.lemmas.List.{drop-map, length-set}
use Rattle.av_rules.specs.FirstRows.{bucket_of}
use Rattle.av_rules.specs.Views.{table_row_of, table_rows_of}
use Rattle.av_rules.proofs.FirstRows.{AreFirstFrom, one_more}
use Rattle.av_rules.proofs.first_rows.first_rows.Goals as goal

pub loop-index-preserved : goal.loop-index-preserved
loop-index-preserved c =
    let all = c.args.rows.now in
    let rows = table_rows_of all in
    let count = c.next_power_of_two-count.result in
    let heads = c.loop-index.heads.items in
    let i = c.loop-index.index - 1 in
    let row = get_or all i c.index-rows-index.result in
    let next : c.loop-index.index ≡ suc i = omega (arith, c.loop-index-test.true) in
    let low : i < length all = omega (arith, c.loop-index-test.true, c.loop-index.auto.index) in
    let is : c.bucket_of-bucket.result ≡ bucket_of count row.name.items = c.bucket_of-bucket.ensures.value ∙ ap (bucket_of count) c.as_slice.ensures.value in
    let parts : drop i rows ≡ table_row_of row ∷ drop (suc i) rows =
    drop-map table_row_of i all ∙ ap table_rows_of (drop-cons all i c.index-rows-index.result low) ∙ ap (λ l. table_row_of row ∷ l) (sym (drop-map table_row_of (suc i) all)) in
    let long = c.loop-index.invariant.long in
    let firsts = one_more count rows i heads (table_row_of row) long (subst (λ b. b < count) is c.bucket_of-bucket.ensures.within) parts
    (subst (λ n. AreFirstFrom count rows n heads) next c.loop-index.invariant.firsts) in
    let stored : AreFirstFrom count rows i (set heads (bucket_of count row.name.items) c.in_32_bits-in-loop-index.result) =
    subst (λ n. AreFirstFrom count rows i (set heads (bucket_of count row.name.items) n)) (sym c.in_32_bits-in-loop-index.ensures) firsts in
    record {
      long = long ∙ sym (length-set heads c.bucket_of-bucket.result c.in_32_bits-in-loop-index.result);
      firsts = subst (λ b. AreFirstFrom count rows i (set heads b c.in_32_bits-in-loop-index.result)) (sym is) stored;
    }
