-- One number, and no longs.
use Rattle.std.proofs.Common.{[], ◌∷◌, ◌++◌, ◌∙◌, ap, refl, arith}
use Rattle.std.proofs.lemmas.Bool.{lt-ltb}
use Rattle.av_pack.proofs.Laws.{packed_at-zeros}
use Rattle.av_section.proofs.PackedLemmas.{packed_one}
use Rattle.av_section.proofs.Ready.{none_below}
use Rattle.av_section.proofs.section.Section.filled.Goals as goal

pub invariant_of-result-clause-packed : goal.invariant_of-result-clause-packed
invariant_of-result-clause-packed c =
    let palette = c.in_ok-push.ensures.items ∙ ap (λ l. l ++ c.args.number ∷ []) c.new-palette.ensures.items in
    rw (palette, c.new.ensures.items) (packed_one c.args.number c.ranges.number.fits)

pub invariant_of-result-clause-known : goal.invariant_of-result-clause-known
invariant_of-result-clause-known c = none_below _

pub returns-clause-ok : goal.returns-clause-ok
returns-clause-ok c =
    let palette = c.in_ok-push.ensures.items ∙ ap (λ l. l ++ c.args.number ∷ []) c.new-palette.ensures.items in
    record {
      numbers = λ i low. rw (lt-ltb i 4096 low, palette, c.new.ensures.items, packed_at-zeros 4 0 i) refl;
      pending = c.in_ok-boxed.ensures;
      prepared = rw palette (0, omega arith, refl);
    }
