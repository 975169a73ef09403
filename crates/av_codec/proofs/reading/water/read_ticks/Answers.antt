use Rattle.std.proofs.Common.{◌≡◌, ◌∙◌, sym, ap, false, List, ◌∷◌}
use Rattle.std.specs.Vec.Iter.{into_iter_items}
use Rattle.av_tags.specs.Nbt.{Nbt}
use Rattle.av_tags.specs.Shape.{compound_of, lacks}
use Rattle.av_tags.specs.View.{view, views}
use Rattle.av_document.specs.Ticks.{with_water}
use Rattle.av_chunk.specs.Rest.{opened}
use Rattle.av_types.proofs.Exits.{err_from}
use Rattle.av_codec.specs.TicksRead.{AreBadTicks}
use Rattle.av_codec.proofs.Rows.{foreign_step, kept_step, good_step, bad_step, first_compound, others_after}
use Rattle.av_codec.proofs.reading.water.read_ticks.Goals as goal

pub loop-tick-preserved : goal.loop-tick-preserved
loop-tick-preserved c =
    let inv = c.loop-tick.invariant in
    let t = view c.in-Some.tick in
    let rest : List Nbt = views (into_iter_items c.next.new.self) in
    let step : views (into_iter_items c.loop-tick.tick-iterator) ≡ t ∷ rest = ap views c.in-Some.ensures.steps.0 in
    let added = c.in_ok-add.ensures.added in
    let compound : lacks (compound_of t) ≡ false = first_compound t rest (rw step at inv.compounds) in
    record {
      water = ap (λ es. with_water es (opened rest)) added.water ∙ rw step at inv.water;
      foreign_are = foreign_step c.args.at c.args.height t rest c.loop-tick.read c.add.new.self added ∙ rw step at inv.foreign_are;
      good = good_step c.args.at c.args.height t rest added.good ∙ rw step at inv.good;
      compounds = others_after t rest (rw step at inv.compounds);
      kept = kept_step c.args.at c.args.height t c.loop-tick.read c.add.new.self added compound inv.kept;
    }

pub returns-in_err-add-clause-err : goal.returns-in_err-add-clause-err
returns-in_err-add-clause-err c =
    let t = view c.in-Some.tick in
    let rest : List Nbt = views (into_iter_items c.next.new.self) in
    let step : views (into_iter_items c.loop-tick.tick-iterator) ≡ t ∷ rest = ap views c.in-Some.ensures.steps.0 in
    let bad = c.in_err-add.ensures.err in
    err_from c.from_residual.result c.in_err-add.field-0.0 (AreBadTicks c.args.at c.args.height (opened (views c.args.ticks.items))) c.from_residual.ensures.1
    (record { is = bad.is; bad = λ other. sym (rw step at c.loop-tick.invariant.good) ∙ bad_step c.args.at c.args.height t rest (bad.bad other) })
