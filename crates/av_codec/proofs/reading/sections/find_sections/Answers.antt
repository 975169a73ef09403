use Rattle.std.proofs.Common.{◌≡◌, List, ◌∷◌, ◌++◌, false, sym, ap, ◌∙◌, append_assoc}
use Rattle.std.proofs.lemmas.Result.{IfOk-weaker}
use Rattle.std.specs.Vec.Iter.{into_iter_items}
use Rattle.av_tags.specs.declared.tag.Tag.{Tag}
use Rattle.av_tags.specs.View.{view, views}
use Rattle.av_state.specs.Table.{states}
use Rattle.av_document.specs.Chunk.{share_a_number}
use Rattle.av_chunk.specs.Rest.{opened}
use Rattle.av_codec.specs.Working.{tags_in}
use Rattle.av_codec.proofs.Numbers.{new_number}
use Rattle.av_codec.proofs.Rows.{rows-append, rows-push, good_after}
use Rattle.av_section.proofs.Numbers.{OnlyGrows-trans}
use Rattle.av_codec.proofs.Slots.{AreJudged-next, judged_sections, judged_kept, split_fits}
use Rattle.av_codec.proofs.reading.sections.find_sections.Goals as goal

pub judge-requires-clause-fits : goal.judge-requires-clause-fits
judge-requires-clause-fits g c =
    IfOk-weaker c.read_section-split.result _ _
    (λ split is. split_fits c.args.height (states (g.N.Numbering.table c.read_section-split.new.numbering)) (tags_in (view c.in-Some.section)) split is.is_split) c.read_section-split.ensures.ok

pub loop-section-preserved : goal.loop-section-preserved
loop-section-preserved g c =
    let inv = c.loop-section.invariant in
    let x : Tag = c.in-Some.section in
    let rest : List Tag = into_iter_items c.next.new.self in
    let step : into_iter_items c.loop-section.section-iterator ≡ x ∷ rest = c.in-Some.ensures.steps.0 in
    let read = c.read_section-split.result in
    let judged = c.in_ok-refused.ensures in
    let all : c.loop-section.yielded ++ x ∷ rest ≡ c.args.sections.items = rw step at inv.split in
    let apart : share_a_number (opened (views c.loop-section.yielded) ++ tags_in (view x) ∷ opened (views rest)) ≡ false =
    ap share_a_number (sym (rows-append c.loop-section.yielded (x ∷ rest)) ∙ ap (λ ts. opened (views ts)) all) ∙ c.requires.apart in
    record {
      split = rw append_assoc (rw step at inv.split);
      good = good_after c.args.height (view x) (views rest) (rw step at inv.good);
      grown = OnlyGrows-trans _ _ _ inv.grown c.read_section-split.ensures.table;
      same = λ f. c.read_section-split.ensures.same f ∙ inv.same f;
      count = judged_sections c.args.height read c.loop-section.read c.judge.new.self c.loop-section.refused c.in_ok-refused.refused judged inv.count;
      count_kept = judged_kept c.args.height read c.loop-section.read c.judge.new.self c.loop-section.refused c.in_ok-refused.refused judged inv.count_kept;
      so_far = rw (rows-push c.loop-section.yielded x)
          (AreJudged-next g.N.Numbering.takes c.args.height (opened (views c.loop-section.yielded)) (tags_in (view x)) (states (g.N.Numbering.table c.args.numbering.now)) (states (g.N.Numbering.table c.loop-section.numbering)) (states (g.N.Numbering.table c.read_section-split.new.numbering))
          read c.loop-section.read c.judge.new.self c.loop-section.refused c.in_ok-refused.refused c.read_section-split.ensures.table c.read_section-split.ensures.ok c.read_section-split.ensures.err
          (new_number (opened (views c.loop-section.yielded)) (opened (views rest)) (tags_in (view x)) apart) judged inv.so_far);
    }
