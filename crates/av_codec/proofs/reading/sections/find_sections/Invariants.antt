use Rattle.std.proofs.Common.{◌≡◌, false, ◌++◌, length}
use Rattle.std.specs.Vec.Iter.{into_iter_items}
use Rattle.av_tags.specs.View.{views}
use Rattle.av_state.specs.Table.{states}
use Rattle.av_section.specs.Reading.{OnlyGrows}
use Rattle.av_codec.specs.Working.{has_bad_number}
use Rattle.av_chunk.specs.Rest.{opened}
use Rattle.av_codec.specs.SectionsRead.{AreJudged}
use Rattle.av_codec.proofs.reading.sections.find_sections.Given as goal

abbrev pub invariant-loop-section : goal.invariant-loop-section
invariant-loop-section g l = record {
  split : l.yielded ++ into_iter_items l.section-iterator ≡ l.fn.sections.items;
  good : has_bad_number l.height (views (into_iter_items l.section-iterator)) ≡ false;
  grown : OnlyGrows (states (g.N.Numbering.table l.fn.numbering)) (states (g.N.Numbering.table l.numbering));
  same : g.N.Numbering.takes ≡ false → states (g.N.Numbering.table l.numbering) ≡ states (g.N.Numbering.table l.fn.numbering);
  count : length l.read.sections.items ≡ l.height.sections;
  count_kept : length l.read.kept.items ≡ l.height.sections;
  so_far : AreJudged g.N.Numbering.takes l.height (opened (views l.yielded)) (states (g.N.Numbering.table l.fn.numbering)) (states (g.N.Numbering.table l.numbering)) l.read l.refused;
}
