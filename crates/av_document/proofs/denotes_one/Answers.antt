use Rattle.std.proofs.Common.{◌∙◌, sym}
use Rattle.av_document.proofs.denotes_one.Goals as goal

pub returns : goal.returns
returns c = λ place h d cells now water then rest other a b. record {
  same_cells = λ p inside. a.cells_are p inside ∙ sym (b.cells_are p inside);
  same_water = a.water_is ∙ sym b.water_is;
  same_name = a.name_is ∙ sym b.name_is;
  same_tags = a.tags_are ∙ sym b.tags_are;
  same_foreign = a.foreign_are ∙ sym b.foreign_are;
  same_outside = λ y. a.outside_is y ∙ sym (b.outside_is y);
  same_section = λ y inside. a.section_is y inside ∙ sym (b.section_is y inside);
}
