use Rattle.std.proofs.Common.{◌≡◌, ◌&&◌, ◌==◌, not, false, sym, ◌∙◌}
use Rattle.std.specs.Ordering.{int_eq}
use Rattle.std.proofs.lemmas.Bool.{and_parts, not-false}
use Rattle.std.proofs.lemmas.Bool.Decides.{Decides-int_eq, Decides-eqb}
use Rattle.av_types.specs.declared.position.Height.{Height}
use Rattle.av_types.proofs.HeightNumbers.{height_is}
use Rattle.av_world_tests.proofs.lending.take_back.Goals as goal

same_height : (h k : Height) → not (int_eq h.min_section k.min_section && h.sections == k.sections) ≡ false → h ≡ k
same_height h k e =
    let parts = and_parts (int_eq h.min_section k.min_section) (h.sections == k.sections) (not-false (int_eq h.min_section k.min_section && h.sections == k.sections) e) in
    height_is h k ((Decides-int_eq h.min_section k.min_section).0 parts.0) ((Decides-eqb h.sections k.sections).0 parts.1)

pub take_back-requires-clause-height : goal.take_back-requires-clause-height
take_back-requires-clause-height c = sym c.height-2.ensures ∙ sym (same_height c.height.result c.height-2.result (sym c.ne.ensures ∙ c.if-ne.false)) ∙ c.height.ensures
