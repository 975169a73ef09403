use Rattle.std.proofs.Common.{true, false, sym, ◌∙◌}
use Rattle.std.proofs.lemmas.Bool.{true≢false}
use Rattle.av_drop.proofs.around.Around.new.Goals as goal

pub returns : goal.returns
returns c k w p =
    record {
      passes_are = λ i on. absurd (true≢false (sym on ∙ c.empty.ensures i));
      drops_are = λ i on. absurd (true≢false (sym on ∙ c.empty.ensures i));
      no_passes = λ i off. c.empty-2.ensures i;
      no_drops = λ i off. c.empty-3.ensures i;
    }
