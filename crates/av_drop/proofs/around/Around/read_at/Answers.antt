use Rattle.std.proofs.Common.{ap, ◌∙◌}
use Rattle.av_cells.specs.Kinds.{kinds_of}
use Rattle.av_cells.specs.Rule.{can_pass, can_drop}
use Rattle.av_drop.specs.Board.{spot}
use Rattle.av_drop.proofs.Marks.{marked_one, kept_off}
use Rattle.av_drop.proofs.around.Around.read_at.Goals as goal

pub returns-clause-seen : goal.returns-clause-seen
returns-clause-seen g c =
    let k = kinds_of c.args.kinds.now in
    let w = g.C.Cells.world c.args.cells.now in
    let p = c.args.middle in
    let s = c.requires.seen in
    let at = c.args.square in
    let was = c.args.self.now in
    record {
      passes_are = marked_one (λ i. can_pass k w (spot p i)) was.known c.with-self.result was.passes c.with_if-self.result at c.with-self.ensures.others c.with_if-self.ensures.others s.passes_are
          (c.with_if-self.ensures.here (s.no_passes at c.requires.new) ∙ c.look-seen.ensures.passes_is ∙ ap (can_pass k w) c.spot.ensures.is);
      drops_are = marked_one (λ i. can_drop k w 0 (spot p i)) was.known c.with-self.result was.drops c.with_if-self-2.result at c.with-self.ensures.others c.with_if-self-2.ensures.others s.drops_are
          (c.with_if-self-2.ensures.here (s.no_drops at c.requires.new) ∙ c.look-seen.ensures.drops_is ∙ ap (can_drop k w 0) c.spot.ensures.is);
      no_passes = kept_off was.known c.with-self.result was.passes c.with_if-self.result at c.with-self.ensures.here c.with-self.ensures.others c.with_if-self.ensures.others s.no_passes;
      no_drops = kept_off was.known c.with-self.result was.drops c.with_if-self-2.result at c.with-self.ensures.here c.with-self.ensures.others c.with_if-self-2.ensures.others s.no_drops;
    }
