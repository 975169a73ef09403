use Rattle.av_types.specs.Positions.{section_of, place_of}
use Rattle.av_world.specs.Views.{sections}
use Rattle.av_world.proofs.Whole.{height_of}
use Rattle.av_world.proofs.LeftNumbers.{same_here, same_number}
use Rattle.av_world.proofs.worlds.World.leave_due.Goals as goal

pub returns-clause-loaded : goal.returns-clause-loaded
returns-clause-loaded c = λ i p. same_here (sections c.args.self.now (section_of p)) (sections c.leave_all.new.self (section_of p)) (c.leave_all.ensures.numbers (section_of p)) i

pub returns-clause-left : goal.returns-clause-left
returns-clause-left c = let old = c.args.self.now in let new = c.leave_all.new.self in let s = c.leave_all.ensures.site in
    λ i. record {
      height = height_of old new s i;
      chunks = (s i).chunks;
      at = λ p. same_number (sections old (section_of p)) (sections new (section_of p)) (place_of p) (c.leave_all.ensures.numbers (section_of p)) i;
      lists = c.leave_all.ensures.lists i;
    }
