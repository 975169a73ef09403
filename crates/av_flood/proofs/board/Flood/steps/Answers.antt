use Rattle.std.proofs.Common.{arith, pos, ◌+ℤ◌, ◌-ℤ◌, ◌*ℤ◌, ◌<ℤ◌, ◌≤ℤ◌, ◌*◌}
use Rattle.std.proofs.lemmas.Int.{ints}
use Rattle.av_flood.proofs.Beside.{between_ends}
use Rattle.av_flood.proofs.board.Flood.steps.Goals as goal

pub across-requires-clause-low : goal.across-requires-clause-low
across-requires-clause-low c = let l : (pos 16 *ℤ c.args.self.now.chunk.x -ℤ pos 14) ≤ℤ c.args.pos.x = (between_ends c.args.self.now.chunk c.args.self.now.height c.args.pos c.requires).x.low in omega (arith, ints)

pub across-requires-clause-high : goal.across-requires-clause-high
across-requires-clause-high c = let h : c.args.pos.x <ℤ ((pos 16 *ℤ c.args.self.now.chunk.x -ℤ pos 14) +ℤ pos 44) = (between_ends c.args.self.now.chunk c.args.self.now.height c.args.pos c.requires).x.high in omega (arith, ints)

pub across-requires-2-clause-low : goal.across-requires-2-clause-low
across-requires-2-clause-low c = let l : (pos 16 *ℤ c.args.self.now.chunk.z -ℤ pos 14) ≤ℤ c.args.pos.z = (between_ends c.args.self.now.chunk c.args.self.now.height c.args.pos c.requires).z.low in omega (arith, ints)

pub across-requires-2-clause-high : goal.across-requires-2-clause-high
across-requires-2-clause-high c = let h : c.args.pos.z <ℤ ((pos 16 *ℤ c.args.self.now.chunk.z -ℤ pos 14) +ℤ pos 44) = (between_ends c.args.self.now.chunk c.args.self.now.height c.args.pos c.requires).z.high in omega (arith, ints)

pub up-requires-clause-low : goal.up-requires-clause-low
up-requires-clause-low c = let l : (pos 16 *ℤ c.args.self.now.height.min_section) ≤ℤ c.args.pos.y = (between_ends c.args.self.now.chunk c.args.self.now.height c.args.pos c.requires).y.low in omega (arith, ints)

pub up-requires-clause-high : goal.up-requires-clause-high
up-requires-clause-high c = let h : c.args.pos.y <ℤ ((pos 16 *ℤ c.args.self.now.height.min_section) +ℤ pos (16 * c.args.self.now.height.sections)) = (between_ends c.args.self.now.chunk c.args.self.now.height c.args.pos c.requires).y.high in omega (arith, ints)

pub returns : goal.returns
returns c =
    record {
      x = record { less = c.across.ensures.less; is = omega (arith, ints, c.across.ensures.is) };
      z = record { less = c.across-2.ensures.less; is = omega (arith, ints, c.across-2.ensures.is) };
      y = record { less = omega (arith, c.up.ensures.less); is = omega (arith, ints, c.up.ensures.is) };
    }
