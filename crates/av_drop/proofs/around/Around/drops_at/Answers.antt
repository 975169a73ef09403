use Rattle.std.proofs.Common.{◌≡◌, Bool, true, false, sym, ◌∙◌, ◌&&◌}
use Rattle.std.proofs.lemmas.Bool.{and_parts, true≢false, not-false, not-true}
use Rattle.av_drop.specs.Board.{is_on}
use Rattle.av_drop.proofs.around.Around.drops_at.Goals as goal

second_false : (a b r : Bool) → r ≡ (a && b) → r ≡ false → a ≡ true → b ≡ false
second_false true b r e f h = sym e ∙ f
second_false false b r e f h = absurd (true≢false (sym h))

pub returns-clause-some : goal.returns-clause-some
returns-clause-some c h =
    let there = c.is_empty.ensures.some (not-true c.is_empty.result h) in
    let parts = and_parts (is_on c.args.squares there.square) (is_on c.args.self.drops there.square) (sym (c.among-dropping.ensures there.square) ∙ there.marked) in
    record { square = there.square; first = parts.0; second = parts.1 }

pub returns-clause-none : goal.returns-clause-none
returns-clause-none c h i on =
    second_false (is_on c.args.squares i) (is_on c.args.self.drops i) (is_on c.among-dropping.result i) (c.among-dropping.ensures i)
    (c.is_empty.ensures.none (not-false c.is_empty.result h) i) on
