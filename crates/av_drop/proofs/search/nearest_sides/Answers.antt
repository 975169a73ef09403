use Rattle.std.proofs.Common.{sym, ◌∙◌, arith}
use Rattle.av_cells.specs.Kinds.{kinds_of}
use Rattle.av_drop.proofs.Nearest.{none_are_chosen, first_dropping_are_chosen}
use Rattle.av_drop.proofs.search.nearest_sides.Goals as goal

pub returns-then-not-has_any : goal.returns-then-not-has_any
returns-then-not-has_any g c = none_are_chosen (kinds_of c.args.kinds.now) (g.C.Cells.world c.args.cells.now) c.args.pos c.args.ways c.requires.ways (sym c.has_any.ensures ∙ c.if-not-has_any.true)

pub returns-then-has_any : goal.returns-then-has_any
returns-then-has_any g c =
    first_dropping_are_chosen (kinds_of c.args.kinds.now) (g.C.Cells.world c.args.cells.now) c.args.pos c.args.ways c.ways_down-down.result 0 (omega arith) c.requires.ways
    (record { at = λ d m less way. absurd (omega (arith, less)) }) c.ways_down-down.ensures (sym c.has_any-2.ensures ∙ c.if-has_any.true)
