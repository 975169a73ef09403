-- The place of the position is marked, in a section that was there or in a new one.
use Rattle.std.proofs.Common.{◌||◌, ◌∙◌, ap}
use Rattle.std.proofs.lemmas.Result.{err_from_is_err_and}
use Rattle.av_types.specs.Positions.{same_pos}
use Rattle.av_ticks.specs.declared.positions.Positions.{Positions}
use Rattle.av_ticks.proofs.Holding.{held_put, held_same}
use Rattle.av_ticks.proofs.positions.Positions.put.Goals as goal

pub returns-then-mark-clause-ok : goal.returns-then-mark-clause-ok
returns-then-mark-clause-ok c =
    let here = rw (c.own_key-key.ensures, c.place.ensures) at c.mark.ensures.here c.if-mark.true in
    let others = rw c.own_key-key.ensures at c.mark.ensures.others c.if-mark.true in
    held_put c.args.self.now _ c.args.pos here others

pub returns-in_err-add_section-clause-err : goal.returns-in_err-add_section-clause-err
returns-in_err-add_section-clause-err c =
    let p = err_from_is_err_and c.from_residual.result c.from_residual.ensures.1 in
    rw p.1 (held_same c.args.self.now _ (c.in_err-add_section.ensures.err ∙ c.mark.ensures.same c.if-mark.false))

pub returns-clause-ok : goal.returns-clause-ok
returns-clause-ok c = λ q.
    let before : Positions = record { sections = c.mark.new.sections } in
    let here = rw (c.own_key-key.ensures, c.place-2.ensures) at c.in_ok-add_section.ensures.here in
    let others = rw c.own_key-key.ensures at c.in_ok-add_section.ensures.others in
    held_put before _ c.args.pos here others q ∙ ap (λ b. same_pos q c.args.pos || b) (held_same c.args.self.now before (c.mark.ensures.same c.if-mark.false) q)
