use Rattle.std.proofs.Common.{refl}
use Rattle.av_state.specs.Table.{states}
use Rattle.av_state.specs.States.{state_of}
use Rattle.av_state.proofs.Numbering.{Numbers-first, Numbers-old, not_new}
use Rattle.av_state.proofs.Found.{number_in-found}
use Rattle.av_state.proofs.table.StateTable.intern.Goals as goal

pub returns-in-Fixed-clause-ok : goal.returns-in-Fixed-clause-ok
returns-in-Fixed-clause-ok c = Numbers-first (states c.args.self.now) (state_of c.args.state.now) c.in-Fixed.number c.args.self.now.numbered c.in-Fixed.ensures.0 c.in-Fixed.ensures.1

pub returns-in-Some-clause-ok : goal.returns-in-Some-clause-ok
returns-in-Some-clause-ok c = Numbers-old (states c.args.self.now) (state_of c.args.state.now) (state_of c.args.state.now) c.in-Some.number c.in-Same.ensures (number_in-found c.as_slice.ensures.value c.args.self.now.numbered c.in-Some.ensures.there)

pub returns-in-Some-clause-too_many : goal.returns-in-Some-clause-too_many
returns-in-Some-clause-too_many c = (
  (λ refused. absurd cc),
  (λ full. absurd (not_new (states c.args.self.now) (state_of c.args.state.now) c.in-Some.number c.in-Same.ensures (number_in-found c.as_slice.ensures.value c.args.self.now.numbered c.in-Some.ensures.there) full)),
)

pub returns-in-NoLevel-clause-ok : goal.returns-in-NoLevel-clause-ok
returns-in-NoLevel-clause-ok c = tt

pub returns-in-NoLevel-clause-no_level : goal.returns-in-NoLevel-clause-no_level
returns-in-NoLevel-clause-no_level c = (λ refused. c.in-NoLevel.ensures, λ none. refl)
