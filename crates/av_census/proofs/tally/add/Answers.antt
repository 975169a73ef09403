use Rattle.std.proofs.Common.{refl, ap, ◌∙◌}
use Rattle.std.specs.BTreeMap.{is_at}
use Rattle.std.specs.Map.{lookup}
use Rattle.av_census.specs.Census.{state_order}
use Rattle.av_census.proofs.States.{get_same, tallies_one, tallies_new}
use Rattle.av_census.proofs.tally.add.Goals as goal

pub returns-then-raise : goal.returns-then-raise
returns-then-raise c =
    let s = c.args.state.now in
    tallies_one c.args.tally.now c.raise.new.tally s s refl c.args.more (c.raise.ensures.here c.if-raise.true) (c.raise.ensures.others c.if-raise.true) c.requires.some

pub add_state-requires : goal.add_state-requires
add_state-requires c =
    let key = c.in_ok-key.key in
    record { absent = ap (λ es. lookup (is_at (state_order key)) es) (c.raise.ensures.same c.if-raise.false) ∙ get_same c.args.tally.now key c.args.state.now c.in_ok-key.ensures.cases ∙ c.raise.ensures.absent c.if-raise.false }

pub returns : goal.returns
returns c =
    tallies_new c.args.tally.now c.raise.new.tally c.add_state.new.tally c.args.state.now c.in_ok-key.key c.args.more c.in_ok-key.ensures.cases (c.raise.ensures.same c.if-raise.false) (c.raise.ensures.absent c.if-raise.false)
    c.in_ok-add_state.ensures.here c.in_ok-add_state.ensures.others c.requires.some
