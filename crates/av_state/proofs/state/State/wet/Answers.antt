use Rattle.std.proofs.Common.{refl}
use Rattle.std.proofs.lemmas.Bool.{lt-ltb, ne_eqb}
use Rattle.av_state.proofs.state.State.wet.Goals as goal

pub returns-in-Some : goal.returns-in-Some
returns-in-Some c =
    rw (← c.if-not-is_water.ensures, ← c.in-Some.ensures.value, ne_eqb c.in-Some.level 0 c.in-Some.level-test.1, lt-ltb c.in-Some.level 8 c.if-level-lt8.true) refl
