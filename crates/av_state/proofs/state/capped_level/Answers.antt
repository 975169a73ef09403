use Rattle.std.proofs.Common.{◌<◌, refl, arith}
use Rattle.std.proofs.lemmas.Bool.{lt-ltb}
use Rattle.av_state.proofs.state.capped_level.Goals as goal

pub returns-in-Some-clause-value : goal.returns-in-Some-clause-value
returns-in-Some-clause-value c =
    let low : c.in-Some.i < 8 = omega arith in
    rw (c.in-Some.is, lt-ltb c.in-Some.i 8 low) refl
