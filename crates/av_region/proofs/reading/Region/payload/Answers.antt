use Rattle.std.proofs.Common.{rules, refl}
use Rattle.av_region.proofs.reading.Region.payload.Goals as goal

pub returns-then-location-eq0-clause-err : goal.returns-then-location-eq0-clause-err
returns-then-location-eq0-clause-err c = record {}

pub returns-then-location-eq0-clause-absent : goal.returns-then-location-eq0-clause-absent
returns-then-location-eq0-clause-absent c = λ _. refl

pub returns-in-3-clause-ok : goal.returns-in-3-clause-ok
returns-in-3-clause-ok c = record { measured = search rules; uncompressed = search rules; bytes = search rules }

pub returns-in-128-to-255-clause-err : goal.returns-in-128-to-255-clause-err
returns-in-128-to-255-clause-err c = record { measured = search rules; cause = search rules }
