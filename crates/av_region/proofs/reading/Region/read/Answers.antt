use Rattle.std.proofs.Common.{refl, arith}
use Rattle.av_region.proofs.reading.Region.read.Goals as goal

pub returns-clause-ok : goal.returns-clause-ok
returns-clause-ok c = refl

pub returns-then-bytes-lt-HEADER-clause-short_header : goal.returns-then-bytes-lt-HEADER-clause-short_header
returns-then-bytes-lt-HEADER-clause-short_header c = (λ _. record { nonempty = omega arith; short = omega arith }, λ _. refl)
