use Rattle.std.proofs.Common.{rules, codes, arith, zero, suc}
use Rattle.av_reports.specs.Names.{HasNoDot}
use Rattle.av_reports.proofs.names.coordinates.Goals as goal
use Rattle.av_reports.proofs.names.coordinates.Goals.{else-eq-via-then-eq+else-eq-2, else-eq-via-else-eq}

r_no_dot : HasNoDot (codes "r")
r_no_dot zero lt = λ e. absurd (omega arith)
r_no_dot (suc i) lt = absurd (omega arith)

pub returns-in_err-first : goal.returns-in_err-first
returns-in_err-first c = λ x z nx nz is. absurd (c.in_err-first.ensures (codes "r") _ r_no_dot is)

pub returns-in_err-x : goal.returns-in_err-x
returns-in_err-x c = λ x z nx nz is.
    let one = c.in_ok-first.ensures (codes "r") _ r_no_dot is in
    absurd (c.in_err-x.ensures x _ nx one.1)

pub returns-in_err-z : goal.returns-in_err-z
returns-in_err-z c = λ x z nx nz is.
    let one = c.in_ok-first.ensures (codes "r") _ r_no_dot is in
    let two = c.in_ok-x.ensures x _ nx one.1 in
    absurd (c.in_err-z.ensures z _ nz two.1)

pub returns-then-eq-2 : goal.returns-then-eq-2
returns-then-eq-2 c = λ x z nx nz is.
    let one = c.in_ok-first.ensures (codes "r") _ r_no_dot is in
    let two = c.in_ok-x.ensures x _ nx one.1 in
    let three = c.in_ok-z.ensures z _ nz two.1 in
    (two.0, three.0)

pub returns-else-eq : goal.returns-else-eq
returns-else-eq c = λ x z nx nz is.
    let one = c.in_ok-first.ensures (codes "r") _ r_no_dot is in
    let two = c.in_ok-x.ensures x _ nx one.1 in
    let three = c.in_ok-z.ensures z _ nz two.1 in
    elim c.else-eq.branch [ else-eq-via-then-eq+else-eq-2 w ↦ search rules | else-eq-via-else-eq w ↦ search rules ]
