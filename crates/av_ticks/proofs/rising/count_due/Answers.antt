-- The count is where the entries part.
use Rattle.std.proofs.Common.{◌≡◌, rules, arith, false, length, get_or, pos}
use Rattle.av_types.specs.declared.tick.Entry.{Entry}
use Rattle.av_ticks.specs.Entries.{is_due}
use Rattle.av_ticks.proofs.Times.{part_at, part_at_end, passing, failing}
use Rattle.av_ticks.proofs.rising.count_due.Goals as goal

-- what stands where nothing stands
abbrev none : Entry
none = record { pos = record { x = pos 0; y = pos 0; z = pos 0 }; due = pos 0; priority = pos 0 }

pub returns-then-entry-now-clause-due : goal.returns-then-entry-now-clause-due
returns-then-entry-now-clause-due c =
    let es = c.args.entries.now in let n = c.loop-index.index in
    let here : is_due c.args.now (get_or es n none) ≡ false = search rules in
    passing (is_due c.args.now) es n (omega (arith, c.loop-index-test.true)) (part_at c.args.now es n none c.requires c.loop-index.invariant here)

pub returns-then-entry-now-clause-others : goal.returns-then-entry-now-clause-others
returns-then-entry-now-clause-others c =
    let es = c.args.entries.now in let n = c.loop-index.index in
    let here : is_due c.args.now (get_or es n none) ≡ false = search rules in
    failing (is_due c.args.now) es n (omega (arith, c.loop-index-test.true)) (part_at c.args.now es n none c.requires c.loop-index.invariant here)

pub returns-clause-due : goal.returns-clause-due
returns-clause-due c =
    let es = c.args.entries.now in
    passing (is_due c.args.now) es (length es) (omega arith) (part_at_end c.args.now es c.loop-index.index (omega (arith, c.loop-index-test.false)) c.loop-index.invariant)

pub returns-clause-others : goal.returns-clause-others
returns-clause-others c =
    let es = c.args.entries.now in
    failing (is_due c.args.now) es (length es) (omega arith) (part_at_end c.args.now es c.loop-index.index (omega (arith, c.loop-index-test.false)) c.loop-index.invariant)
