use Rattle.std.proofs.Common.{refl, ◌+◌, arith}
use Rattle.av_rules.specs.Kinds.{kind_count}
use Rattle.av_cells.specs.Kinds.{kinds_of}
use Rattle.av_world.specs.Lands.{land_of}
use Rattle.av_edits.specs.Numbered.{number_sets}
use Rattle.av_serial.proofs.Keeps.{chunks_on, chunks_refl, sound_on}
use Rattle.av_serial.proofs.RunSteps.{run_next, count_next, can_apply_all}
use Rattle.av_serial.proofs.runs.run_sorted.Goals as goal

pub next_tick-requires-clause-sound : goal.next_tick-requires-clause-sound
next_tick-requires-clause-sound g c = sound_on c.args.world.now c.loop-done.world c.loop-done.invariant.chunks c.requires.sound

pub next_tick-requires-clause-edits : goal.next_tick-requires-clause-edits
next_tick-requires-clause-edits g c = can_apply_all (kind_count c.args.kinds.now) c.args.world.now c.loop-done.world c.args.edits.now c.loop-done.invariant.chunks c.requires.edits

pub loop-done-init : goal.loop-done-init
loop-done-init g c = record {
  run_is = refl;
  count_is = refl;
  few = omega arith;
  ready = c.requires.ready;
  chunks = chunks_refl c.args.world.now;
  stands = record { within = omega arith; passed = λ i d low less. absurd (omega arith); later = c.soonest-next.ensures };
}

pub loop-done-preserved : goal.loop-done-preserved
loop-done-preserved g c =
    let i = c.loop-done.invariant in let e = c.in_ok-count.ensures in
    let k = kinds_of c.args.kinds.now in let es = number_sets c.args.edits.now in
    let old = c.args.world.now in let mid = c.loop-done.world in let new = c.next_tick.new.world in
    record {
      run_is = run_next k es c.loop-done.done (c.loop-done.done + 1) (land_of old) (land_of mid) (land_of new) refl i.run_is e.done;
      count_is = count_next k es c.loop-done.done (c.loop-done.done + 1) c.loop-done.total c.in_ok-count.count (land_of old) (land_of mid) refl i.run_is i.count_is e.count;
      few = omega arith;
      ready = e.ready;
      chunks = chunks_on old mid new i.chunks e.chunks;
      stands = e.schedule;
    }
