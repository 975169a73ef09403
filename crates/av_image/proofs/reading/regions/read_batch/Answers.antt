use Rattle.std.proofs.Common.{◌≢◌, ◌<◌, ◌+◌, get_or, None, sym, subst, arith}
use Rattle.av_types.proofs.Exits.{err_from}
use Rattle.av_types.specs.Positions.{chunk_at}
use Rattle.av_types.specs.declared.fault.Fault.TheVariants.{OutOfMemory}
use Rattle.av_state.specs.Table.{states}
use Rattle.av_section.proofs.Numbers.{OnlyGrows-trans}
use Rattle.av_dealt.specs.Dealt.{AreAtIndices}
use Rattle.av_dealt.proofs.AtIndices.{at_indices-set}
use Rattle.av_image.specs.Ahead.{IsMadeBy}
use Rattle.av_image.specs.RegionsRead.{file_of}
use Rattle.av_image.specs.Ways.{Stops}
use Rattle.av_image.proofs.Grown.{ahead_grown}
use Rattle.av_image.proofs.Ways.{grows_nothing, goes_same, goes_more, goes_stop}
use Rattle.av_image.proofs.reading.regions.read_batch.Goals as goal

pub loop-offset-init : goal.loop-offset-init
loop-offset-init c = record {
  way = goes_same c.args.batch.now.height (file_of c.args.batch.now.pos c.args.batch.now.region.bytes.now) (states c.args.table.now) (states c.args.table.now) c.args.batch.now.first c.args.batch.now.first (c.args.batch.now.first + 0) c.args.stored.now.items c.args.stored.now.items (omega arith) (λ start s. s);
  grown = grows_nothing (states c.args.table.now);
  ahead = c.requires.ahead;
}

pub read_stored-requires-clause-ahead : goal.read_stored-requires-clause-ahead
read_stored-requires-clause-ahead c =
    let b = c.args.batch.now in
    let i = b.first + c.loop-offset.offset in
    rw c.take_at.ensures.taken
    (ahead_grown b.height (states c.args.table.now) (states c.loop-offset.table) b.region.bytes.now (chunk_at b.pos i) i (get_or c.loop-offset.ahead.items c.loop-offset.offset None) c.loop-offset.invariant.grown c.loop-offset.table.numbered.bounded
    (c.loop-offset.invariant.ahead c.loop-offset.offset))

pub returns-in_err-item-clause-err : goal.returns-in_err-item-clause-err
returns-in_err-item-clause-err c =
    let b = c.args.batch.now in
    let f = file_of c.args.batch.now.pos b.region.bytes.now in
    let e = c.in_err-item.field-0.0 in
    let less : b.first + c.loop-offset.offset < 1024 = omega (arith, b.within, c.loop-offset-test.true) in
    err_from c.from_residual.result e (λ x. x ≢ OutOfMemory → Stops c.args.batch.now.height f (states c.args.table.now) b.first c.args.stored.now.items x) c.from_residual.ensures.1
    (λ other. goes_stop c.args.batch.now.height f (states c.args.table.now) (states c.loop-offset.table) b.first (b.first + c.loop-offset.offset) c.args.stored.now.items c.loop-offset.stored.items e less c.loop-offset.invariant.way (c.in_err-item.ensures.err other))

pub returns-in_err-item-clause-table : goal.returns-in_err-item-clause-table
returns-in_err-item-clause-table c = OnlyGrows-trans (states c.args.table.now) (states c.loop-offset.table) (states c.read_stored.new.table) c.loop-offset.invariant.grown c.in_err-item.ensures.table

pub returns-in_err-push-clause-table : goal.returns-in_err-push-clause-table
returns-in_err-push-clause-table c = OnlyGrows-trans (states c.args.table.now) (states c.loop-offset.table) (states c.read_stored.new.table) c.loop-offset.invariant.grown c.in_ok-item.ensures.table

pub loop-offset-preserved : goal.loop-offset-preserved
loop-offset-preserved c =
    let b = c.args.batch.now in
    let f = file_of c.args.batch.now.pos b.region.bytes.now in
    let less : b.first + c.loop-offset.offset < 1024 = omega (arith, b.within, c.loop-offset-test.true) in
    record {
      way = goes_more c.args.batch.now.height f (states c.args.table.now) (states c.loop-offset.table) (states c.read_stored.new.table) b.first (b.first + c.loop-offset.offset) (b.first + (c.loop-offset.offset + 1)) c.args.stored.now.items c.loop-offset.stored.items c.push.new.self.items c.in_ok-item.item
          less (omega arith) c.in_ok-push.ensures.items c.loop-offset.invariant.way c.in_ok-item.ensures.ok c.in_ok-item.ensures.table;
      grown = OnlyGrows-trans (states c.args.table.now) (states c.loop-offset.table) (states c.read_stored.new.table) c.loop-offset.invariant.grown c.in_ok-item.ensures.table;
      ahead = subst (AreAtIndices (IsMadeBy b (states c.args.table.now))) (sym c.take_at.ensures.left) (at_indices-set (IsMadeBy b (states c.args.table.now)) c.loop-offset.ahead.items c.loop-offset.offset None c.loop-offset.invariant.ahead tt);
    }

pub returns-clause-ok : goal.returns-clause-ok
returns-clause-ok c =
    let b = c.args.batch.now in
    goes_same c.args.batch.now.height (file_of c.args.batch.now.pos b.region.bytes.now) (states c.args.table.now) (states c.loop-offset.table) b.first (b.first + c.loop-offset.offset) (b.first + b.extent.count) c.args.stored.now.items c.loop-offset.stored.items
    (omega (arith, c.loop-offset.auto.offset-end, c.loop-offset-test.false)) c.loop-offset.invariant.way
