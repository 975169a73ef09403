use Rattle.std.proofs.Common.{◌≡◌, ◌≢◌, subst, arith}
use Rattle.av_types.proofs.Exits.{err_from}
use Rattle.av_types.specs.declared.fault.Fault.TheVariants.{OutOfMemory}
use Rattle.av_state.specs.Table.{states}
use Rattle.av_files.specs.Layout.{indices}
use Rattle.av_files.specs.FirstFault.{IsFirstOfIndices}
use Rattle.av_image.specs.RegionsRead.{file_of}
use Rattle.av_image.specs.Ways.{IndicesSoFar}
use Rattle.av_image.proofs.Ways.{indices_all}
use Rattle.av_image.proofs.reading.regions.read_all.Goals as goal

pub returns-in_err-read_batch-clause-err : goal.returns-in_err-read_batch-clause-err
returns-in_err-read_batch-clause-err g c =
    let e = c.in_err-read_batch.field-0.0 in
    let f = file_of c.args.pos c.args.region.now.bytes.now in
    err_from c.from_residual-in_err-read_batch.result e (λ x. x ≢ OutOfMemory → IsFirstOfIndices c.args.height (states c.args.table.now) f indices x) c.from_residual-in_err-read_batch.ensures.1
    (λ other. c.in_err-read_batch.ensures.err other (states c.args.table.now) c.loop-first.invariant.so_far)

pub loop-first-preserved : goal.loop-first-preserved
loop-first-preserved g c = record {
  within = c.extent_from.ensures.within;
  so_far = c.in_ok-read_batch.ensures.ok (states c.args.table.now) c.loop-first.invariant.so_far;
}

pub returns-clause-ok : goal.returns-clause-ok
returns-clause-ok g c =
    let f = file_of c.args.pos c.args.region.now.bytes.now in
    let all : c.loop-first.first ≡ 1024 = omega (arith, c.loop-first.invariant.within, c.loop-first-test.false) in
    indices_all c.args.height f (states c.args.table.now) (states c.loop-first.table) c.loop-first.stored.items
    (subst (λ n. IndicesSoFar c.args.height f (states c.args.table.now) (states c.loop-first.table) n c.loop-first.stored.items) all c.loop-first.invariant.so_far)
