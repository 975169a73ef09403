use Rattle.std.proofs.Common.{◌≢◌}
use Rattle.av_types.proofs.Exits.{err_from}
use Rattle.av_types.specs.declared.fault.Fault.TheVariants.{OutOfMemory}
use Rattle.av_state.specs.Table.{states}
use Rattle.av_codec.specs.Payload.{IsPayloadFault}
use Rattle.av_image.proofs.reading.stored.held.Goals as goal

pub returns-in_err-reading-clause-err : goal.returns-in_err-reading-clause-err
returns-in_err-reading-clause-err c =
    let e = c.in_err-reading.field-0.0 in
    err_from c.from_residual.result e (λ x. x ≢ OutOfMemory → IsPayloadFault c.args.at c.args.height c.args.payload.now (states c.args.table.now) x) c.from_residual.ensures.1
    c.in_err-reading.ensures.err
