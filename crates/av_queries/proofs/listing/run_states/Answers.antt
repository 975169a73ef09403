use Rattle.std.proofs.Common.{refl}
use Rattle.av_queries.specs.StatesCommand.{written, unwritten, refused}
use Rattle.av_queries.proofs.listing.run_states.Goals as goal

pub returns-in-Ok-write_first : goal.returns-in-Ok-write_first
returns-in-Ok-write_first g c =
    written c.in-Ok.listing.text.items c.in-Ok.listing.left_out c.in-Ok.ensures (rw c.as_slice.ensures.value at c.in-Ok-write_first.ensures.ok) c.report_left_out.ensures

pub returns-in-Ok : goal.returns-in-Ok
returns-in-Ok g c =
    unwritten c.in-Ok.listing.text.items c.in-Ok.listing.left_out c.in-Ok.ensures (rw c.as_slice.ensures.value at c.in-Err-write_first.ensures.err) c.report_output.ensures

pub returns : goal.returns
returns g c = refused refl c.report_failure.ensures
