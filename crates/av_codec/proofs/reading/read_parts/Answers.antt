use Rattle.std.proofs.Common.{◌≡◌, ◌≢◌, Some, sym, ◌∙◌, ap, min}
use Rattle.std.specs.List.{flat_map}
use Rattle.av_types.specs.Faults.{fault_number}
use Rattle.av_types.specs.declared.fault.Fault.TheVariants.{OutOfMemory}
use Rattle.av_tags.specs.View.{views}
use Rattle.av_state.specs.Table.{states}
use Rattle.av_document.specs.Chunk.{section_faults, section_states}
use Rattle.av_codec.specs.SectionsRead.{are_too_many}
use Rattle.av_chunk.specs.Rest.{opened}
use Rattle.av_codec.proofs.Judging.{memory_first, memory_before}
use Rattle.av_codec.proofs.Assembly.{ticks_beside}
use Rattle.av_codec.proofs.reading.read_parts.Goals as goal

pub returns-clause-err : goal.returns-clause-err
returns-clause-err g c = λ t. record {
  first = λ nf.
      let n = c.lesser.ensures in
      let bad_is : c.in-Err.bad ≢ OutOfMemory = memory_before c.in-Err-read_sections.fault c.in-Err.bad c.lesser.result n nf in
      let fault_is : c.in-Err-read_sections.fault ≢ OutOfMemory = memory_first c.in-Err-read_sections.fault c.lesser.result (Some (fault_number c.in-Err.bad)) n nf in
      let early = c.in-Err-read_sections.ensures.err t fault_is in
      let bad = c.in-Err.ensures.err in
      let sixteen : fault_number c.in-Err.bad ≡ 16 = ap fault_number (bad.is bad_is) in
      let rows = opened (views c.args.sections.items) in
      let first = ticks_beside (flat_map (section_faults c.args.height) rows) (are_too_many (states (g.N.Numbering.table c.args.numbering.now)) (flat_map (section_states c.args.height) rows)) (fault_number c.in-Err-read_sections.fault) early.first in
      rw (bad.bad bad_is) (first ∙ ap Some (ap (λ k. min (fault_number c.in-Err-read_sections.fault) k) (sym sixteen) ∙ sym n));
}
