use Rattle.av_codec.specs.Writing.{states_of_kinds}
use Rattle.av_codec.proofs.Rewriting.{loaded-can_write}
use Rattle.av_codec.proofs.Found.{if_ok_then}
use Rattle.av_tags.specs.View.{document}
use Rattle.av_rewrite.specs.Rewriting.{at_index}
use Rattle.av_rewrite.proofs.Rewritten.{rewritten}
use Rattle.av_rewrite.proofs.rewriting.dark_bytes.Goals as goal

pub write_chunk-requires : goal.write_chunk-requires
write_chunk-requires c =
    let w = c.requires in
    let s = w.is_slot in
    loaded-can_write (at_index w.index) w.height s.document s.old s.new c.args.chunk c.args.rest c.args.kinds.now c.args.light.now s.loaded s.grown w.lit

pub returns : goal.returns
returns c = λ h region index s.
    if_ok_then c.encode.result c.encode.ensures.written
    (λ bytes is. rewritten h region (states_of_kinds c.args.kinds.now) index c.args.chunk c.args.rest (document c.in_ok-root.root) bytes.items
    s c.in_ok-root.ensures.well_formed c.in_ok-root.ensures.denotes is)
