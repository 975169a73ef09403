use Rattle.std.proofs.Common.{arith, ◌+◌, vec_len}
use Rattle.av_flood.proofs.Halves.{HasLightSoFar-resized}
use Rattle.av_flood.proofs.bytes.push_dark.Goals as goal

pub returns-clause-halves : goal.returns-clause-halves
returns-clause-halves c =
    λ light halves dark. HasLightSoFar-resized light c.args.bytes.now.items c.resize.new.self.items (c.len-length.result + 128) (vec_len c.args.bytes.now) c.in_ok-resize.ensures.items c.args.bytes.now.ok.0
    (omega (arith, c.len-length.ensures)) halves (λ j low high. dark j low high)
