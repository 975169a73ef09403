use Rattle.std.proofs.Common.{◌∙◌, Some, ap, sym}
use Rattle.av_image.specs.SavingSteps.{slot_payload}
use Rattle.av_image.proofs.writing.payloads.payload_from.Goals as goal

pub returns-in_ok-bytes-in-Loaded : goal.returns-in_ok-bytes-in-Loaded
returns-in_ok-bytes-in-Loaded c =
    ap Some c.in_ok-bytes-in-Loaded.ensures
    ∙ ap (λ s. slot_payload c.args.world.now c.args.kinds.now c.args.lights.now c.args.elapsed c.args.at (Some s)) (sym c.in-Loaded.is)
