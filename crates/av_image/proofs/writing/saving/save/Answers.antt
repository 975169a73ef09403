use Rattle.std.proofs.Common.{◌∙◌, refl, sym}
use Rattle.av_codec.proofs.Found.{if_err_then}
use Rattle.av_image.specs.Saving.{unsaved}
use Rattle.av_image.proofs.Written.{save_fault}
use Rattle.av_image.proofs.writing.saving.save.Goals as goal

pub returns-clause-err : goal.returns-clause-err
returns-clause-err g c =
    if_err_then c.saved_regions.result c.saved_regions.ensures.err
    (λ e bad other. save_fault c.args.world.now c.args.rest.now c.args.kinds.now c.args.lights.now c.args.elapsed e (sym c.broken.ensures ∙ c.if-broken.false)
    (unsaved c.args.world.now c.args.rest.now c.args.kinds.now c.args.lights.now c.args.elapsed) refl (bad other))
