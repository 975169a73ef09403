use Rattle.std.proofs.Common.{◌≡◌, ◌∙◌, map, ap, sym}
use Rattle.std.specs.Prelude.{option_map}
use Rattle.av_types.specs.declared.fault.Fault.TheVariants.{ChunkTooLarge}
use Rattle.av_codec.proofs.Found.{if_ok_then, if_err_then}
use Rattle.av_image.specs.SavingSteps.{payload_items, region_payloads, file_with, too_large_among}
use Rattle.av_image.proofs.writing.saving.saved_region.Goals as goal

pub returns-clause-ok : goal.returns-clause-ok
returns-clause-ok g c =
    let r = c.args.region.now in
    let same : map (option_map payload_items) c.as_slice.result.now ≡ region_payloads c.args.world.now c.args.kinds.now c.args.lights.now c.args.elapsed r = ap (map (option_map payload_items)) c.as_slice.ensures.value ∙ c.in_ok-payloads.ensures in
    if_ok_then c.region_of.result c.region_of.ensures.ok (λ file is. is ∙ ap (file_with r) same)

pub returns-clause-err : goal.returns-clause-err
returns-clause-err g c =
    let r = c.args.region.now in
    let same : map (option_map payload_items) c.as_slice.result.now ≡ region_payloads c.args.world.now c.args.kinds.now c.args.lights.now c.args.elapsed r = ap (map (option_map payload_items)) c.as_slice.ensures.value ∙ c.in_ok-payloads.ensures in
    if_err_then c.region_of.result c.region_of.ensures.err (λ e bad other. ap (λ ps. option_map ChunkTooLarge (too_large_among r ps)) (sym same) ∙ bad other)
