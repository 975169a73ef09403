use Rattle.std.proofs.Common.{◌≡◌, ◌≢◌, ◌∙◌, ◌∷◌, [], List, Some, map, length, get_or, ◌<◌, ap, subst, arith}
use Rattle.std.specs.Prelude.{option_map}
use Rattle.std.proofs.lemmas.List.{map-append}
use Rattle.av_types.proofs.Exits.{err_from}
use Rattle.av_types.specs.declared.fault.Fault.TheVariants.{OutOfMemory, ChunkTooLarge}
use Rattle.av_image.specs.declared.rest.RegionRest.{RegionRest}
use Rattle.av_image.specs.Views.{file_in}
use Rattle.av_image.specs.Saving.{unsaved}
use Rattle.av_image.proofs.Written.{saved_more, saved_all, saved_fits, saved_stop}
use Rattle.av_image.proofs.writing.saving.saved_regions.Goals as goal

pub loop-region-preserved : goal.loop-region-preserved
loop-region-preserved g c =
    let same : c.deref-region-items.result.now ≡ c.args.rest.now.regions.items = c.deref-region-items.ensures.value in
    let less : c.loop-region.region-index < length c.args.rest.now.regions.items = subst (λ (xs : List RegionRest). c.loop-region.region-index < length xs) same c.loop-region-test.true in
    let is = c.region-item.is ∙ ap (λ (xs : List RegionRest). get_or xs c.loop-region.region-index c.region-item.result) same in
    saved_more c.args.world.now c.args.kinds.now c.args.lights.now c.args.elapsed c.args.rest.now.regions.items c.loop-region.region-index c.region-item.result
    (map file_in c.loop-region.files.items) (map file_in c.push.new.self.items) (file_in c.in_ok-saved_region.field-0)
    less is
    (ap (map file_in) c.in_ok-push.ensures.items ∙ map-append file_in c.loop-region.files.items (c.in_ok-saved_region.field-0 ∷ []))
    c.in_ok-saved_region.ensures.ok c.in_ok-saved_region.ensures.fits c.loop-region.invariant

pub returns-in_err-saved_region-clause-err : goal.returns-in_err-saved_region-clause-err
returns-in_err-saved_region-clause-err g c =
    let e = c.in_err-saved_region.field-0.0 in
    let same : c.deref-region-items.result.now ≡ c.args.rest.now.regions.items = c.deref-region-items.ensures.value in
    let less : c.loop-region.region-index < length c.args.rest.now.regions.items = subst (λ (xs : List RegionRest). c.loop-region.region-index < length xs) same c.loop-region-test.true in
    let is = c.region-item.is ∙ ap (λ (xs : List RegionRest). get_or xs c.loop-region.region-index c.region-item.result) same in
    err_from c.from_residual.result e (λ x. x ≢ OutOfMemory → option_map ChunkTooLarge (unsaved c.args.world.now c.args.rest.now c.args.kinds.now c.args.lights.now c.args.elapsed) ≡ Some x) c.from_residual.ensures.1
    (λ other. saved_stop c.args.world.now c.args.rest.now c.args.kinds.now c.args.lights.now c.args.elapsed c.loop-region.region-index c.region-item.result (map file_in c.loop-region.files.items) e
    less is c.requires.rest c.loop-region.invariant (c.in_err-saved_region.ensures.err other))

pub returns-clause-ok : goal.returns-clause-ok
returns-clause-ok g c =
    saved_all c.args.world.now c.args.rest.now c.args.kinds.now c.args.lights.now c.args.elapsed c.loop-region.region-index (map file_in c.loop-region.files.items) (omega (arith, c.loop-region-test.false)) c.requires.rest c.loop-region.invariant

pub returns-clause-fits : goal.returns-clause-fits
returns-clause-fits g c =
    saved_fits c.args.world.now c.args.rest.now c.args.kinds.now c.args.lights.now c.args.elapsed c.loop-region.region-index (map file_in c.loop-region.files.items) (omega (arith, c.loop-region-test.false)) c.requires.rest c.loop-region.invariant
