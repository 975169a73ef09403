use Rattle.std.proofs.Common.{Result, Ok, Err, IfOk, OnOk, List, map, subst, sym}
use Rattle.std.specs.List.{AllZip}
use Rattle.av_chunk.specs.declared.light.ChunkLight.{ChunkLight}
use Rattle.av_codec.proofs.Found.{if_err_then}
use Rattle.av_world.specs.Views.{blocks, height_of, positions_of}
use Rattle.av_section_light.specs.Light.{IsChunkLight}
use Rattle.av_image.specs.Views.{file_in}
use Rattle.av_run.proofs.Lit.{can_be_saved, is_written, is_not_written}
use Rattle.av_run.proofs.writing.written.Goals as goal

if_ok_both : {T E : Type 0} (r : Result T E) {P Q : T → Type 0} {A : Type 0} → IfOk r P → OnOk r A → ((x : T) → P x → A → Q x) → IfOk r Q
if_ok_both (Ok x) p a f = f x p a
if_ok_both (Err e) p a f = tt

pub save-requires-clause-can : goal.save-requires-clause-can
save-requires-clause-can g c =
    let w = c.args.world.now in
    let k = c.args.kinds.now in
    let zip = subst (λ (ls : List ChunkLight). AllZip (IsChunkLight k (blocks w) (height_of w)) (positions_of w) ls) (sym c.as_slice.ensures.value) c.in_ok-lights.ensures.each in
    λ κs within sound. can_be_saved k w c.as_slice.result.now c.args.ticks c.requires.whole c.requires.good zip

pub returns-clause-ok : goal.returns-clause-ok
returns-clause-ok g c =
    let w = c.args.world.now in
    let k = c.args.kinds.now in
    let ls = c.as_slice.result.now in
    let zip = subst (λ (ls : List ChunkLight). AllZip (IsChunkLight k (blocks w) (height_of w)) (positions_of w) ls) (sym c.as_slice.ensures.value) c.in_ok-lights.ensures.each in
    if_ok_both c.save.result c.save.ensures.ok c.save.ensures.fits
    (λ files is fits t made. is_written t k w made c.requires.whole c.requires.good.numbers ls zip c.args.rest.now c.args.ticks (map file_in files.items) is fits)

pub returns-clause-err : goal.returns-clause-err
returns-clause-err g c =
    let w = c.args.world.now in
    let k = c.args.kinds.now in
    let ls = c.as_slice.result.now in
    let zip = subst (λ (ls : List ChunkLight). AllZip (IsChunkLight k (blocks w) (height_of w)) (positions_of w) ls) (sym c.as_slice.ensures.value) c.in_ok-lights.ensures.each in
    if_err_then c.save.result c.save.ensures.err
    (λ e bad other t made. is_not_written t k w made c.requires.whole c.requires.good.numbers ls zip c.args.rest.now c.args.ticks e c.requires.sound (bad other))
