use Rattle.std.proofs.Common.{◌≡◌, ◌∙◌, List, ℕ, Err, refl, ap, sym, subst}
use Rattle.av_types.specs.Positions.{chunk_at}
use Rattle.av_region.specs.Region.{IsShort}
use Rattle.av_codec.proofs.Found.{if_ok_then}
use Rattle.av_map.specs.Maps.{short, whole}
use Rattle.av_map.specs.Patches.{IsPatch}
use Rattle.av_map.specs.Views.{colours_of}
use Rattle.av_map.proofs.reading.Scene.patch.Goals as goal

pub returns-in_default-read : goal.returns-in_default-read
returns-in_default-read c = short c.in-Some.file.now (sym c.in-Some.ensures.file) (subst IsShort c.as_slice.ensures.value (c.in_default-read.ensures.short_header.0 (ap Err c.in_default-read.ensures.err))) refl

pub returns : goal.returns
returns c =
    let s = c.args.self.now in
    let f = c.in-Some.file.now in
    let same : c.in-Ok.region.bytes.now ≡ f.bytes.items = c.in-Ok.ensures.ok ∙ c.as_slice.ensures.value in
    if_ok_then c.patch_at.result c.patch_at.ensures (λ patch is. whole f (sym c.in-Some.ensures.file) (λ cut. (let no = c.in-Ok.ensures.short_header.1 (subst IsShort (sym c.as_slice.ensures.value) cut) in absurd cc))
    (subst (λ (bytes : List ℕ). IsPatch s.view (colours_of s.colours.now) s.height bytes (chunk_at f.pos c.args.index) c.args.index patch) same is))
