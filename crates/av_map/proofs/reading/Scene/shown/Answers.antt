use Rattle.std.proofs.Common.{◌∙◌, map}
use Rattle.std.specs.List.{range_with_len}
use Rattle.av_map.specs.Arrays.{arrays_of}
use Rattle.av_map.specs.Sections.{sight_by}
use Rattle.av_map.proofs.reading.Scene.shown.Goals as goal

pub returns : goal.returns
returns c =
    let looks = c.as_slice-2.ensures.value ∙ c.in_ok-looks.ensures in
    c.in_ok-sights.ensures ∙ (λ i. map (sight_by c.args.self.now.view (c.as_slice.ensures.value i) (looks i) (arrays_of c.args.lights.now)) (range_with_len 0 256))
