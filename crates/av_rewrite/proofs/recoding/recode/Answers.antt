use Rattle.std.proofs.Common.{map, option_map}
use Rattle.av_codec.proofs.Found.{if_ok_then}
use Rattle.av_rewrite.specs.Regions.{IsRecoded}
use Rattle.av_rewrite.proofs.Whole.{made_region}
use Rattle.av_rewrite.proofs.recoding.recode.Goals as goal

pub returns : goal.returns
returns c =
    if_ok_then c.write.result c.write.ensures.holds
    (λ file holds. made_region (λ _. IsRecoded) c.args.bytes.now file.items (map (option_map (λ v. v.items)) c.in_ok-payloads.payloads.items) c.in_ok-stamps.stamps.items
    (rw c.in_ok-region.ensures.ok at c.in_ok-payloads.ensures)
    (rw c.in_ok-region.ensures.ok at c.in_ok-stamps.ensures)
    (rw (c.as_slice.ensures.value, c.as_slice-2.ensures.value) at holds))
