use Rattle.std.proofs.Common.{◌≡◌, length}
use Rattle.av_survey.specs.Listing.{share_a_region}
use Rattle.av_survey.proofs.listing.share_a_region.Given as goal

abbrev pub invariant-loop-file : goal.invariant-loop-file
invariant-loop-file l = share_a_region l.rest ≡ share_a_region l.fn.files

abbrev pub decreases-loop-file : goal.decreases-loop-file
decreases-loop-file l = length l.rest
