use Rattle.std.proofs.Common.{map}
use Rattle.av_image.specs.Views.{file_in}
use Rattle.av_image.specs.SavingSteps.{SavedSoFar}
use Rattle.av_image.proofs.writing.saving.saved_regions.Given as goal

abbrev pub invariant-loop-region : goal.invariant-loop-region
invariant-loop-region g l = SavedSoFar l.world l.kinds l.lights l.elapsed l.rest.regions.items l.region-index (map file_in l.files.items)
