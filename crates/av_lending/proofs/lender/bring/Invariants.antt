use Rattle.std.proofs.Common.{◌≡◌, All, map, take, length}
use Rattle.av_world.specs.Views.{positions_of}
use Rattle.av_world.specs.declared.worlds.World.{World}
use Rattle.av_groups.specs.Groups.{HasOwnIndex}
use Rattle.av_lending.specs.Brought.{IsBringing}
use Rattle.av_lending.proofs.lender.bring.Given as goal

abbrev pub invariant-loop-touch : goal.invariant-loop-touch
invariant-loop-touch l =
    (w : World) → All (HasOwnIndex (positions_of w)) l.touches → length l.fn.stages.items ≡ length (positions_of w)
    → IsBringing (positions_of w) (map (λ t. t.chunk) (take l.touch-index l.touches)) l.stage l.fn.stages.items l.stages.items
