use Rattle.std.proofs.Common.{◌≡◌, ◌<◌, ℕ, [], vec_len, get_or}
use Rattle.std.specs.Prelude.{map}
use Rattle.av_types.specs.declared.position.ChunkPos.{ChunkPos}
use Rattle.av_world.specs.Views.{positions_of}
use Rattle.av_light.proofs.LampLists.{IsList}
use Rattle.av_light.proofs.near.lists_beside.Given as goal

abbrev pub invariant-loop-other : goal.invariant-loop-other
invariant-loop-other l =
    record {
      long : vec_len l.lists ≡ l.other-index;
      has : (k : ℕ) → k < l.other-index → (d : ChunkPos) → IsList l.kinds l.world l.chunk (get_or (positions_of l.world) k d) (get_or (map (λ v. v.items) l.lists.items) k []);
    }
