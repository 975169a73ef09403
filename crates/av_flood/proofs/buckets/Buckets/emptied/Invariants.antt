use Rattle.std.proofs.Common.{◌≡◌, ◌<◌, ℕ, get_or, map, [], vec_len}
use Rattle.av_flood.proofs.buckets.Buckets.emptied.Given as goal

abbrev pub invariant-loop-level : goal.invariant-loop-level
invariant-loop-level l =
    record {
      long : vec_len l.levels ≡ 16;
      none : (n : ℕ) → n < l.level → get_or (map (λ v. v.items) l.levels.items) n [] ≡ [];
    }
