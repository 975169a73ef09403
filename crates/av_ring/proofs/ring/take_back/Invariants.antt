use Rattle.std.proofs.Common.{◌≡◌, ◌+◌, ◌++◌, ◌||◌, All, length, map}
use Rattle.std.specs.List.{flat_map, list_any}
use Rattle.std.specs.Vec.Iter.{into_iter_items}
use Rattle.crossbeam_queue.specs.Passes.{view as known}
use Rattle.crossbeam_queue.specs.Passes.{IsPassOf}
use Rattle.av_ring.proofs.ring.take_back.Given as goal

abbrev pub invariant-loop-seat : goal.invariant-loop-seat
invariant-loop-seat g l =
    (goal.iterator-loop-seat g).can_next l.seat-iterator ×
    (goal.iterator-loop-seat g).is_finite l.seat-iterator
    × record {
      pass_is : IsPassOf l.queue l.pass;
      theirs : All (λ s. s.ring ≡ l.queue.table.shared.table_id) (into_iter_items l.seat-iterator);
      parts : (known l.pass).parts ≡ (known l.initial.pass).parts + length l.yielded;
      told : (known l.pass).told ≡ (known l.initial.pass).told;
      all_is : (known l.pass).all ≡ (known l.initial.pass).all;
      heard : (known l.pass).heard ≡ (known l.initial.pass).heard ++ map (λ s. s.jobs) l.yielded;
      taken : (known l.pass).taken ≡ (known l.initial.pass).taken ++ flat_map (λ s. s.taken) l.yielded;
      dry : (known l.pass).dry ≡ ((known l.initial.pass).dry || list_any (λ s. s.dry) l.yielded);
    }
