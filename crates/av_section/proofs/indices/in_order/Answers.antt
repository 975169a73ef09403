-- What a sort leaves, each once.
use Rattle.std.proofs.lemmas.List.Filters.{dedup_is}
use Rattle.av_section.proofs.Rising.{rising_of}
use Rattle.av_section.proofs.indices.in_order.Goals as goal

pub returns : goal.returns
returns c =
    rising_of c.args.numbers.now c.sort_unstable.new.self.items c.dedup.new.self.items (rw c.in_ok-rising.ensures.items at c.sort_unstable.ensures.permutation) c.sort_unstable.ensures.sorted (dedup_is _ _ _ c.dedup.ensures.filtered)
