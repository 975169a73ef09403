use Rattle.av_pack.proofs.Packed.{PacksSome}
use Rattle.av_pack.proofs.packing.pack_by.Given as goal

abbrev pub invariant-loop : goal.invariant-loop
invariant-loop l = PacksSome l.bits l.values l.rest l.longs.items l.counter
