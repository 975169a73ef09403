use Rattle.std.proofs.Common.{◌≡◌, ◌+◌, ◌*◌, ◌%◌, ◌^◌, fold, take}
use Rattle.av_rules.proofs.first_rows.hash_of.Given as goal

abbrev pub invariant-loop-byte : goal.invariant-loop-byte
invariant-loop-byte l = l.hash ≡ fold (λ hash byte. (hash + byte) * 11400714819323198485 % 2 ^ 64) 0 (take l.byte-index l.byte-items)
