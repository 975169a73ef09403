use Rattle.std.proofs.Common.{◌≡◌, ◌+◌, ◌*◌, ◌%◌, ◌<◌, ◌^◌, fold, take}
use Rattle.av_map.proofs.colours.letters_number.Given as goal

abbrev pub invariant-loop-letter : goal.invariant-loop-letter
invariant-loop-letter l = (l.number ≡ fold (λ n letter. (31 * n + letter) % 16777216) 0 (take l.letter-index l.name)) × (l.number < 2 ^ 24)
