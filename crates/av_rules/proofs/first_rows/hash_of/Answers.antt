use Rattle.std.proofs.Common.{◌+◌, ◌*◌, ◌%◌, ◌^◌, ◌∙◌, ap, fold, take}
use Rattle.std.proofs.lemmas.List.{take_all, take_min}
use Rattle.av_rules.proofs.first_rows.hash_of.Goals as goal

pub returns : goal.returns
returns c =
    let name = c.args.name.now in
    c.loop-byte.invariant
    ∙ ap (fold (λ hash byte. (hash + byte) * 11400714819323198485 % 2 ^ 64) 0) (take_all c.loop-byte.byte-index (take c.min.result name) c.loop-byte-test.false ∙ ap (λ n. take n name) c.min.ensures ∙ take_min 64 name)
