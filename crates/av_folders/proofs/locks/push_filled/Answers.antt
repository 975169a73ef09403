use Rattle.std.proofs.Common.{◌≡◌, rules, tests, true, false}
use Rattle.av_folders.specs.Locks.{is_filled, texts}
use Rattle.av_folders.proofs.Words.{none_more, word_more}
use Rattle.av_folders.proofs.locks.push_filled.Goals as goal

pub returns-then-is_empty : goal.returns-then-is_empty
returns-then-is_empty c = λ before so_far.
    let is : is_filled c.args.part.now ≡ false = search (rules, tests, c.if-is_empty.ensures) in
    none_more (texts c.args.words.now.items) before c.args.part is so_far

pub returns : goal.returns
returns c = λ before so_far.
    let is : is_filled c.args.part.now ≡ true = search (rules, tests, c.if-is_empty.ensures) in
    let pushed = c.in_ok-push.ensures.items in
    rw pushed (word_more c.args.words.now.items before c.args.part is so_far)
