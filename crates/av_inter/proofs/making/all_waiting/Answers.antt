use Rattle.std.proofs.Common.{◌≡◌, ℕ, ◌∙◌, ◌++◌, ◌∷◌, [], ap, sym, replicate, add-one, arith}
use Rattle.av_play.specs.declared.event.Stage.TheVariants.{Waits}
use Rattle.av_inter.proofs.Starting.{replicate_more}
use Rattle.av_inter.proofs.making.all_waiting.Goals as goal

pub loop-index-preserved : goal.loop-index-preserved
loop-index-preserved c = c.in_ok-push.ensures.items ∙ ap (λ l. l ++ Waits ∷ []) c.loop-index.invariant ∙ replicate_more c.loop-index.index Waits ∙ ap (λ (n : ℕ). replicate n Waits) (sym (add-one c.loop-index.index))

pub returns : goal.returns
returns c =
    let e : c.loop-index.index ≡ c.args.count = (let a = c.loop-index-test.false in let b = c.loop-index.auto.index-end in omega arith) in
    c.loop-index.invariant ∙ ap (λ (n : ℕ). replicate n Waits) e
