use Rattle.std.proofs.Common.{◌≡◌, ◌<◌, sym, subst, arith, ◌∷◌, [], List, length, map, take}
use Rattle.av_types.proofs.Exits.{on_err_from}
use Rattle.av_exchange.specs.Steps.{with_steps, Step}
use Rattle.av_exchange.specs.Exchange.{renamed}
use Rattle.av_exchange.specs.Outcomes.{name_of}
use Rattle.av_exchange.proofs.History.{then_steps}
use Rattle.av_exchange.proofs.Stepwise.{one_in_part, one_more_renamed}
use Rattle.av_exchange.proofs.Taken.{first_taken, one_taken}
use Rattle.av_exchange.proofs.moving.move_all.Goals as goal

pub loop-file-init : goal.loop-file-init
loop-file-init g c = first_taken _ c.args.moves.now

pub loop-file-preserved : goal.loop-file-preserved
loop-file-preserved g c =
    let moves = c.args.moves.now in
    let i = c.loop-file.file-index in
    let within : i < length moves = omega arith in (
      subst (λ (steps : List Step). g.F.Folder.history c.move_one.new.folder ≡ with_steps (g.F.Folder.history c.args.folder.now) steps)
          (sym (one_more_renamed moves i c.file-item.result within c.file-item.is))
          (then_steps _ _ _ (map renamed (map name_of (take i moves))) (renamed (name_of c.file-item.result) ∷ []) c.loop-file.invariant.0 c.in_ok-move_one.ensures.ok),
      one_taken _ _ moves i c.file-item.result within c.file-item.is c.loop-file.invariant.0 c.loop-file.invariant.1 c.in_ok-move_one.ensures.there,
    )

pub returns-in_err-move_one-clause-err : goal.returns-in_err-move_one-clause-err
returns-in_err-move_one-clause-err g c =
    let moves = c.args.moves.now in
    let i = c.loop-file.file-index in
    let within : i < length moves = omega arith in
    on_err_from c.from_residual.result
    (one_in_part _ _ _ moves i c.file-item.result within c.file-item.is c.loop-file.invariant.0 c.in_err-move_one.ensures.err)
