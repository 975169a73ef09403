use Rattle.std.proofs.Common.{◌≡◌, ◌<◌, sym, subst, arith, ◌∷◌, [], List, length, map, take}
use Rattle.av_types.proofs.Exits.{on_err_from}
use Rattle.av_exchange.specs.Steps.{with_steps, Step}
use Rattle.av_exchange.specs.Exchange.{renamed}
use Rattle.av_exchange.specs.Outcomes.{name_of}
use Rattle.av_exchange.proofs.History.{no_steps, then_steps}
use Rattle.av_exchange.proofs.Stepwise.{one_in_part, one_more_renamed}
use Rattle.av_exchange.proofs.moving.move_waiting.Goals as goal

pub loop-file-init : goal.loop-file-init
loop-file-init g c = no_steps _

pub loop-file-preserved : goal.loop-file-preserved
loop-file-preserved g c =
    let moves = c.args.moves.now in
    let i = c.loop-file.file-index in
    let within : i < length moves = omega arith in
    subst (λ (steps : List Step). g.F.Folder.history c.move_marked.new.folder ≡ with_steps (g.F.Folder.history c.args.folder.now) steps)
    (sym (one_more_renamed moves i c.file-item.result within c.file-item.is))
    (then_steps _ _ _ (map renamed (map name_of (take i moves))) (renamed (name_of c.file-item.result) ∷ []) c.loop-file.invariant c.in_ok-move_marked.ensures.ok)

pub returns-in_err-move_marked-clause-err : goal.returns-in_err-move_marked-clause-err
returns-in_err-move_marked-clause-err g c =
    let moves = c.args.moves.now in
    let i = c.loop-file.file-index in
    let within : i < length moves = omega arith in
    on_err_from c.from_residual.result
    (one_in_part _ _ _ moves i c.file-item.result within c.file-item.is c.loop-file.invariant c.in_err-move_marked.ensures.err)
