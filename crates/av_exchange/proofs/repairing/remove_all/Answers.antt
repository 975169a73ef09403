use Rattle.std.proofs.Common.{◌≡◌, ◌∙◌, ◌<◌, ap, sym, subst, arith, ◌∷◌, [], List, length, map, take, string_bytes}
use Rattle.av_types.proofs.Exits.{on_err_from}
use Rattle.av_exchange.specs.Steps.{with_steps, Step, Removed}
use Rattle.av_exchange.proofs.History.{no_steps, then_steps}
use Rattle.av_exchange.proofs.Stepwise.{first_removed, one_more_removed, sweep_part}
use Rattle.av_exchange.proofs.repairing.remove_all.Goals as goal

pub loop-name-init : goal.loop-name-init
loop-name-init g c = no_steps _

pub loop-name-preserved : goal.loop-name-preserved
loop-name-preserved g c =
    let names = c.args.names.now in
    let i = c.loop-name.name-index in
    let within : i < length names = omega arith in
    subst (λ (steps : List Step). g.F.Folder.history c.remove.new.self ≡ with_steps (g.F.Folder.history c.args.folder.now) steps)
    (sym (one_more_removed names i c.name-item.result within c.name-item.is))
    (then_steps _ _ _ (map Removed (map string_bytes (take i names))) (Removed (string_bytes c.name-item.result) ∷ []) c.loop-name.invariant
    (c.in_ok-remove.ensures.ok ∙ ap (λ (n : _). with_steps (g.F.Folder.history c.loop-name.folder) (Removed n ∷ [])) c.as_str.ensures.value))

pub returns-in_err-remove-clause-err : goal.returns-in_err-remove-clause-err
returns-in_err-remove-clause-err g c =
    on_err_from c.from_residual.result (record {
      left = map Removed (map string_bytes (take c.loop-name.name-index c.args.names.now));
      cut_off = sweep_part (map string_bytes c.args.names.now) _ (first_removed c.loop-name.name-index c.args.names.now);
      steps = c.in_err-remove.ensures.err ∙ c.loop-name.invariant;
    })
