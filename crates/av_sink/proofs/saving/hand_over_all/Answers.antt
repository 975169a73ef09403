use Rattle.std.proofs.Common.{◌≡◌, ◌∙◌, ◌∷◌, ◌++◌, List, map, ap, sym, subst}
use Rattle.std.specs.Vec.Iter.{into_iter_items}
use Rattle.std.proofs.lemmas.List.{map-append}
use Rattle.av_types.proofs.Exits.{err_from}
use Rattle.av_sink.specs.declared.saving.Named.{Named}
use Rattle.av_sink.specs.Account.{with_failure, with_files}
use Rattle.av_sink.specs.Saving.{IsStopped, device, entry_of}
use Rattle.av_sink.proofs.saving.hand_over_all.Goals as goal

pub returns-in_err-hand_over-clause-err : goal.returns-in_err-hand_over-clause-err
returns-in_err-hand_over-clause-err g c =
    let file : Named = c.in-Some.file in
    let rest : List Named = into_iter_items c.next.new.self in
    let step : into_iter_items c.loop-file.file-iterator ≡ file ∷ rest = c.in-Some.ensures.steps.0 in
    let split : c.loop-file.yielded ++ file ∷ rest ≡ c.args.all.items = subst (λ (xs : List Named). c.loop-file.yielded ++ xs ≡ c.args.all.items) step c.loop-file.invariant.split in
    let old = g.S.Sink.account c.args.sink.now in
    let new = g.S.Sink.account c.hand_over.new.sink in
    let e = c.in_err-hand_over.field-0.0 in
    let all : map entry_of c.args.all.items ≡ map entry_of c.loop-file.yielded ++ entry_of file ∷ map entry_of rest =
    ap (map entry_of) (sym split) ∙ map-append entry_of c.loop-file.yielded (file ∷ rest) in
    let stopped : new ≡ with_failure (with_files old (map entry_of c.loop-file.yielded)) =
    c.in_err-hand_over.ensures.failed ∙ ap with_failure c.loop-file.invariant.taken in
    err_from c.from_residual.result e (IsStopped old new (map entry_of c.args.all.items)) c.from_residual.ensures.1
    (device (map entry_of c.loop-file.yielded) (map entry_of rest) (entry_of file) all c.in_err-hand_over.ensures.named stopped)
