use Rattle.std.proofs.Common.{◌≡◌, ◌∙◌, refl, ap, inl, inr, string_bytes}
use Rattle.av_types.proofs.Exits.{err_from}
use Rattle.av_types.specs.declared.fault.Fault.TheVariants.{OutOfMemory}
use Rattle.av_sink.specs.Account.{in_folder, with_failure}
use Rattle.av_queries.specs.MapCommand.{IsNotSaved, memory, device}
use Rattle.av_queries.proofs.drawing.save.Goals as goal

pub returns-in_err-folder-clause-err : goal.returns-in_err-folder-clause-err
returns-in_err-folder-clause-err g c =
    let a = g.S.Sink.account c.args.sink.now in
    err_from c.from_residual.result OutOfMemory (IsNotSaved c.args.path.now a a) c.from_residual.ensures.1 (memory refl refl)

pub returns-in_err-from_str-in-Err-clause-err : goal.returns-in_err-from_str-in-Err-clause-err
returns-in_err-from_str-in-Err-clause-err g c =
    let a = g.S.Sink.account c.args.sink.now in
    let folder = string_bytes c.in_ok-folder.folder in
    let after : g.S.Sink.account c.write_file.new.self ≡ with_failure (in_folder folder a) = c.in-Err.ensures.err ∙ ap with_failure (c.in_ok-open.ensures.ok ∙ ap (λ f. in_folder f a) c.as_str.ensures.value) in
    err_from c.from_residual-in_err-from_str-in-Err.result OutOfMemory (IsNotSaved c.args.path.now a (g.S.Sink.account c.write_file.new.self)) c.from_residual-in_err-from_str-in-Err.ensures.1
    (device folder c.in_ok-folder.name.now c.in_ok-folder.ensures (inl refl) after)

pub returns-clause-err : goal.returns-clause-err
returns-clause-err g c =
    let a = g.S.Sink.account c.args.sink.now in
    let folder = string_bytes c.in_ok-folder.folder in
    let after : g.S.Sink.account c.write_file.new.self ≡ with_failure (in_folder folder a) = c.in-Err.ensures.err ∙ ap with_failure (c.in_ok-open.ensures.ok ∙ ap (λ f. in_folder f a) c.as_str.ensures.value) in
    device folder c.in_ok-folder.name.now c.in_ok-folder.ensures (inr c.in_ok-from_str-in-Err.ensures.ok) after
