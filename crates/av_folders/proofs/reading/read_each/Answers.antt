use Rattle.std.proofs.Common.{◌≡◌, ◌∙◌, ◌⊎◌, ◌<◌, ap, sym, subst, arith, inl, inr, ℕ, List, length, map, string_bytes}
use Rattle.std.proofs.lemmas.List.{take_all}
use Rattle.av_types.proofs.Exits.{err_from}
use Rattle.av_types.specs.declared.fault.Fault.{Fault}
use Rattle.av_types.specs.declared.fault.Fault.TheVariants.{OutOfMemory}
use Rattle.av_sink.specs.Account.{IsDevice}
use Rattle.av_folders.specs.declared.reading.Listed.{Listed}
use Rattle.av_folders.specs.Folders.{IsListed, IsUnreadFolder, memory, file}
use Rattle.av_folders.proofs.reading.read_each.Goals as goal

of_file : (folder : List ℕ) (l : Listed) (e : Fault) → IsListed l → (e ≡ OutOfMemory) ⊎ IsDevice (string_bytes l.name) e → IsUnreadFolder folder e
of_file folder l e named (inl is) = memory is
of_file folder l e named (inr device) = file l.region (subst (λ (name : List ℕ). IsDevice name e) named device)

pub returns-in_err-read_region-clause-unread : goal.returns-in_err-read_region-clause-unread
returns-in_err-read_region-clause-unread g c =
    let l = c.file-item.result in
    let within : c.loop-file.file-index < length c.args.listed.now = omega arith in
    let named : IsListed l = subst (λ (x : Listed). IsListed x) (sym c.file-item.is) (c.requires c.loop-file.file-index l within) in
    err_from c.from_residual.result c.in_err-read_region.field-0.0 (λ e. IsUnreadFolder c.args.folder.now e.fault) c.from_residual.ensures.1
    (of_file c.args.folder.now l c.in_err-read_region.field-0.0.fault named c.in_err-read_region.ensures.unread)

pub returns-clause-read : goal.returns-clause-read
returns-clause-read g c =
    c.loop-file.invariant ∙ ap (map (λ (l : Listed). l.region)) (take_all c.loop-file.file-index c.args.listed.now c.loop-file-test.false)
