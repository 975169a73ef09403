use Rattle.std.proofs.Common.{◌≡◌, ◌∙◌, subst, ◌⊎◌, inl, inr, List, ℕ, codes}
use Rattle.std.specs.Path.{path_bytes, path_join}
use Rattle.av_types.specs.declared.fault.Fault.{Fault}
use Rattle.av_types.specs.declared.fault.Fault.TheVariants.{OutOfMemory}
use Rattle.av_sink.specs.Account.{IsDevice}
use Rattle.av_folders.specs.Folders.{IsSessionFault}
use Rattle.av_folders.proofs.session.look_in.Goals as goal

-- the fault of a file of that name in a folder
of_session : (f : Fault) (name folder : List ℕ) → name ≡ path_join folder (codes "session.lock") → (f ≡ OutOfMemory) ⊎ IsDevice name f → IsSessionFault f
of_session f name folder is (inl memory) = inl memory
of_session f name folder is (inr device) = inr (folder, subst (λ (n : List ℕ). IsDevice n f) is device)

pub returns : goal.returns
returns g c =
    of_session c.of_device.result.fault c.as_str-path.result.now (path_bytes c.args.folder) (c.as_str-path.ensures ∙ c.in_ok-session.ensures) c.of_device.ensures
