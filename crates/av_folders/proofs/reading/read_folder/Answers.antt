use Rattle.std.proofs.Common.{◌≡◌, sym, subst, inl, inr, ℕ, List, All, map}
use Rattle.std.proofs.lemmas.Result.{IfOk-weaker}
use Rattle.std.proofs.lemmas.List.Elements.{recursion_from_All}
use Rattle.av_types.proofs.Exits.{err_from}
use Rattle.av_types.specs.declared.position.RegionPos.{RegionPos}
use Rattle.av_types.specs.declared.fault.Fault.{Fault}
use Rattle.av_folders.specs.declared.reading.Listed.{Listed}
use Rattle.av_folders.specs.Folders.{AreInNameOrder, IsListed, IsFolderFault, IsUnreadFolder, memory, listing}
use Rattle.av_folders.proofs.Orders.{in_name_order}
use Rattle.av_folders.proofs.reading.read_folder.Goals as goal

of_listing : (folder : List ℕ) (e : Fault) → IsFolderFault folder e → IsUnreadFolder folder e
of_listing folder e (inl is) = memory is
of_listing folder e (inr device) = listing device

pub read_each-files-requires : goal.read_each-files-requires
read_each-files-requires g c = subst (λ (xs : List Listed). All IsListed xs) (sym c.as_slice.ensures.value) c.in_ok-listed.ensures.named

pub returns-in_err-listed-clause-unread : goal.returns-in_err-listed-clause-unread
returns-in_err-listed-clause-unread g c =
    err_from c.from_residual.result c.in_err-listed.field-0.0 (λ e. IsUnreadFolder c.args.folder.now e.fault) c.from_residual.ensures.1
    (of_listing c.args.folder.now c.in_err-listed.field-0.0.fault c.in_err-listed.ensures.unlisted)

pub returns-clause-read : goal.returns-clause-read
returns-clause-read g c =
    let items = c.in_ok-listed.listed.items in
    let ordered : AreInNameOrder (map (λ (l : Listed). l.region) items) =
    in_name_order items (recursion_from_All IsListed items c.in_ok-listed.ensures.named) c.in_ok-listed.ensures.order in
    let same : c.as_slice.result.now ≡ items = c.as_slice.ensures.value in
    IfOk-weaker c.read_each-files.result _ _
    (λ files is. subst (λ (rs : List RegionPos). AreInNameOrder rs) (sym (subst (λ (xs : List Listed). map (λ f. f.pos) files.items ≡ map (λ (l : Listed). l.region) xs) same is)) ordered)
    c.read_each-files.ensures.read
