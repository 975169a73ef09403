use Rattle.std.proofs.Common.{◌<◌, sym, subst, arith, List, length, map, take}
use Rattle.std.proofs.lemmas.List.{take_all}
use Rattle.av_types.specs.declared.position.RegionPos.{RegionPos}
use Rattle.av_folders.specs.declared.reading.FolderFiles.{FolderFiles}
use Rattle.av_folders.specs.declared.reading.Listed.{Listed}
use Rattle.av_folders.specs.Folders.{AreRead, IsListed}
use Rattle.av_folders.proofs.Shares.{none_read, regions_more}
use Rattle.av_folders.proofs.reading.read_each_readable.Goals as goal

pub loop-file-init : goal.loop-file-init
loop-file-init g c =
    let read : FolderFiles = record { files = c.new.result; unread = c.new-2.result } in
    none_read read c.new.ensures.items c.new-2.ensures.items

pub add-requires-clause-listed : goal.add-requires-clause-listed
add-requires-clause-listed g c =
    let within : c.loop-file.file-index < length c.args.listed.now = omega arith in
    subst (λ (x : Listed). IsListed x) (sym c.file-item.is) (c.requires c.loop-file.file-index c.file-item.result within)

pub loop-file-preserved : goal.loop-file-preserved
loop-file-preserved g c =
    let listed = c.args.listed.now in
    let i = c.loop-file.file-index in
    let within : i < length listed = omega arith in
    subst (λ (rs : List RegionPos). AreRead rs c.add.new.self) (sym (regions_more listed i c.file-item.result within c.file-item.is))
    (c.in_ok-add.ensures.adds (map (λ (l : Listed). l.region) (take i listed)) c.loop-file.invariant)

pub returns-clause-read : goal.returns-clause-read
returns-clause-read g c =
    subst (λ (xs : List Listed). AreRead (map (λ (l : Listed). l.region) xs) c.loop-file.read)
    (take_all c.loop-file.file-index c.args.listed.now c.loop-file-test.false) c.loop-file.invariant
