use Rattle.std.proofs.Common.{◌≡◌, ◌≢◌, ◌∙◌, ◌++◌, ◌∷◌, [], List, map, append_assoc, sym, subst}
use Rattle.std.specs.Vec.Iter.{into_iter_items}
use Rattle.std.proofs.lemmas.List.{map-append}
use Rattle.av_types.specs.declared.fault.Fault.TheVariants.{OutOfMemory}
use Rattle.av_types.specs.Positions.{IsInLimits}
use Rattle.av_state.specs.Table.{states}
use Rattle.av_section.proofs.Numbers.{OnlyGrows-trans}
use Rattle.av_files.specs.Files.{File}
use Rattle.av_files.specs.FirstFault.{IsFirstOfFiles}
use Rattle.av_region_files.specs.declared.files.RegionFile.{RegionFile}
use Rattle.av_image.specs.RegionsRead.{file_of}
use Rattle.av_image.specs.Ways.{FilesSoFar}
use Rattle.av_image.proofs.Ways.{files_stop, files_more}
use Rattle.std.specs.List.{All}
use Rattle.std.proofs.lemmas.List.Elements.{All-tail}
use Rattle.av_types.proofs.Exits.{err_from}
use Rattle.av_image.proofs.reading.regions.read_regions.Goals as goal

abbrev file_in : RegionFile → File
file_in f = file_of f.pos f.bytes.items

pub returns-in_err-read_region-clause-err : goal.returns-in_err-read_region-clause-err
returns-in_err-read_region-clause-err g c =
    let e = c.in_err-read_region.field-0.0 in
    let rest : List RegionFile = into_iter_items c.next.new.self in
    let step : into_iter_items c.loop-file.file-iterator ≡ c.in-Some.file ∷ rest = c.in-Some.ensures.steps.0 in
    let s = subst (λ (xs : List RegionFile). FilesSoFar c.args.height (states c.args.table.now) (states c.loop-file.table) (map file_in c.args.files.items) (map file_in xs) (map file_in c.loop-file.yielded) c.loop-file.regions.items) step c.loop-file.invariant.so_far in
    err_from c.from_residual.result e (λ x. x ≢ OutOfMemory → IsFirstOfFiles c.args.height (states c.args.table.now) (map file_in c.args.files.items) x) c.from_residual.ensures.1
    (λ other. files_stop c.args.height (states c.args.table.now) (states c.loop-file.table) (map file_in c.args.files.items) (map file_in rest) (map file_in c.loop-file.yielded) (file_in c.in-Some.file) c.loop-file.regions.items e s (c.in_err-read_region.ensures.err other))

pub loop-file-preserved : goal.loop-file-preserved
loop-file-preserved g c =
    let rest : List RegionFile = into_iter_items c.next.new.self in
    let step : into_iter_items c.loop-file.file-iterator ≡ c.in-Some.file ∷ rest = c.in-Some.ensures.steps.0 in
    let s = subst (λ (xs : List RegionFile). FilesSoFar c.args.height (states c.args.table.now) (states c.loop-file.table) (map file_in c.args.files.items) (map file_in xs) (map file_in c.loop-file.yielded) c.loop-file.regions.items) step c.loop-file.invariant.so_far in
    let low : All (λ f. IsInLimits f.pos) (c.in-Some.file ∷ rest) = subst (λ (xs : List RegionFile). All (λ f. IsInLimits f.pos) xs) step c.loop-file.invariant.limits in
    record {
      split = append_assoc c.loop-file.yielded (c.in-Some.file ∷ []) rest ∙ subst (λ (xs : List RegionFile). c.loop-file.yielded ++ xs ≡ c.args.files.items) step c.loop-file.invariant.split;
      limits = All-tail (λ f. IsInLimits f.pos) c.in-Some.file rest low;
      so_far = subst (λ (xs : List File). FilesSoFar c.args.height (states c.args.table.now) (states c.read_region.new.table) (map file_in c.args.files.items) (map file_in rest) xs c.push.new.self.items) (sym (map-append file_in c.loop-file.yielded (c.in-Some.file ∷ [])))
          (files_more c.args.height (states c.args.table.now) (states c.loop-file.table) (states c.read_region.new.table) (map file_in c.args.files.items) (map file_in rest) (map file_in c.loop-file.yielded) (file_in c.in-Some.file) c.loop-file.regions.items c.push.new.self.items c.in_ok-read_region.field-0
          c.in_ok-push.ensures.items s c.in_ok-read_region.ensures.ok c.in_ok-read_region.ensures.table);
    }

pub returns-in_err-push-clause-table : goal.returns-in_err-push-clause-table
returns-in_err-push-clause-table g c = OnlyGrows-trans (states c.args.table.now) (states c.loop-file.table) (states c.read_region.new.table) c.loop-file.invariant.so_far.grown c.in_ok-read_region.ensures.table
