use Rattle.std.proofs.Common.{◌≡◌, ◌≢◌, ◌∙◌, refl, subst}
use Rattle.av_types.proofs.Exits.{err_from}
use Rattle.av_types.specs.declared.fault.Fault.TheVariants.{OutOfMemory}
use Rattle.av_region.specs.Region.{IsShort}
use Rattle.av_state.specs.Table.{states}
use Rattle.av_files.specs.Layout.{indices}
use Rattle.av_files.specs.FirstFault.{IsFirstOfFile, IsFirstOfIndices, at_index}
use Rattle.av_image.specs.RegionsRead.{file_of, AreIndicesRead, are_stamps}
use Rattle.av_image.proofs.reading.regions.read_region.Goals as goal

pub returns-in_err-stored-clause-err : goal.returns-in_err-stored-clause-err
returns-in_err-stored-clause-err g c =
    let e = c.in_err-stored.field-0.0 in
    let f = file_of c.args.file.pos c.args.file.bytes.items in
    let same : c.in_ok-region.region.bytes.now ≡ c.args.file.bytes.items = c.in_ok-region.ensures.ok ∙ c.as_slice.ensures.value in
    let whole : IsShort c.args.file.bytes.items → ⊥ = λ s. let q = c.in_ok-region.ensures.short_header.1 (rw c.as_slice.ensures.value s) in cc in
    err_from c.from_residual-in_err-stored.result e (λ x. x ≢ OutOfMemory → IsFirstOfFile c.args.height (states c.args.table.now) f x) c.from_residual-in_err-stored.ensures.1
    (λ other. at_index whole (subst (λ b. IsFirstOfIndices c.args.height (states c.args.table.now) (file_of c.args.file.pos b) indices e) same (c.in_err-stored.ensures.err other)))

pub returns-clause-ok : goal.returns-clause-ok
returns-clause-ok g c =
    let same : c.in_ok-region.region.bytes.now ≡ c.args.file.bytes.items = c.in_ok-region.ensures.ok ∙ c.as_slice.ensures.value in
    let whole : IsShort c.args.file.bytes.items → ⊥ = λ s. let q = c.in_ok-region.ensures.short_header.1 (rw c.as_slice.ensures.value s) in cc in
    let read = subst (λ b. AreIndicesRead c.args.height (states c.args.table.now) (states c.read_all.new.table) (file_of c.args.file.pos b) c.in_ok-stored.stored.items) same c.in_ok-stored.ensures.ok in
    record {
      good = record { whole = whole; good = read.good };
      read = record {
        pos_is = refl;
        limits = c.requires;
        whole = whole;
        stamps_are = subst (λ b. c.in_ok-stamps.stamps.items ≡ are_stamps b 1024) same c.in_ok-stamps.ensures.ok;
        small = c.in_ok-stamps.ensures.small;
        stored_are = read.each;
      };
    }
