use Rattle.std.proofs.Common.{◌≡◌, ◌<◌, ◌∙◌, ◌+◌, ◌-◌, ◌^◌, ◌++◌, ◌∷◌, [], ap, sym, subst, refl, arith, ℕ, List, length, take, get_or, add-one}
use Rattle.std.specs.Prelude.{min}
use Rattle.std.proofs.Math.Seq.{take-suc}
use Rattle.av_region_files.specs.declared.files.RegionFile.{RegionFile}
use Rattle.av_survey.specs.Counting.{HasChunks, IsChunkTotal, of_none, of_next}
use Rattle.av_survey.proofs.counting.count_chunks.Goals as goal

-- one file more
more : (files : List RegionFile) (i : ℕ) (file : RegionFile) (total k next : ℕ) → i < length files → file ≡ get_or files i file
    → IsChunkTotal (take i files) total → HasChunks file.bytes.items k → next ≡ min (total + k) (2 ^ 64 - 1)
    → IsChunkTotal (take (i + 1) files) next
more files i file total k next lt is before has sum =
    let grown : take (i + 1) files ≡ take i files ++ file ∷ [] =
    ap (λ (n : ℕ). take n files) (add-one i) ∙ (take-suc files i file lt ∙ ap (λ (f : RegionFile). take i files ++ f ∷ []) (sym is)) in
    let small : next ≡ min (before.0 + k) (2 ^ 64 - 1) = omega (arith, before.2, sum) in
    subst (λ (fs : List RegionFile). IsChunkTotal fs next) (sym grown)
    (before.0 + k, of_next (take i files) file before.0 k before.1 has, small)

pub loop-file-init : goal.loop-file-init
loop-file-init c = (0, of_none, refl)

pub loop-file-preserved : goal.loop-file-preserved
loop-file-preserved c =
    let within : c.loop-file.file-index < length c.args.files.now = omega arith in
    more c.args.files.now c.loop-file.file-index c.file-item.result c.loop-file.chunks c.chunks_in.result _ within c.file-item.is
    c.loop-file.invariant (rw c.as_slice.ensures.value at c.chunks_in.ensures.chunks) c.saturating_add-chunks.ensures
