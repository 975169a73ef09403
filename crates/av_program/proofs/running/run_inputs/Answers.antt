use Rattle.std.proofs.Common.{◌≡◌, ℕ, Bool, List, subst, map, Result}
use Rattle.av_types.specs.declared.fault.Fault.{Fault}
use Rattle.av_files.specs.Files.{File}
use Rattle.av_files.specs.Files.{file_in}
use Rattle.av_answers.specs.Checked.{IsCheckedAnswer}
use Rattle.av_answers.specs.declared.answers.Ran.{Ran}
use Rattle.av_program.proofs.running.run_inputs.Goals as goal

-- of the texts that were read
by_items : (files : List File) (a b x y : List ℕ) (n k : ℕ) (s : Bool) (r : Result Ran Fault) → a ≡ x → b ≡ y → IsCheckedAnswer files a b n k s r
    → IsCheckedAnswer files x y n k s r
by_items files a b x y n k s r p q h =
    subst (λ (t : List ℕ). IsCheckedAnswer files t y n k s r) p (subst (λ (t : List ℕ). IsCheckedAnswer files a t n k s r) q h)

pub returns : goal.returns
returns g c =
    let i = c.args.inputs in
    let q = c.args.request in (
      c.requires,
      by_items (map file_in i.files.items) _ _ i.table.items i.edits.items q.ticks q.workers q.strict c.run_checked.result c.as_slice.ensures.value c.as_slice-2.ensures.value
          c.run_checked.ensures,
    )
