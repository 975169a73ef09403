use Rattle.std.proofs.Common.{◌≡◌, ◌≤◌, ℕ, List, Option, arith}
use Rattle.av_types.specs.declared.position.Height.{Height}
use Rattle.av_survey.specs.declared.finding.Finding.{Finding}
use Rattle.av_commands.specs.CheckCommand.{HasFindings, none, some}
use Rattle.av_folders.specs.declared.reading.FolderFiles.{FolderFiles}
use Rattle.av_queries.specs.CheckCommand.{HasSurveyed, whole, in_part, refused, read_folder}
use Rattle.av_queries.proofs.checking.run_check.Goals as goal

small_findings : (found : List Finding) (before after : Option (List ℕ)) (n : ℕ) → HasFindings found before after n → n ≤ 2
small_findings found before after n (none empty same is) = let zero_status : n ≡ 0 = is in omega arith
small_findings found before after n (some full is) = let one_status : n ≡ 1 = is in omega arith

small : (h : Height) (read : FolderFiles) (before after : Option (List ℕ)) (n : ℕ) → HasSurveyed h read before after n → n ≤ 2
small h read before after n (whole found all by has) = small_findings found before after n has
small h read before after n (in_part found k some_unread by has is) = let one_status : n ≡ 1 = is in omega arith
small h read before after n (refused same is) = let one_status : n ≡ 1 = is in omega arith

pub returns-in-Ok-clause-status : goal.returns-in-Ok-clause-status
returns-in-Ok-clause-status g c =
    small c.in-Ok.height c.in-Ok.read (g.O.Write.contents c.args.out.now) (g.O.Write.contents c.survey_files.new.out) c.survey_files.result c.survey_files.ensures

pub returns-in-Ok-clause-ran : goal.returns-in-Ok-clause-ran
returns-in-Ok-clause-ran g c = read_folder c.in-Ok.height c.in-Ok.read c.in-Ok.ensures.height c.in-Ok.ensures.folder c.survey_files.ensures
