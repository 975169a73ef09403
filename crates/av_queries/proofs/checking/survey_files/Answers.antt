use Rattle.std.proofs.Common.{◌≡◌, ◌≢◌, ◌∙◌, ℕ, List, [], length, Option, Result, Ok, Err, IfOk, MatchResult, ap, refl, sym}
use Rattle.std.proofs.lemmas.Bool.{eqb-false, eqb-true}
use Rattle.std.proofs.lemmas.List.{nil_from_length}
use Rattle.av_types.specs.declared.position.Height.{Height}
use Rattle.av_survey.specs.Survey.{IsSurvey}
use Rattle.av_survey.specs.declared.finding.Finding.{Finding}
use Rattle.av_commands.specs.CheckCommand.{HasFindings}
use Rattle.av_folders.specs.declared.reading.FolderFiles.{FolderFiles}
use Rattle.av_queries.specs.CheckCommand.{HasSurveyed, whole, in_part, refused}
use Rattle.av_queries.proofs.checking.survey_files.Goals as goal

of_all : {T E : Type 0} (r : Result T E) (items : T → List Finding) (h : Height) (read : FolderFiles) (before after : Option (List ℕ)) (n : ℕ)
    → read.unread.items ≡ [] → IfOk r (λ found. IsSurvey h read.files.items (items found))
    → MatchResult r (λ found. HasFindings (items found) before after n) (λ _. (after ≡ before) × (n ≡ 1))
    → HasSurveyed h read before after n
of_all (Ok found) items h read before after n all by has = whole (items found) all by has
of_all (Err e) items h read before after n all by has = refused has.0 has.1

of_some : {T E : Type 0} (r : Result T E) (items : T → List Finding) (h : Height) (read : FolderFiles) (before after : Option (List ℕ)) (n : ℕ)
    → read.unread.items ≢ [] → IfOk r (λ found. IsSurvey h read.files.items (items found))
    → MatchResult r (λ found. HasFindings (items found) before after n) (λ _. (after ≡ before) × (n ≡ 1))
    → HasSurveyed h read before after 1
of_some (Ok found) items h read before after n unread by has = in_part (items found) n unread by has refl
of_some (Err e) items h read before after n unread by has = refused has.0 refl

pub returns-then-is_whole : goal.returns-then-is_whole
returns-then-is_whole g c =
    let unread = c.args.read.unread in
    let zero = eqb-true unread.len 0 (sym c.is_empty-is_whole.ensures ∙ c.if-is_whole.true) in
    of_all c.survey-surveyed.result (λ v. v.items) c.args.height c.args.read (g.O.Write.contents c.args.out.now) (g.O.Write.contents c.findings-status.new.out)
    c.findings-status.result (nil_from_length unread.items (sym unread.ok.0 ∙ zero)) c.survey-surveyed.ensures.ok c.findings-status.ensures

pub returns : goal.returns
returns g c =
    let unread = c.args.read.unread in
    let some = eqb-false unread.len 0 (sym c.is_empty-is_whole.ensures ∙ c.if-is_whole.false) in
    of_some c.survey-surveyed.result (λ v. v.items) c.args.height c.args.read (g.O.Write.contents c.args.out.now) (g.O.Write.contents c.findings-status.new.out)
    c.findings-status.result (λ none. some (unread.ok.0 ∙ ap length none)) c.survey-surveyed.ensures.ok c.findings-status.ensures
