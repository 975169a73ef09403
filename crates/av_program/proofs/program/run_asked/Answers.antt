use Rattle.std.proofs.Common.{refl, sym, subst, ℕ, List, All, Bor}
use Rattle.av_requests.specs.Skipping.{IsSkipped}
use Rattle.av_program.specs.Running.{run_by, run_dry_by}
use Rattle.av_program.proofs.program.run_asked.Goals as goal

pub returns-then-words-clause-ran : goal.returns-then-words-clause-ran
returns-then-words-clause-ran g c =
    run_dry_by c.request_of-request.result c.request_of-request.ensures
    (subst (λ (l : List (Bor (List ℕ))). All (λ n. IsSkipped n.now) l) (sym c.request_of-request.ensures.skip) c.requires.skipped)
    c.if-words.true refl c.run_dry.ensures.ran

pub returns-clause-ran : goal.returns-clause-ran
returns-clause-ran g c =
    run_by c.request_of-request.result c.request_of-request.ensures
    (subst (λ (l : List (Bor (List ℕ))). All (λ n. IsSkipped n.now) l) (sym c.request_of-request.ensures.skip) c.requires.skipped)
    c.if-words.false c.run_in_folder.ensures.ran
