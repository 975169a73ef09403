-- A run that is stopped and resumed gives the files of one run.
use Rattle.std.proofs.Common.{◌≡◌, ◌∙◌, ℕ, ◌+◌, List, length, refl, ap, sym, subst}
use Rattle.av_types.specs.declared.position.Height.{Height}
use Rattle.av_state.specs.BlockState.{BlockState}
use Rattle.av_rules.specs.Rows.{BlockTable}
use Rattle.av_land.specs.Land.{Land}
use Rattle.av_land.specs.Resumed.{shifted}
use Rattle.av_edits.specs.Edits.{edits_of}
use Rattle.av_files.specs.Files.{File}
use Rattle.av_files.specs.Denotes.{Rest, Denotes}
use Rattle.av_files.specs.Layout.{Lights, layout}
use Rattle.av_files.specs.Laws.{SameRest}
use Rattle.av_files.specs.Run.{IsRun}
use Rattle.av_files.specs.Headline.{Reaches}
use Rattle.av_files.proofs.SameLayout.{files_resume}
use Rattle.av_files.proofs.Unique.{denote_one}
use Rattle.av_headline.specs.Resumed.{AreEditsSplit, SameOutcome, RunsResume}
use Rattle.av_headline.proofs.SameFiles.{same_layout}
use Rattle.av_headline.proofs.Alike.{rules_one, reaches_at, stands}

module _ (files mid : List File) (table text first then : List ℕ) (n m i j k : ℕ) (t : BlockTable) (h : Height) (q r s : Rest) (v x u : Land BlockState) (light mine other : Lights) (c d e a b z : ℕ) where
  three_at : AreEditsSplit text first then n → Reaches files table first n i r t h v light c a → Denotes h mid (shifted n v) r → Reaches mid table then m j s t h x mine d b → Reaches files table text (m + n) k q t h u other e z
      → SameOutcome (layout t x s mine m) (layout t u q other (m + n)) c d e b z
  three_at split one written two all =
      let world = one.world in
      let same = denote_one h files world all.world r q one.accepted.denotes all.accepted.denotes in
      let again = denote_one h mid two.world (shifted n v) s r two.accepted.denotes written in
      let whole : IsRun t world (edits_of text) (m + n) u e = subst (λ y. IsRun t y (edits_of text) (m + n) u e) (sym same.0) all.runs in
      let resumed = files_resume t h files mid (edits_of text) n m r s x u mine other c d e (record {
        world = world;
        reached = v;
        again = two.world;
        read = one.accepted.denotes;
        first = subst (λ es. IsRun t world es n v c) split.before one.runs;
        written = written;
        read_again = two.accepted.denotes;
        second = subst (λ es. IsRun t two.world es m x d) split.behind two.runs;
        lit = two.lit;
        whole = whole;
        lit_whole = all.lit;
      }) in
      let stay = stands t world (edits_of text) (m + n) u e whole in
      let early_stay = stands t world (edits_of first) n v c one.runs in
      let tall : h ≡ u.height = sym (stay.height ∙ one.accepted.denotes.height) in
      let rest : SameRest u.height world r q = subst (λ y. SameRest y world r q) tall same.1 in
      record {
        files = resumed.files ∙ same_layout t world u r q other other (m + n) rest (sym stay.chunks) (λ p there y inside. refl);
        turns = resumed.turns;
        chunks = two.loaded ∙ (ap (λ y. length y.chunks) again.0 ∙ (ap length early_stay.chunks ∙ (ap (λ y. length y.chunks) same.0 ∙ sym all.loaded)));
      }

pub runs_resume : RunsResume
runs_resume files mid last whole table text first then n m i j k c d e x y z a =
    let one = a.stopped in
    let two = a.resumed in
    let all = a.all in
    let is = one.reaches.accepted.rules in
    let two_rules = rules_one table two.rules one.rules two.height one.height two.reaches.accepted.rules is in
    let all_rules = rules_one table all.rules one.rules all.height one.height all.reaches.accepted.rules is in
    let same = three_at files mid table text first then n m i j k one.rules one.height all.rest one.rest two.rest one.reached two.reached all.reached one.light two.light all.light c d e x y z
    a.split one.reaches one.decodes
    (reaches_at mid table then m j two.rest one.rules two.rules one.height two.height two.reached two.light d y is two.reaches)
    (reaches_at files table text (m + n) k all.rest one.rules all.rules one.height all.height all.reached all.light e z is all.reaches) in
    record {
      files = two.bytes ∙ (ap (λ t. layout t two.reached two.rest two.light m) two_rules ∙ (same.files ∙ (ap (λ t. layout t all.reached all.rest all.light (m + n)) (sym all_rules) ∙ sym all.bytes)));
      turns = same.turns;
      chunks = same.chunks;
    }
