-- Two runs of one input.
use Rattle.std.proofs.Common.{◌≡◌, ◌∙◌, ℕ, ℤ, List, length, true, ap, sym, subst}
use Rattle.std.proofs.lemmas.Option.{none-some, same_Some}
use Rattle.av_types.specs.Positions.{is_section_of}
use Rattle.av_types.specs.declared.position.ChunkPos.{ChunkPos}
use Rattle.av_types.specs.declared.position.Height.{Height}
use Rattle.av_types.specs.declared.fault.Fault.TheVariants.{ChunkTooLarge}
use Rattle.av_state.specs.BlockState.{BlockState}
use Rattle.av_rules.specs.Rows.{BlockTable}
use Rattle.av_land.specs.Land.{Land, has_chunk}
use Rattle.av_cells.specs.Sets.{Set}
use Rattle.av_edits.specs.Edits.{edits_of}
use Rattle.av_files.specs.Files.{File}
use Rattle.av_files.specs.Denotes.{Rest}
use Rattle.av_files.specs.FirstFault.{IsTable}
use Rattle.av_files.specs.Layout.{Lights, layout, too_large}
use Rattle.av_files.specs.Laws.{SameRest}
use Rattle.av_files.specs.Light.{IsLit}
use Rattle.av_files.specs.Run.{IsRun, kinds_in}
use Rattle.av_files.specs.Headline.{Reaches, Headline, IsTooLarge, input, output}
use Rattle.av_files.proofs.Composed.{run_stays}
use Rattle.av_files.proofs.FirstOnly.{table_one, one_first_fault}
use Rattle.av_files.proofs.Once.{one_run}
use Rattle.av_files.proofs.SameLight.{same_light}
use Rattle.av_files.proofs.Unique.{denote_one}
use Rattle.av_headline.specs.Answers.{OneAnswer, OneRefusal, AnswerOrRefusal}
use Rattle.av_headline.proofs.SameFiles.{same_layout, same_too_large}

-- ---- the table and its height

pub rules_one : (text : List ℕ) (t u : BlockTable) (h g : Height) → IsTable text t h → IsTable text u g → t ≡ u
rules_one text t u h g a b = same_Some t u (sym a.spelled ∙ b.spelled)

-- ---- what a run leaves in its place

pub record Stands (v w : Land BlockState) : Type 0 where
  pub height : v.height ≡ w.height
  pub chunks : v.chunks ≡ w.chunks

pub stands : (t : BlockTable) (w : Land BlockState) (es : List (Set BlockState)) (n : ℕ) (v : Land BlockState) (c : ℕ) → IsRun t w es n v c → Stands v w
stands t w es n v c a =
    let s = run_stays (kinds_in t a.states) 0 a.sets n a.numbers in
    record {
      height = ap (λ x. x.height) a.to ∙ s.same_height ∙ sym (ap (λ x. x.height) a.from);
      chunks = ap (λ x. x.chunks) a.to ∙ s.same_chunks ∙ sym (ap (λ x. x.chunks) a.from);
    }

-- ---- two runs by one table

record AreAlike (t : BlockTable) (n : ℕ) (r s : Rest) (v w : Land BlockState) (light other : Lights) (c d x y : ℕ) : Type 0 where
  reached : v ≡ w
  turns : c ≡ d
  chunks : x ≡ y
  layouts : layout t v r light n ≡ layout t w s other n
  large : too_large t v r light n ≡ too_large t w s other n

module _ (files : List File) (table edits : List ℕ) (n k j : ℕ) (t : BlockTable) (h : Height) (r s : Rest) (v w : Land BlockState) (light other : Lights) (c d x y : ℕ) where
  alike_at : Reaches files table edits n k r t h v light c x → Reaches files table edits n j s t h w other d y → AreAlike t n r s v w light other c d x y
  alike_at a b =
      let one = denote_one h files a.world b.world r s a.accepted.denotes b.accepted.denotes in
      let again : IsRun t a.world (edits_of edits) n w d = subst (λ z. IsRun t z (edits_of edits) n w d) (sym one.0) b.runs in
      let ran = one_run t a.world (edits_of edits) n v w c d a.runs again in
      let stay = stands t a.world (edits_of edits) n v c a.runs in
      let tall : h ≡ v.height = sym (stay.height ∙ a.accepted.denotes.height) in
      let rest : SameRest v.height a.world r s = subst (λ z. SameRest z a.world r s) tall one.1 in
      let lit : IsLit t v other = subst (λ z. IsLit t z other) (sym ran.0) b.lit in
      let lights : (p : ChunkPos) → has_chunk v.chunks p ≡ true → (z : ℤ) → is_section_of v.height z ≡ true → light p z ≡ other p z = same_light t v light other a.lit lit in
      record {
        reached = ran.0;
        turns = ran.1;
        chunks = a.loaded ∙ (ap (λ z. length z.chunks) one.0 ∙ sym b.loaded);
        layouts = same_layout t a.world v r s light other n rest (sym stay.chunks) lights ∙ ap (λ z. layout t z s other n) ran.0;
        large = same_too_large t a.world v r s light other n rest (sym stay.chunks) lights ∙ ap (λ z. too_large t z s other n) ran.0;
      }

pub reaches_at : (files : List File) (table edits : List ℕ) (n k : ℕ) (r : Rest) (t u : BlockTable) (h g : Height) (v : Land BlockState) (light : Lights) (c x : ℕ)
    → IsTable table t h → Reaches files table edits n k r u g v light c x → Reaches files table edits n k r t h v light c x
reaches_at files table edits n k r t u h g v light c x is a =
    subst (λ z. Reaches files table edits n k r t z v light c x) (table_one table u t g h a.accepted.rules is)
    (subst (λ z. Reaches files table edits n k r z g v light c x) (rules_one table u t g h a.accepted.rules is) a)

-- ---- the laws

pub one_answer : OneAnswer
one_answer files table edits n k j out other c d x y a b =
    let is = a.reaches.accepted.rules in
    let rules = rules_one table b.rules a.rules b.height a.height b.reaches.accepted.rules is in
    let other_run = reaches_at files table edits n j b.rest a.rules b.rules a.height b.height b.reached b.light d y is b.reaches in
    let same = alike_at files table edits n k j a.rules a.height a.rest b.rest a.reached b.reached a.light b.light c d x y a.reaches other_run in
    record {
      files = a.bytes ∙ (same.layouts ∙ (ap (λ t. layout t b.reached b.rest b.light n) (sym rules) ∙ sym b.bytes));
      turns = same.turns;
      chunks = same.chunks;
    }

large_one : (files : List File) (table edits : List ℕ) (n k : ℕ) (p q : ChunkPos) → IsTooLarge files table edits n k p → IsTooLarge files table edits n k q → p ≡ q
large_one files table edits n k p q a b =
    let is = a.reaches.accepted.rules in
    let rules = rules_one table b.rules a.rules b.height a.height b.reaches.accepted.rules is in
    let other_run = reaches_at files table edits n k b.rest a.rules b.rules a.height b.height b.reached b.light b.turns b.chunks is b.reaches in
    let same = alike_at files table edits n k k a.rules a.height a.rest b.rest a.reached b.reached a.light b.light a.turns b.turns a.chunks b.chunks a.reaches other_run in
    same_Some p q (sym a.first ∙ (same.large ∙ (ap (λ t. too_large t b.reached b.rest b.light n) (sym rules) ∙ b.first)))

large_not : (files : List File) (table edits : List ℕ) (n k : ℕ) (out : List File) (c x : ℕ) (q : ChunkPos) → Headline files table edits n k out c x → IsTooLarge files table edits n k q → ⊥
large_not files table edits n k out c x q a b =
    let is = a.reaches.accepted.rules in
    let rules = rules_one table b.rules a.rules b.height a.height b.reaches.accepted.rules is in
    let other_run = reaches_at files table edits n k b.rest a.rules b.rules a.height b.height b.reached b.light b.turns b.chunks is b.reaches in
    let same = alike_at files table edits n k k a.rules a.height a.rest b.rest a.reached b.reached a.light b.light c b.turns x b.chunks a.reaches other_run in
    none-some q (sym a.fits ∙ (same.large ∙ (ap (λ t. too_large t b.reached b.rest b.light n) (sym rules) ∙ b.first)))

pub one_refusal : OneRefusal
one_refusal files table edits n k e f (input a) (input b) = (one_first_fault files table edits n k).one e f a b
one_refusal files table edits n k e f (input a) (output c is b) = absurd ((one_first_fault files table edits n k).none e b.rules b.height b.reaches.world b.rest a b.reaches.accepted)
one_refusal files table edits n k e f (output c is a) (input b) = absurd ((one_first_fault files table edits n k).none f a.rules a.height a.reaches.world a.rest b a.reaches.accepted)
one_refusal files table edits n k e f (output c is a) (output d is' b) = is ∙ (ap ChunkTooLarge (large_one files table edits n k c d a b) ∙ sym is')

pub answer_or_refusal : AnswerOrRefusal
answer_or_refusal files table edits n k out c x e a (input b) = (one_first_fault files table edits n k).none e a.rules a.height a.reaches.world a.rest b a.reaches.accepted
answer_or_refusal files table edits n k out c x e a (output p is b) = large_not files table edits n k out c x p a b
