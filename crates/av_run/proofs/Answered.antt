-- What a run answers, from what its steps answer.
use Rattle.std.proofs.Common.{◌≡◌, ◌≢◌, ◌∙◌, ◌⊎◌, inl, inr, Result, Ok, Err, IfOk, IfErr, ℕ, List, length, map, false, refl, ap, sym, subst}
use Rattle.av_types.specs.declared.position.Height.{Height}
use Rattle.av_types.specs.declared.fault.Fault.{Fault}
use Rattle.av_types.specs.declared.fault.Fault.TheVariants.{OutOfMemory}
use Rattle.av_state.specs.Table.{states}
use Rattle.av_rules.specs.Rows.{BlockTable}
use Rattle.av_rules.specs.Kinds.{table_in, kind_count}
use Rattle.av_rules.proofs.KindFacts.{are_kinds}
use Rattle.av_cells.specs.World.{Site}
use Rattle.av_cells.specs.declared.kind.Kind.{Kind}
use Rattle.av_cells.specs.Kinds.{kinds_of}
use Rattle.av_land.specs.Tick.{run, run_count}
use Rattle.av_land.specs.Good.{Good, IsTimely}
use Rattle.av_land.proofs.Kept.{run_keeps}
use Rattle.av_edits.specs.Numbered.{number_sets}
use Rattle.av_world.specs.Lands.{land_of}
use Rattle.av_world.specs.Views.{height_of, positions_of, is_broken}
use Rattle.av_world.specs.declared.worlds.World.{World}
use Rattle.av_world.proofs.Whole.{height_of as same_height}
use Rattle.av_serial.specs.Ready.{HasSameChunks}
use Rattle.av_files.specs.Files.{File}
use Rattle.av_files.specs.FirstFault.{AreCountsGood}
use Rattle.av_files.specs.Headline.{Headline, IsRunRefused, output}
use Rattle.av_files.specs.Run.{stated, kinds_in}
use Rattle.av_files.proofs.Composed.{reaches, headline}
use Rattle.av_image.specs.declared.rest.Rest.{Rest}
use Rattle.av_image.specs.Views.{rest_in, file_in}
use Rattle.av_image.specs.Saving.{IsRestOf}
use Rattle.av_headline.proofs.Alike.{one_refusal, answer_or_refusal}
use Rattle.av_answers.specs.Answer.{IsRunAnswer}
use Rattle.av_run.specs.Written.{AreFilesOf, IsNotWritten}
use Rattle.av_run.specs.Input.{IsInput, CanRun, AreKindsBy}
use Rattle.av_run.specs.Finished.{reached_from, IsFinished}
use Rattle.av_run.specs.declared.input.Input.{Input}
use Rattle.av_answers.specs.declared.answers.Outcome.{Outcome}
use Rattle.av_run.proofs.Inputs.{kinds_are}

-- ---- the ticks keep what writing asks

pub good_after : (n : ℕ) (i : Input) → CanRun n i → Good (kind_count i.kinds) (IsTimely n) (run (kinds_of i.kinds) (number_sets i.edits.items) n (land_of i.world))
good_after n i can =
    run_keeps (kinds_of i.kinds) (kind_count i.kinds) (number_sets i.edits.items) n (land_of i.world) (are_kinds i.kinds).at_least_ten can.few_ticks can.ints can.edits can.good

pub same_positions : (old new : World) → HasSameChunks old new → positions_of new ≡ positions_of old
same_positions old new s = ap (λ (x : Site). x.chunks) s.site_is

pub sound_after : (old new : World) → HasSameChunks old new → is_broken old ≡ false → is_broken new ≡ false
sound_after old new s sound = ap (λ (x : Site). x.broken) s.site_is ∙ sound

pub rest_after : (old new : World) (r : Rest) → HasSameChunks old new → IsRestOf (height_of old) (positions_of old) r → IsRestOf (height_of new) (positions_of new) r
rest_after old new r s own = subst (λ (h : Height). IsRestOf h (positions_of new) r) (sym (same_height old new s.site_is)) (subst (λ cs. IsRestOf (height_of old) cs r) (sym (same_positions old new s)) own)

-- ---- the answer

pub run_answers : (files : List File) (table edits : List ℕ) (n k : ℕ) (i : Input) (o : Outcome) → AreCountsGood files n k → IsInput files table edits n i → IsFinished n i o
    → Headline files table edits n k (map file_in o.files.items) o.turns o.chunks
run_answers files table edits n k i o counts s f =
    let w = land_of i.world in
    let r = rest_in i.rest in
    let new = states (table_in i.kinds) in
    let es = number_sets i.edits.items in
    let out = map file_in o.files.items in
    let is = kinds_are i.kinds s.rules s.kinds in
    let y : AreFilesOf s.rules (stated new (run (kinds_in s.rules new) es n w)) r n out = subst (λ (x : ℕ → Kind). AreFilesOf s.rules (stated new (run x es n w)) r n out) is (f.files s.rules s.kinds) in
    let turns : run_count (kinds_in s.rules new) es n w ≡ o.turns = sym (f.turns ∙ ap (λ (x : ℕ → Kind). run_count x es n w) is) in
    let all = headline files table edits n k s.rules s.height s.known new w r es y.light out counts s.spelled s.load s.read y.lit y.bytes y.fits in
    subst (λ m. Headline files table edits n k out o.turns m) (sym f.chunks) (subst (λ m. Headline files table edits n k out m (length w.chunks)) turns all)

pub run_refused : (files : List File) (table edits : List ℕ) (n k : ℕ) (i : Input) (e : Fault) → AreCountsGood files n k → IsInput files table edits n i
    → ((t : BlockTable) → AreKindsBy t i.kinds → IsNotWritten t (reached_from n i) (rest_in i.rest) n e) → IsRunRefused files table edits n k e
run_refused files table edits n k i e counts s f =
    let w = land_of i.world in
    let r = rest_in i.rest in
    let new = states (table_in i.kinds) in
    let es = number_sets i.edits.items in
    let is = kinds_are i.kinds s.rules s.kinds in
    let y : IsNotWritten s.rules (stated new (run (kinds_in s.rules new) es n w)) r n e = subst (λ (x : ℕ → Kind). IsNotWritten s.rules (stated new (run x es n w)) r n e) is (f s.rules s.kinds) in
    output y.chunk y.is (record {
      rules = s.rules;
      height = s.height;
      rest = r;
      reached = stated new (run (kinds_in s.rules new) es n w);
      light = y.light;
      turns = run_count (kinds_in s.rules new) es n w;
      chunks = length w.chunks;
      reaches = reaches files table edits n k s.rules s.height s.known new w r es y.light counts s.spelled s.load s.read y.lit;
      first = y.first;
    })

-- ---- both ways

abbrev failed : Fault → Result Outcome Fault
failed e = Err e

memory_or : (e : Fault) → (e ≡ OutOfMemory) ⊎ (e ≢ OutOfMemory)
memory_or OutOfMemory = inl refl
memory_or _ = inr (λ q. cc)

pub is_refusal : (files : List File) (table edits : List ℕ) (n k : ℕ) (e : Fault) → (e ≢ OutOfMemory → IsRunRefused files table edits n k e) → IsRunAnswer files table edits n k (Err e)
is_refusal files table edits n k e refused = record {
  ok = tt;
  refused = refused;
  at_cause = λ f cause. by f cause (memory_or e);
} where
  by : (f : Fault) → IsRunRefused files table edits n k f → (e ≡ OutOfMemory) ⊎ (e ≢ OutOfMemory) → (failed e ≡ failed f) ⊎ (failed e ≡ failed OutOfMemory)
  by f cause (inl memory) = inr (ap failed memory)
  by f cause (inr other) = inl (ap failed (one_refusal files table edits n k e f (refused other) cause))

pub is_answer : (files : List File) (table edits : List ℕ) (n k : ℕ) (i : Input) (r : Result Outcome Fault) → AreCountsGood files n k → IsInput files table edits n i → IfOk r (IsFinished n i)
    → IfErr r (λ e. e ≢ OutOfMemory → (t : BlockTable) → AreKindsBy t i.kinds → IsNotWritten t (reached_from n i) (rest_in i.rest) n e) → IsRunAnswer files table edits n k r
is_answer files table edits n k i (Ok o) counts s ok err =
    let all = run_answers files table edits n k i o counts s ok in
    record { ok = all; refused = tt; at_cause = λ f cause. absurd (answer_or_refusal files table edits n k (map file_in o.files.items) o.turns o.chunks f all cause) }
is_answer files table edits n k i (Err e) counts s ok err = is_refusal files table edits n k e (λ other. run_refused files table edits n k i e counts s (err other))
