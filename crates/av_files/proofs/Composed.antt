-- The headline, from what the layers answer.
use Rattle.std.proofs.Common.{◌≡◌, ◌∙◌, ℕ, zero, suc, ◌+◌, ◌<◌, ◌≤◌, List, [], ◌∷◌, ◌++◌, length, length-append, take, min, Bool, true, false, cond, None, refl, ap, sym, subst, arith}
use Rattle.std.specs.Prelude.{slice_index_or}
use Rattle.std.specs.List.{AllByRecursion}
use Rattle.av_types.specs.Positions.{is_section_of}
use Rattle.av_types.specs.declared.position.Height.{Height}
use Rattle.av_types.specs.declared.position.Pos.{Pos}
use Rattle.av_types.specs.declared.tick.Entry.{Entry}
use Rattle.av_state.specs.BlockState.{BlockState, air}
use Rattle.av_rules.specs.Rows.{BlockTable}
use Rattle.av_cells.specs.declared.kind.Kind.{Kind}
use Rattle.av_land.specs.Land.{Land, is_loaded}
use Rattle.av_cells.specs.Sets.{Set}
use Rattle.av_land.specs.Tick.{set_in, turned, edited, turned_all, run_after, run, run_count, due_entries, without_due}
use Rattle.av_files.specs.Files.{File}
use Rattle.av_files.specs.Denotes.{Rest, Denotes}
use Rattle.av_files.specs.Layout.{Lights, layout, too_large}
use Rattle.av_files.specs.Lawful.{IsLawfulLand}
use Rattle.av_files.specs.Light.{IsLit}
use Rattle.av_files.specs.FirstFault.{AreCountsGood, IsTable}
use Rattle.av_files.specs.Run.{stated, kinds_in}
use Rattle.av_files.specs.Layers.{IsLoad, AreEdits}
use Rattle.av_files.specs.Headline.{Reaches, Headline}
use Rattle.av_files.proofs.Layouts.{layout_is_denoted}
use Rattle.av_files.proofs.Lawfuls.{read_is_good, read_has_ints, good_is_lawful}
use Rattle.av_land.specs.Good.{IsSetOf}
use Rattle.av_land.proofs.Kept.{run_keeps}
use Rattle.av_state.specs.StateList.{first_states}
use Rattle.std.proofs.lemmas.List.{length-take}

grown_at : (states more : List BlockState) (i : ℕ) → i < length states → slice_index_or (states ++ more) i air ≡ slice_index_or states i air
grown_at [] more i h = absurd (omega arith)
grown_at (s ∷ states) more zero h = refl
grown_at (s ∷ states) more (suc i) h = grown_at states more i (omega arith)

more_numbers : (states new more : List BlockState) (i : ℕ) → new ≡ states ++ more → i < length states → i < length new
more_numbers states new more i is h = rw is (rw (length-append states more) (omega arith))

-- older numbers keep their states
pub stated_grows : (states new more : List BlockState) (w : Land ℕ) → new ≡ states ++ more → ((p : Pos) → w.at p < length states) → stated states w ≡ stated new w
stated_grows states new more w is h =
    rw is (λ i. record { height = w.height; chunks = w.chunks; at = λ p. sym (grown_at states more (w.at p) (h p)) i; lists = w.lists })

-- ---- the same chunks stay loaded

pub record Stays (v w : Land ℕ) : Type 0 where
  pub same_height : v.height ≡ w.height
  pub same_chunks : v.chunks ≡ w.chunks

stays_if : (b : Bool) (u v w : Land ℕ) → Stays u w → Stays v w → Stays (cond b u v) w
stays_if true u v w s r = s
stays_if false u v w s r = r

edited_stays : (k : ℕ → Kind) (now : ℕ) (es : List (Set ℕ)) (v w : Land ℕ) → Stays v w → Stays (edited k now es v) w
edited_stays k now [] v w s = s
edited_stays k now (e ∷ es) v w s = edited_stays k now es _ w (stays_if _ (set_in k now e.pos e.what v) v w (record { same_height = s.same_height; same_chunks = s.same_chunks }) s)

turned_stays : (k : ℕ → Kind) (now : ℕ) (es : List Entry) (v w : Land ℕ) → Stays v w → Stays (turned_all k now es v) w
turned_stays k now [] v w s = s
turned_stays k now (e ∷ es) v w s = turned_stays k now es (turned k now e.pos v) w (record { same_height = s.same_height; same_chunks = s.same_chunks })

pub run_stays : (k : ℕ → Kind) (first : ℕ) (es : List (Set ℕ)) (m : ℕ) (w : Land ℕ) → Stays (run_after k first es m w) w
run_stays k first es zero w = record { same_height = refl; same_chunks = refl }
run_stays k first es (suc m) w =
    let before = run_after k first es m w in
    let now = suc m + first in
    let v = edited k now es before in
    let s = edited_stays k now es before w (run_stays k first es m w) in
    turned_stays k now (due_entries now v) (without_due now v) w (record { same_height = s.same_height; same_chunks = s.same_chunks })

-- ---- all together

pub reaches : (files : List File) (table edits : List ℕ) (n k : ℕ) (t : BlockTable) (h : Height) (states new : List BlockState) (w : Land ℕ) (r : Rest) (es : List (Set ℕ)) (light : Lights)
    → AreCountsGood files n k → IsTable table t h → IsLoad h files states w r → AreEdits (is_loaded w) n edits states new es
    → IsLit t (stated new (run (kinds_in t new) es n w)) light
    → Reaches files table edits n k r t h (stated new (run (kinds_in t new) es n w)) light (run_count (kinds_in t new) es n w) (length w.chunks)
reaches files table edits n k t h states new w r es light counts rules load read lit =
    let grows = stated_grows states new read.more w read.grown load.numbers in
    record {
      world = stated states w;
      accepted = record { counts = counts; rules = rules; states = states; read = load.read; denotes = load.denotes; no_fault = read.no_fault };
      runs = record {
        states = new;
        numbers = w;
        sets = es;
        numbered = record { list = read.list; blocks = λ p. more_numbers states new read.more (w.at p) read.grown (load.numbers p); edits = read.numbers };
        from = grows;
        edits = read.sets;
        to = refl;
        counted = refl;
      };
      lit = lit;
      loaded = refl;
    }

ten : (states : List BlockState) → take 10 states ≡ first_states → 10 ≤ length states
ten states h =
    let n : min 10 (length states) ≡ 10 = sym (length-take 10 states) ∙ ap length h in
    omega (arith, n)

sets_of : (count : ℕ) (w : Land ℕ) (es : List (Set ℕ)) → AllByRecursion (λ e. e.what < count) es → AllByRecursion (λ e. is_loaded w e.pos ≡ true) es → AllByRecursion (IsSetOf count w) es
sets_of count w [] a b = tt
sets_of count w (e ∷ es) a b = (record { number = a.0; there = b.0 }, sets_of count w es a.1 b.1)

-- the world that is reached can be written
pub reached_is_lawful : (files : List File) (n : ℕ) (t : BlockTable) (h : Height) (states new : List BlockState) (w : Land ℕ) (r : Rest) (es : List (Set ℕ)) {edits : List ℕ}
    → n ≤ 1000000 → IsLoad h files states w r → AreEdits (is_loaded w) n edits states new es → IsLawfulLand (stated new (run (kinds_in t new) es n w)) n
reached_is_lawful files n t h states new w r es few load read =
    let grows = stated_grows states new read.more w read.grown load.numbers in
    let denotes : Denotes h files (stated new w) r = subst (λ x. Denotes h files x r) grows load.denotes in
    let good = read_is_good h files new w r denotes (λ p. more_numbers states new read.more (w.at p) read.grown (load.numbers p)) load.zeros in
    let kept = run_keeps (kinds_in t new) (length new) es n w (ten new read.list.begins) few (read_has_ints h files (stated new w) r denotes) (sets_of (length new) w es read.numbers read.there) good in
    good_is_lawful new n (run (kinds_in t new) es n w) read.list read.storable kept

pub headline : (files : List File) (table edits : List ℕ) (n k : ℕ) (t : BlockTable) (h : Height) (states new : List BlockState) (w : Land ℕ) (r : Rest) (es : List (Set ℕ)) (light : Lights) (out : List File)
    → AreCountsGood files n k → IsTable table t h → IsLoad h files states w r → AreEdits (is_loaded w) n edits states new es
    → IsLit t (stated new (run (kinds_in t new) es n w)) light
    → out ≡ layout t (stated new (run (kinds_in t new) es n w)) r light n → too_large t (stated new (run (kinds_in t new) es n w)) r light n ≡ None
    → Headline files table edits n k out (run_count (kinds_in t new) es n w) (length w.chunks)
headline files table edits n k t h states new w r es light out counts rules load read lit is fits =
    let v = run (kinds_in t new) es n w in
    let stays = run_stays (kinds_in t new) 0 es n w in
    let tall : v.height ≡ h = stays.same_height ∙ load.denotes.height in
    let lawful = reached_is_lawful files n t h states new w r es counts.few_ticks load read in
    record {
      rules = t;
      height = h;
      rest = r;
      reached = stated new v;
      light = light;
      reaches = reaches files table edits n k t h states new w r es light counts rules load read lit;
      decodes = rw is (layout_is_denoted t h files (stated states w) (stated new v) r light n load.denotes load.stamps stays.same_height stays.same_chunks lawful
          (λ c y inside. lit.bytes c y (subst (λ x. is_section_of x y ≡ true) (sym tall) inside)) fits);
      bytes = is;
      fits = fits;
    }
