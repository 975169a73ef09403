-- What a run begins with, and why it has none.
use Rattle.std.proofs.Common.{◌≡◌, ◌∙◌, ℕ, zero, suc, ◌<◌, ◌≤◌, List, [], ◌∷◌, ◌++◌, length, length-append, map, Bool, true, Some, slice_get, slice_index_or, All, refl, ap, sym, subst, arith}
use Rattle.std.specs.List.{AllByRecursion}
use Rattle.std.proofs.lemmas.List.Elements.{All-from_recursion}
use Rattle.av_types.specs.declared.position.Height.{Height}
use Rattle.av_types.specs.declared.position.Pos.{Pos}
use Rattle.av_types.specs.declared.water.Wet.TheVariants.{Dry}
use Rattle.av_types.specs.declared.fault.Fault.{Fault}
use Rattle.av_types.specs.declared.fault.Fault.TheVariants.{BadTable}
use Rattle.av_state.specs.BlockState.{BlockState}
use Rattle.av_state.specs.Table.{states}
use Rattle.av_rules.specs.Rows.{BlockTable, row_of, wet_in, shut_row}
use Rattle.av_rules.specs.Kinds.{table_in, kind_count}
use Rattle.av_rules.specs.declared.kinds.Kinds.{Kinds}
use Rattle.av_cells.specs.Kinds.{kinds_of}
use Rattle.av_land.specs.Land.{Land, is_loaded}
use Rattle.av_cells.specs.Sets.{Set}
use Rattle.av_land.specs.Good.{Good, IsTimely, IsSetOf}
use Rattle.av_edits.specs.declared.edit.Edit.{Edit}
use Rattle.av_edits.specs.Edits.{first_in_edits}
use Rattle.av_edits.specs.Numbered.{number_sets}
use Rattle.av_world.specs.Lands.{land_of, IsUncarved}
use Rattle.av_world.specs.Views.{positions_of}
use Rattle.av_world.specs.declared.worlds.World.{World}
use Rattle.av_serial.specs.Ready.{CanApply}
use Rattle.av_files.specs.Files.{File}
use Rattle.av_files.specs.Denotes.{Rest, Denotes}
use Rattle.av_files.specs.FirstFault.{IsTable, IsBadTable, IsFilesFault, rules, file, edit}
use Rattle.av_files.specs.Run.{stated, kind_or_shut, kinds_in}
use Rattle.av_files.specs.Layers.{IsLoad}
use Rattle.av_files.proofs.Composed.{stated_grows}
use Rattle.av_files.proofs.Lawfuls.{read_is_good, read_has_ints}
use Rattle.av_image.specs.Views.{rest_in}
use Rattle.av_image.specs.Saving.{IsRestOf}
use Rattle.av_run.specs.Input.{IsInput, IsInputFault, CanRun, AreKindsBy}
use Rattle.av_run.specs.declared.input.Input.{Input}

-- ---- the kinds of a table's states

kind_at_is : (t : BlockTable) (known : List BlockState) (n : ℕ)
    → record { opens = (slice_index_or (map (row_of t) known) n shut_row).opens; floor = (slice_index_or (map (row_of t) known) n shut_row).floor; wet = slice_index_or (map (wet_in t) known) n Dry } ≡ kind_or_shut t (slice_get known n)
kind_at_is t [] n = refl
kind_at_is t (s ∷ known) zero = refl
kind_at_is t (s ∷ known) (suc n) = kind_at_is t known n

pub kinds_are : (k : Kinds) (t : BlockTable) → AreKindsBy t k → kinds_of k ≡ kinds_in t (states (table_in k))
unfolding kinds_of
kinds_are k t made = λ i n.
    ((λ j. record { opens = (slice_index_or (made.rows j) n shut_row).opens; floor = (slice_index_or (made.rows j) n shut_row).floor; wet = slice_index_or (made.wets j) n Dry }) ∙ kind_at_is t (states (table_in k)) n) i

-- ---- faults

pub rules_fault : (files : List File) (table edits : List ℕ) (n : ℕ) (e : Fault) → (e ≡ BadTable) × IsBadTable table → IsInputFault files table edits n e
rules_fault files table edits n e h = λ k counts. rules counts h.1 h.0

pub files_fault : (files : List File) (table edits : List ℕ) (n : ℕ) (t : BlockTable) (h : Height) (e : Fault) → IsTable table t h → IsFilesFault h files e → IsInputFault files table edits n e
files_fault files table edits n t h e spelled fault = λ k counts. file counts t h spelled fault

pub edits_fault : (files : List File) (table edits : List ℕ) (n : ℕ) (t : BlockTable) (h : Height) (known : List BlockState) (w : Land ℕ) (r : Rest) (e : Fault)
    → IsTable table t h → IsLoad h files known w r → first_in_edits (is_loaded w) n known edits ≡ Some e → IsInputFault files table edits n e
edits_fault files table edits n t h known w r e spelled load fault = λ k counts. edit counts t h known (stated known w) r spelled load.read load.denotes fault

-- ---- what ticks and writing ask

more_numbers : (known new more : List BlockState) (i : ℕ) → new ≡ known ++ more → i < length known → i < length new
more_numbers known new more i is h = rw is (rw (length-append known more) (omega arith))

sets_of : (count : ℕ) (w : Land ℕ) (es : List (Set ℕ)) → AllByRecursion (λ e. e.what < count) es → AllByRecursion (λ e. is_loaded w e.pos ≡ true) es → AllByRecursion (IsSetOf count w) es
sets_of count w [] a b = tt
sets_of count w (e ∷ es) a b = (record { number = a.0; there = b.0 }, sets_of count w es a.1 b.1)

pub can_run : (files : List File) (table edits : List ℕ) (n : ℕ) (i : Input) → n ≤ 1000000 → IsInput files table edits n i → CanRun n i
can_run files table edits n i few s =
    let w = land_of i.world in
    let new = states (table_in i.kinds) in
    let rest = rest_in i.rest in
    let many : length new ≡ kind_count i.kinds = sym i.kinds.listed.a_row_each in
    let grows = stated_grows s.known new s.read.more w s.read.grown s.load.numbers in
    let denotes : Denotes s.height files (stated new w) rest = subst (λ x. Denotes s.height files x rest) grows s.load.denotes in
    let good = read_is_good s.height files new w rest denotes (λ p. more_numbers s.known new s.read.more (w.at p) s.read.grown (s.load.numbers p)) s.load.zeros in
    record {
      few_ticks = few;
      whole = s.whole;
      sound = s.sound;
      good = subst (λ m. Good m (IsTimely 0) w) many good;
      ints = read_has_ints s.height files (stated new w) rest denotes;
      edits = subst (λ m. AllByRecursion (IsSetOf m w) (number_sets i.edits.items)) many (sets_of (length new) w (number_sets i.edits.items) s.read.numbers s.read.there);
      rest_of = subst (λ (h : Height). IsRestOf h (positions_of i.world) i.rest) (sym s.load.denotes.height) s.rest_of;
    }

-- each edit can be applied
can_apply_each : (count : ℕ) (w : World) (es : List Edit) → IsUncarved w → AllByRecursion (IsSetOf count (land_of w)) (number_sets es) → AllByRecursion (CanApply count w) es
can_apply_each count w [] whole h = tt
can_apply_each count w (e ∷ es) whole h = (record { loaded = ap (λ (l : Pos → Bool). l e.pos) whole ∙ h.0.there; number = h.0.number }, can_apply_each count w es whole h.1)

pub can_apply_all : (count : ℕ) (w : World) (es : List Edit) → IsUncarved w → AllByRecursion (IsSetOf count (land_of w)) (number_sets es) → All (CanApply count w) es
can_apply_all count w es whole h = All-from_recursion (CanApply count w) es (can_apply_each count w es whole h)
