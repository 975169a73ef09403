-- `BadCount` is answered for counts alone.
use Rattle.std.proofs.Common.{◌≡◌, ◌≢◌, ℕ, suc, List, [], ◌∷◌, length, Bool, true, false, ◌&&◌, nat_le, nat_lt, if◌then◌else◌, Option, Some, None, Result, Ok, Err, IfOk, IfErr, inl, inr, refl, subst, arith}
use Rattle.av_types.specs.Positions.{chunk_at}
use Rattle.av_types.specs.declared.position.Height.{Height}
use Rattle.av_types.specs.declared.position.ChunkPos.{ChunkPos}
use Rattle.av_types.specs.declared.position.Pos.{Pos}
use Rattle.av_types.specs.declared.fault.Fault.{Fault}
use Rattle.av_types.specs.declared.fault.Fault.TheVariants.{OutOfMemory, BadCount, EditTick, EditOutside, TooManyStates}
use Rattle.av_state.specs.BlockState.{BlockState}
use Rattle.av_state.specs.StateList.{first_states, with_state, most_states}
use Rattle.av_document.specs.Chunk.{root_tags}
use Rattle.av_land.specs.Land.{is_loaded}
use Rattle.av_cells.specs.Sets.{Set}
use Rattle.av_edits.specs.Lines.{line_edit}
use Rattle.av_edits.specs.Edits.{line_fault, or_later, fault_of, is_skipped, table_of, first_in_lines, lines_of}
use Rattle.av_files.specs.Files.{File, in_order}
use Rattle.av_files.specs.Layout.{indices}
use Rattle.av_files.specs.FirstFault.{AreCountsGood, IsFaultAt, sectors, spelling, document, IsFirstOfIndices, IsFirstOfFile, header, at_index, IsFirstOfFiles, IsFilesFaultAfter, range, repeated, region, IsFirstFault, counts, rules, file, edit}
use Rattle.av_files.proofs.OneFault.{first_between}
use Rattle.av_run.specs.Input.{IsInput, IsInputFault, AreFew, IsInputAnswer}
use Rattle.av_run.specs.declared.input.Input.{Input}

-- ---- files

no_index : (h : Height) (t : List BlockState) (f : List ℕ) (c : ChunkPos) (i : ℕ) → ¬ IsFaultAt h t f c i BadCount
no_index h t f c i (sectors a) = a
no_index h t f c i (spelling p held none is) = cc
no_index h t f c i (document p d held spelled is) = let most = (first_between h c t (root_tags d) 23 is).to in omega arith

no_indices : (h : Height) (t : List BlockState) (f : File) (is : List ℕ) → ¬ IsFirstOfIndices h t f is BadCount
no_indices h t f [] a = a
no_indices h t f (i ∷ is) (inl a) = no_index h t f.bytes (chunk_at f.pos i) i a
no_indices h t f (i ∷ is) (inr a) = no_indices h a.0 f is a.2

no_file : (h : Height) (t : List BlockState) (f : File) → ¬ IsFirstOfFile h t f BadCount
no_file h t f (header short is) = cc
no_file h t f (at_index whole a) = no_indices h t f indices a

no_files : (h : Height) (t : List BlockState) (fs : List File) → ¬ IsFirstOfFiles h t fs BadCount
no_files h t [] a = a
no_files h t (f ∷ fs) (inl a) = no_file h t f a
no_files h t (f ∷ fs) (inr a) = no_files h a.0 fs a.2

no_files_fault : (h : Height) (t : List BlockState) (fs : List File) → ¬ IsFilesFaultAfter h t fs BadCount
no_files_fault h t fs (range out is) = cc
no_files_fault h t fs (repeated limits shared is) = cc
no_files_fault h t fs (region limits apart a) = no_files h t (in_order fs) a

-- ---- edits

no_edit : (in_run loaded many : Bool) (line : ℕ) → (if in_run then (if loaded then (if many then Some TooManyStates else None) else Some (EditOutside line)) else Some (EditTick line)) ≢ Some BadCount
no_edit true true true line = λ e. cc
no_edit true true false line = λ e. cc
no_edit true false many line = λ e. cc
no_edit false loaded many line = λ e. cc

no_skipped : (skipped : Bool) (o : Option Fault) → o ≢ Some BadCount → (if skipped then None else o) ≢ Some BadCount
no_skipped true o n = λ e. cc
no_skipped false o n = n

no_later : (a b : Option Fault) → a ≢ Some BadCount → b ≢ Some BadCount → or_later a b ≢ Some BadCount
no_later None b m n = n
no_later (Some e) b m n = m

no_line : (loaded : Pos → Bool) (ticks : ℕ) (t : List BlockState) (line : ℕ) (e : Option (Set BlockState)) → line_fault loaded ticks t line e ≢ Some BadCount
no_line loaded ticks t line None = λ e. cc
no_line loaded ticks t line (Some s) = no_edit (nat_le 1 s.tick && nat_le s.tick ticks) (loaded s.pos) (nat_lt most_states (length (with_state t s.what))) line

no_lines : (loaded : Pos → Bool) (ticks : ℕ) (t : List BlockState) (line : ℕ) (texts : List (List ℕ)) → first_in_lines loaded ticks t line texts ≢ Some BadCount
no_lines loaded ticks t line [] = λ e. cc
no_lines loaded ticks t line (text ∷ texts) =
    no_later (fault_of loaded ticks t line text) (first_in_lines loaded ticks (table_of t text) (suc line) texts)
    (no_skipped (is_skipped text) (line_fault loaded ticks t line (line_edit text)) (no_line loaded ticks t line (line_edit text)))
    (no_lines loaded ticks (table_of t text) (suc line) texts)

-- ---- the whole input

no_count : (files : List File) (table edits : List ℕ) (n k : ℕ) → AreCountsGood files n k → ¬ IsFirstFault files table edits n k BadCount
no_count files table edits n k good (counts bad is) = bad good
no_count files table edits n k good (rules g bad is) = cc
no_count files table edits n k good (file g t h spelled a) = no_files_fault h first_states files a
no_count files table edits n k good (edit g t h states w r spelled read denotes a) = no_lines (is_loaded w) n states 1 (lines_of edits) a

few_of : (files : List File) (n k : ℕ) → AreCountsGood files n k → AreFew files n
few_of files n k good = record { some_workers = omega arith; few_workers = omega arith; few_ticks = good.few_ticks; few_files = good.few_files }

abbrev answered : Fault → Result Input Fault
answered e = Err e

same_err : (e f : Fault) → answered e ≡ answered f → e ≡ f
same_err e f h = cc

pub too_many : (files : List File) (table edits : List ℕ) (n : ℕ) → ¬ AreFew files n → IsInputAnswer files table edits n (Err BadCount)
too_many files table edits n many = record {
  counts = (λ _. many, λ _. refl);
  few = tt;
  ok = tt;
  err = λ other k good. absurd (many (few_of files n k good));
}

pub answer_of_few : (files : List File) (table edits : List ℕ) (n : ℕ) (answer : Result Input Fault) → AreFew files n → IfOk answer (IsInput files table edits n)
    → IfErr answer (λ e. e ≢ OutOfMemory → IsInputFault files table edits n e) → IsInputAnswer files table edits n answer
answer_of_few files table edits n (Ok i) few ok err = record { counts = (λ e. cc, λ many. absurd (many few)); few = few; ok = ok; err = tt }
answer_of_few files table edits n (Err e) few ok err = record {
  counts = (
    λ same. let P : Fault → Type 0 = λ f. f ≢ OutOfMemory → IsInputFault files table edits n f in
        absurd (no_count files table edits n 1 few (subst P (same_err e BadCount same) err (λ q. cc) 1 few)),
    λ many. absurd (many few),
  );
  few = tt;
  ok = tt;
  err = err;
}
