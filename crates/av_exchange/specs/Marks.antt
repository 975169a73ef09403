-- By what the files of a folder are known again: a journal has the marks of what had its names when it was written.
use Rattle.std.specs.Prelude.{◌≡◌, ◌↔◌, ◌<◌, ℕ, true, List, Option, Some, None, is_some, codes, length, map, option_map}
use Rattle.std.specs.List.{AllByRecursion, slice_get}
use Rattle.av_sink.specs.Account.{NamedFile}
use Rattle.av_exchange.specs.Names.{IsBeside, IsRegionName, journal_name, journal_of, part_of}
use Rattle.av_exchange.specs.Steps.{History, Holdings, IfTold, IsCutOff, Step, after_all}
use Rattle.av_exchange.specs.Exchange.{exchanging, repairing}

-- the mark of a file with these bytes
abbrev pub Marking : Type 0
Marking = List ℕ → List ℕ

-- the line of a mark; `-` where no file was
abbrev pub mark_line : Option (List ℕ) → List ℕ
mark_line None = codes "-"
mark_line (Some mark) = mark

-- the line of what has a name
abbrev pub line_at : Marking → Holdings → List ℕ → List ℕ
line_at mark_of h name = mark_line (option_map mark_of (h name))

-- the marks of what has these names, where the folder can tell
abbrev pub AreMarksOf : Marking → Option History → (names marks : List (List ℕ)) → Type 0
AreMarksOf mark_of t names marks = IfTold t (λ h. marks ≡ map (line_at mark_of h) names)

-- what has a name is what had it when this mark was written, exactly as long as its new file waits
abbrev pub IsAsMarked : Marking → Holdings → (name : List ℕ) → (mark : Option (List ℕ)) → Type 0
IsAsMarked mark_of h name mark = (is_some (h (part_of name)) ≡ true) ↔ (mark ≡ Some (line_at mark_of h name))

-- the same of the first n of these names
abbrev pub AreAsMarked : Marking → Holdings → (names marks : List (List ℕ)) → ℕ → Type 0
AreAsMarked mark_of h names marks n = (i : ℕ) → i < n → (name : List ℕ) → slice_get names i ≡ Some name → IsAsMarked mark_of h name (slice_get marks i)

-- nothing that a journal lists, and whose new file waits, was written since the journal was; and no new file is lost
pub data IsUnwritten (mark_of : Marking) (h : Holdings) : Type 0 where
  unjournaled : h journal_name ≡ None → IsUnwritten mark_of h
  as_marked : (names marks : List (List ℕ)) → h journal_name ≡ Some (journal_of names marks) → AllByRecursion IsRegionName names
      → AreAsMarked mark_of h names marks (length names) → IsUnwritten mark_of h

-- ---- laws

-- each new file has another mark than what has its name
abbrev pub AreMarkedAnew : Marking → Holdings → List NamedFile → Type 0
AreMarkedAnew mark_of h files = AllByRecursion (λ f. ¬ (mark_of f.bytes ≡ line_at mark_of h f.name)) files

-- a crash during an exchange, while nobody else writes, leaves nothing for which a repair refuses
abbrev pub LeavesUnwritten : Type 0
LeavesUnwritten = (mark_of : Marking) (h : Holdings) (files : List NamedFile) (left : List Step) → h journal_name ≡ None → AllByRecursion (λ f. IsRegionName f.name) files
    → AreMarkedAnew mark_of h files → IsCutOff (exchanging files (map (line_at mark_of h) (map (λ f. f.name) files))) left → IsUnwritten mark_of (after_all h left)

-- each new file that waits has another mark than the one that stands for its name
abbrev pub WaitAnew : Marking → Holdings → (names marks : List (List ℕ)) → Type 0
WaitAnew mark_of h names marks = (i : ℕ) (name bytes : List ℕ) → slice_get names i ≡ Some name → h (part_of name) ≡ Some bytes → ¬ (slice_get marks i ≡ Some (mark_of bytes))

-- nor does a crash during a repair
abbrev pub RepairLeavesUnwritten : Type 0
RepairLeavesUnwritten = (mark_of : Marking) (h : Holdings) (names marks gone : List (List ℕ)) (left : List Step) → h journal_name ≡ Some (journal_of names marks)
    → AllByRecursion IsRegionName names → AreAsMarked mark_of h names marks (length names) → WaitAnew mark_of h names marks → AllByRecursion IsBeside gone
    → IsCutOff (repairing (Some names) gone) left → IsUnwritten mark_of (after_all h left)
