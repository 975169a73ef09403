-- Laws of spelling.
use Rattle.std.specs.Prelude.{◌≡◌, ℕ, List, ◌++◌}
use Rattle.av_tags.specs.Nbt.{Nbt, Document, tag_type_of}
use Rattle.av_nbt.specs.Spelling.{Spells, SpellsDocument}
use Rattle.av_nbt.specs.Writing.{written_document, IsWellFormed}

-- Bytes spell at most one tag of a type, and no spelling begins a longer one.
abbrev pub OneTag : Type 0
OneTag = (t u : Nbt) (a b x y : List ℕ) → tag_type_of t ≡ tag_type_of u → Spells t a → Spells u b → a ++ x ≡ b ++ y → (t ≡ u) × (a ≡ b)

-- Bytes spell at most one document, and no spelling begins a longer one.
abbrev pub OneDocument : Type 0
OneDocument = (d e : Document) (a b x y : List ℕ) → SpellsDocument d a → SpellsDocument e b → a ++ x ≡ b ++ y → (d ≡ e) × (a ≡ b)

-- What is written of a document that has a spelling spells it.
abbrev pub WrittenSpells : Type 0
WrittenSpells = (d : Document) → IsWellFormed d → SpellsDocument d (written_document d)

-- So what is written is read as the same document.
abbrev pub WrittenReadsBack : Type 0
WrittenReadsBack = (d e : Document) → IsWellFormed d → SpellsDocument e (written_document d) → e ≡ d
