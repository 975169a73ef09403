use Rattle.std.proofs.Common.{◌≡◌, sym, subst, append_assoc, List, ℕ, [], ◌∷◌, ◌++◌, codes, OnOk}
use Rattle.std.specs.Io.KnownBytes.{Appends}
use Rattle.av_reports.specs.Output.{line}
use Rattle.av_folders.proofs.bare.write_none.Goals as goal

-- the text as it is written, piece after piece
is_line : (f : List ℕ) → f ++ (codes " has no region files" ++ 10 ∷ []) ≡ line (f ++ codes " has no region files")
is_line f = sym (append_assoc f (codes " has no region files") (10 ∷ []))

pub returns : goal.returns
returns g c =
    subst (λ (t : List ℕ). OnOk c.writeln.result (Appends (g.E.Write.contents c.args.err.now) (g.E.Write.contents c.writeln.new.self) t)) (is_line c.args.folder.now)
    c.writeln.ensures.bytes
