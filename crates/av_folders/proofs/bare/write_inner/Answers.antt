use Rattle.std.proofs.Common.{◌≡◌, subst, append_assoc, List, ℕ, [], ◌∷◌, ◌++◌, codes, OnOk}
use Rattle.std.specs.Io.KnownBytes.{Appends}
use Rattle.av_reports.specs.Output.{line}
use Rattle.av_folders.proofs.bare.write_inner.Goals as goal

-- the text as it is written, piece after piece
is_line : (f i : List ℕ) → f ++ (codes " has no region files, but " ++ (i ++ (codes " is there" ++ 10 ∷ [])))
    ≡ line (f ++ (codes " has no region files, but " ++ (i ++ codes " is there")))
is_line f i = simp append_assoc

pub returns : goal.returns
returns g c =
    subst (λ (t : List ℕ). OnOk c.writeln.result (Appends (g.E.Write.contents c.args.err.now) (g.E.Write.contents c.writeln.new.self) t))
    (is_line c.args.folder.now c.args.inner.now) c.writeln.ensures.bytes
