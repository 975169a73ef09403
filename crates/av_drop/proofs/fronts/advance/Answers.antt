use Rattle.std.proofs.Common.{◌≡◌, ℕ, ◌&&◌, Bool, true, false, refl, sym, ◌∙◌}
use Rattle.std.proofs.lemmas.Bool.{and_parts}
use Rattle.av_cells.specs.Kinds.{kinds_of}
use Rattle.av_cells.specs.Rule.{can_pass}
use Rattle.av_drop.specs.Board.{spot, is_on}
use Rattle.av_drop.proofs.fronts.advance.Goals as goal

same_and : (a b r : Bool) → (a ≡ true → b ≡ r) → (a && b) ≡ (a && r)
same_and true b r h = h refl
same_and false b r h = refl

pub returns-clause-is : goal.returns-clause-is
returns-clause-is g c =
    let k = kinds_of c.args.kinds.now in
    let w = g.C.Cells.world c.args.cells.now in
    let p = c.args.middle in
    let beside = c.beside-beside.result in
    let around = c.read.new.self in
    let seen = c.read.ensures.seen in
    let next = c.passed-next in
    let known : (i : ℕ) → is_on beside i ≡ true → is_on around.known i ≡ true = λ i on. c.read.ensures.known i (c.beside-beside.ensures.bound i on) on in
    let of_beside : (i : ℕ) → is_on next.result i ≡ true → is_on beside i ≡ true = λ i on. (and_parts (is_on beside i) (is_on around.passes i) (sym (next.ensures i) ∙ on)).0 in
    record {
      beside = beside;
      are_beside = c.beside-beside.ensures;
      inside = λ i. next.ensures i ∙ same_and (is_on beside i) (is_on around.passes i) (can_pass k w (spot p i)) (λ on. seen.passes_are i (known i on));
      found = λ h.
          let at = c.drops_at.ensures.some h in
          record { square = at.square; marked = at.first; drops = sym (seen.drops_are at.square (known at.square (of_beside at.square at.first))) ∙ at.second };
      missed = λ h i on. sym (seen.drops_are i (known i (of_beside i on))) ∙ c.drops_at.ensures.none h i on;
    }
