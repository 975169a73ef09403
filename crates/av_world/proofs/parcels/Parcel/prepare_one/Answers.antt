use Rattle.std.proofs.Common.{IsTrue, OnOk, All, List, ℕ, [], ◌∷◌, subst, sym}
use Rattle.av_types.specs.declared.position.SectionPos.{SectionPos}
use Rattle.av_cells.specs.Grid.{is_here}
use Rattle.av_world.specs.ParcelViews.{kept_grid, CanSetAt}
use Rattle.av_world.proofs.ParcelSteps.{numbers_last}
use Rattle.av_world.proofs.parcels.Parcel.prepare_one.Goals as goal

pub returns-clause-prepared : goal.returns-clause-prepared
returns-clause-prepared c =
    let new = c.prepare_section.new.self in let ns : List ℕ = c.args.number ∷ [] in
    subst (λ (s : SectionPos). OnOk c.prepare_section.result (IsTrue (is_here (kept_grid new s)) → All (CanSetAt new s) ns)) c.section.ensures c.prepare_section.ensures.prepared

pub returns-clause-succeeds : goal.returns-clause-succeeds
returns-clause-succeeds c =
    let w = c.args.self.now in let old = c.reserve_aside.new.self in let ns : List ℕ = c.args.number ∷ [] in
    λ room numbers. c.prepare_section.ensures.succeeds
    (subst (λ (s : SectionPos). IsTrue (is_here (kept_grid old s)) → All (CanSetAt old s) ns) (sym c.section.ensures)
    (numbers_last w old ns c.args.pos c.reserve_aside.ensures.kept numbers))
