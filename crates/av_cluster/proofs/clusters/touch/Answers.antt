use Rattle.std.proofs.Common.{◌≡◌, ◌∙◌, Some, true, false, Bool, sym, ap, subst, refl, inl, inr, true≢false}
use Rattle.av_types.specs.Positions.{section_of, is_section_of}
use Rattle.av_types.specs.declared.position.Height.{Height}
use Rattle.av_types.specs.declared.position.SectionPos.{SectionPos}
use Rattle.av_cells.specs.Grid.{is_here}
use Rattle.av_world.specs.declared.worlds.World.{World}
use Rattle.av_world.specs.Near.{is_world_section}
use Rattle.av_world.specs.Views.{grid}
use Rattle.av_cluster.specs.Joining.{owner_in, IsTouchedIf}
use Rattle.av_cluster.proofs.clusters.touch.Goals as goal

pub join-requires-clause-a : goal.join-requires-clause-a
join-requires-clause-a c = c.requires.owner c.in-Some.owner (sym (rw c.section-section.ensures at c.in-Some.ensures))

pub returns-in-Some : goal.returns-in-Some
returns-in-Some c =
    let e : owner_in c.args.owners.now.entries.items (section_of c.args.block) ≡ Some c.in-Some.owner = sym (rw c.section-section.ensures at c.in-Some.ensures) in
    subst (λ b. IsTouchedIf b c.args.parents.now c.join.new.parents (owner_in c.args.owners.now.entries.items) (owner_in c.args.owners.now.entries.items) (section_of c.args.block) c.args.index) (sym (c.requires.loaded c.in-Some.owner e))
    (record { falling = c.join.ensures.falling; count = c.join.ensures.count; case = inl (c.in-Some.owner, e, c.join.ensures, λ t. refl) })

pub returns-then-not-loaded : goal.returns-then-not-loaded
returns-then-not-loaded c =
    subst (λ b. IsTouchedIf b c.args.parents.now c.args.parents.now (owner_in c.args.owners.now.entries.items) (owner_in c.args.owners.now.entries.items) (section_of c.args.block) c.args.index) (sym (sym c.loaded.ensures ∙ c.if-not-loaded.true))
    (refl, refl)

pub returns : goal.returns
returns c =
    subst (λ b. IsTouchedIf b c.args.parents.now c.args.parents.now (owner_in c.args.owners.now.entries.items) (owner_in c.add.new.self.entries.items) (section_of c.args.block) c.args.index) (sym (sym c.loaded.ensures ∙ c.if-not-loaded.false))
    (record {
      falling = c.requires.falling;
      count = refl;
      case = inr (
        sym (rw c.section-section.ensures at c.in_default.ensures),
        refl,
        rw c.section-section.ensures at c.in_ok-add.ensures.ok,
      );
    })

not_here : (w : World) (s : SectionPos) → is_section_of w.height s.y ≡ false → (b : Bool) → is_here (grid w s) ≡ b → b ≡ false
not_here w s low true e = absurd (true≢false (sym (is_world_section w.height w.positions.items w.chunks.items w.lawful.parallel s e).high ∙ low))
not_here w s low false e = refl

pub returns-then-not-is_high : goal.returns-then-not-is_high
returns-then-not-is_high c =
    let w = c.args.world.now in let s = section_of c.args.block in
    let asked : c.is_high.result ≡ is_section_of w.height s.y = c.is_high.ensures ∙ (ap (λ (h : Height). is_section_of h c.section-section.result.y) c.height.ensures ∙ ap (λ (t : SectionPos). is_section_of w.height t.y) c.section-section.ensures) in
    let out : is_here (grid w s) ≡ false = not_here w s (sym asked ∙ c.if-not-is_high.true) (is_here (grid w s)) refl in
    subst (λ b. IsTouchedIf b c.args.parents.now c.args.parents.now (owner_in c.args.owners.now.entries.items) (owner_in c.args.owners.now.entries.items) s c.args.index) (sym out) (refl, refl)
