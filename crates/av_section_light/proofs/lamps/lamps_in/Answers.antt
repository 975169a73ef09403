use Rattle.std.proofs.Common.{arith, below_more, refl, sym, subst, ◌∙◌}
use Rattle.std.specs.Prelude.{Contains}
use Rattle.std.proofs.lemmas.Bool.{false≢true}
use Rattle.av_flood.specs.Blocks.{IsNear, MayBeLoaded}
use Rattle.av_flood.proofs.Boards.{near_chunk}
use Rattle.av_section_light.proofs.LampLemmas.{near_section, in_layer}
use Rattle.av_section_light.proofs.lamps.lamps_in.Goals as goal

pub returns-then-not-may_be_loaded : goal.returns-then-not-may_be_loaded
returns-then-not-may_be_loaded g c =
    record { lit = λ p e l shines. absurd (false≢true (c.if-not-may_be_loaded.ensures.1 (subst MayBeLoaded e (near_chunk _ p (g.met.S.Sections.near c.args.sections.now p l))))) }

pub push_lamps_at-requires : goal.push_lamps_at-requires
push_lamps_at-requires g c = near_section c.args.chunk c.height-height.result c.loop-number.number c.loop-number-test.true (c.if-not-may_be_loaded.ensures.0 refl) _ c.section_at.ensures

pub loop-number-preserved : goal.loop-number-preserved
loop-number-preserved g c =
    let now = c.in_ok-push_lamps_at.ensures {u = tt} in
    below_more _ _ (λ n less p e l shines. now.kept p (c.loop-number.invariant n less p e l shines)) (λ p e l shines. now.lit p (e ∙ sym c.section_at.ensures) l shines)

pub returns : goal.returns
returns g c =
    record {
      lit = λ p e l shines. in_layer c.args.chunk c.height-height.result p (Contains c.loop-number.lamps.items p) e (subst (λ h. IsNear h p) (sym c.height-height.ensures) (g.met.S.Sections.near c.args.sections.now p l))
          (λ n less at. c.loop-number.invariant n (let m = c.loop-number-test.false in omega arith) p at l shines);
    }
