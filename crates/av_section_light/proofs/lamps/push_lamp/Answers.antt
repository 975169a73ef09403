use Rattle.std.proofs.Common.{sym, subst}
use Rattle.std.specs.Prelude.{Contains}
use Rattle.std.proofs.lemmas.List.Elements.{Contains-append_left, Contains-push}
use Rattle.av_section_light.proofs.lamps.push_lamp.Goals as goal

pub returns-clause-kept : goal.returns-clause-kept
returns-clause-kept c = λ p w. subst (λ xs. Contains xs p) (sym c.in_ok-push.ensures.items) (Contains-append_left _ _ p w)

pub returns-clause-lit : goal.returns-clause-lit
returns-clause-lit c =
    λ shines. subst (λ p. Contains c.push.new.self.items p) c.block_at.ensures (subst (λ xs. Contains xs c.block_at.result) (sym c.in_ok-push.ensures.items) (Contains-push c.args.lamps.now.items c.block_at.result))
