use Rattle.std.proofs.Common.{◌≡◌, sym, subst, arith}
use Rattle.av_types.specs.declared.water.Wet.TheVariants.{Dry}
use Rattle.std.proofs.lemmas.List.{get_or_read}
use Rattle.av_types.specs.Water.{IsProper}
use Rattle.av_rules.specs.Kinds.{wet_at}
use Rattle.av_rules.proofs.KindFacts.{are_kinds}
use Rattle.av_rules.proofs.kinds.Kinds.wet.Goals as goal

pub returns-clause-value : goal.returns-clause-value
returns-clause-value c =
    let k = c.args.self.now in
    get_or_read k.wets.items _ _ (omega (arith, k.listed.a_row_each, k.listed.a_wetness_each, c.requires)) c.index.ensures Dry

pub returns-clause-proper : goal.returns-clause-proper
returns-clause-proper c =
    let k = c.args.self.now in
    let e : c.index.result.now ≡ wet_at k c.args.number = get_or_read k.wets.items _ _ (omega (arith, k.listed.a_row_each, k.listed.a_wetness_each, c.requires)) c.index.ensures Dry in
    subst IsProper (sym e) ((are_kinds k).proper c.args.number)
