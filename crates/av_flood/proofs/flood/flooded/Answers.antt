use Rattle.std.proofs.Common.{subst, sym, ap, ◌-◌}
use Rattle.std.proofs.lemmas.Bool.{false≢true}
use Rattle.av_flood.specs.Board.{raw_of}
use Rattle.av_flood.specs.Blocks.{MayBeLoaded}
use Rattle.av_flood.specs.Light.{IsLight}
use Rattle.av_flood.proofs.Boards.{near_chunk, byte_low}
use Rattle.av_flood.proofs.Paths.{IsLight-unloaded}
use Rattle.av_flood.proofs.flood.flooded.Goals as goal

pub returns-then-not-may_be_loaded-clause-light : goal.returns-then-not-may_be_loaded-clause-light
returns-then-not-may_be_loaded-clause-light g c =
    let made = c.in_ok-flood.ensures {u = tt} in
    let t = g.B.Blocks.terrain c.args.blocks.now in
    λ p e. subst (IsLight t p) (sym (ap (λ b. b - 128) (byte_low (raw_of c.in_ok-flood.flood p) (made.fresh p).0)))
    (IsLight-unloaded t p (λ l. false≢true (c.if-not-may_be_loaded.ensures.1 (subst MayBeLoaded e (near_chunk _ p (g.met.B.Blocks.near c.args.blocks.now p l))))))
