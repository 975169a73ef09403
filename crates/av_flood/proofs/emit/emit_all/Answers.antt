use Rattle.std.proofs.Common.{arith, refl, subst, sym, ◌∙◌}
use Rattle.av_flood.specs.Board.{raw_of}
use Rattle.av_flood.specs.Flooding.{IsGrown, IsNoted, WaitsIfEmitting, todo_of}
use Rattle.av_flood.proofs.Floods.{IsGrown-none, IsGrown-trans, WaitsIfEmitting-grown, WaitsIfEmitting-moved, offered_more}
use Rattle.av_flood.proofs.emit.emit_all.Goals as goal

pub loop-lamp-init : goal.loop-lamp-init
loop-lamp-init g c = record { chunk = refl; height = refl; dark = c.requires.dark; noted = c.requires.noted; grown = IsGrown-none _ _ _ _; ready = λ k e l. absurd (omega arith) }

pub loop-lamp-preserved : goal.loop-lamp-preserved
loop-lamp-preserved g c =
    let now = c.in_ok-emit.ensures {u = tt} in
    let inv = c.loop-lamp.invariant in
    let t = g.B.Blocks.terrain c.args.blocks.now in
    let chunk = c.args.flood.now.chunk in
    let grown = subst (λ k. IsGrown t k 16 (todo_of c.loop-lamp.buckets) (todo_of c.emit.new.buckets)) inv.chunk now.grown in
    record {
      chunk = now.chunk ∙ inv.chunk;
      height = now.height ∙ inv.height;
      dark = now.dark;
      noted = subst (λ k. IsNoted t k (raw_of c.emit.new.flood) (todo_of c.emit.new.buckets)) (sym now.chunk) now.noted;
      grown = IsGrown-trans _ _ _ _ _ _ inv.grown grown;
      ready = offered_more (WaitsIfEmitting t chunk (todo_of c.loop-lamp.buckets)) (WaitsIfEmitting t chunk (todo_of c.emit.new.buckets)) c.args.lamps.now c.loop-lamp.lamp-index _ _ c.loop-lamp-test.true refl
          (λ r. WaitsIfEmitting-grown _ _ _ _ _ _ grown) (WaitsIfEmitting-moved _ _ _ _ _ inv.chunk now.ready) inv.ready;
    }

pub returns-clause-noted : goal.returns-clause-noted
returns-clause-noted g c = subst (λ k. IsNoted (g.B.Blocks.terrain c.args.blocks.now) k (raw_of c.loop-lamp.flood) (todo_of c.loop-lamp.buckets)) c.loop-lamp.invariant.chunk c.loop-lamp.invariant.noted

pub returns-clause-ready : goal.returns-clause-ready
returns-clause-ready g c = λ p w. subst (WaitsIfEmitting (g.B.Blocks.terrain c.args.blocks.now) c.args.flood.now.chunk (todo_of c.loop-lamp.buckets)) w.2 (c.loop-lamp.invariant.ready w.0 p (let l = w.1 in let m = c.loop-lamp-test.false in omega arith))
