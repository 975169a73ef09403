use Rattle.std.proofs.Common.{arith, refl, below_more, ◌∙◌, ap, sym, subst}
use Rattle.std.specs.Prelude.{Contains}
use Rattle.av_flood.specs.Board.{raw_of}
use Rattle.av_flood.specs.Blocks.{column_at, MayBeLoaded}
use Rattle.av_flood.specs.Flooding.{IsGrown, IsNoted, WaitsIfEmitting, todo_of}
use Rattle.av_flood.proofs.Boards.{at_column}
use Rattle.av_flood.proofs.Floods.{IsStarted-all, IsGrown-none, IsGrown-trans, WaitsIfEmitting-grown, WaitsIfEmitting-known}
use Rattle.av_flood.proofs.Marks.{IsNoted-fresh}
use Rattle.av_flood.proofs.emit.start.Goals as goal

pub loop-number-init : goal.loop-number-init
loop-number-init g c =
    record {
      chunk = refl;
      height = refl;
      dark = λ p. (c.requires.fresh p).0;
      noted = IsNoted-fresh _ _ _ _ c.requires.fresh;
      grown = IsGrown-none _ _ _ _;
      ready = λ k l. absurd (omega arith);
    }

pub column_at-requires-clause-near : goal.column_at-requires-clause-near
column_at-requires-clause-near g c = subst MayBeLoaded (sym c.loop-number.invariant.chunk) c.requires.near

pub loop-number-preserved : goal.loop-number-preserved
loop-number-preserved g c =
    let now = c.in_ok-emit_all.ensures {u = tt} in
    let inv = c.loop-number.invariant in
    let t = g.B.Blocks.terrain c.args.blocks.now in
    let grown = subst (λ k. IsGrown t k 16 (todo_of c.loop-number.buckets) (todo_of c.emit_all.new.buckets)) inv.chunk now.grown in
    record {
      chunk = now.chunk ∙ inv.chunk;
      height = now.height ∙ inv.height;
      dark = now.dark;
      noted = subst (λ k. IsNoted t k (raw_of c.emit_all.new.flood) (todo_of c.emit_all.new.buckets)) (sym now.chunk) now.noted;
      grown = IsGrown-trans _ _ _ _ _ _ inv.grown grown;
      ready = below_more _ _ (λ k l p e. WaitsIfEmitting-grown _ _ _ _ _ _ grown (inv.ready k l p e))
          (λ p w. subst (λ k. WaitsIfEmitting t k (todo_of c.emit_all.new.buckets) p) inv.chunk
          (now.ready p (subst (λ xs. Contains xs p) (sym (c.lamps-lamps.ensures ∙ ap (g.B.Blocks.lamps c.args.blocks.now) (c.column_at.ensures ∙ ap (λ k. column_at k c.loop-number.number) inv.chunk))) w)));
    }

pub returns-clause-noted : goal.returns-clause-noted
returns-clause-noted g c = subst (λ k. IsNoted (g.B.Blocks.terrain c.args.blocks.now) k (raw_of c.loop-number.flood) (todo_of c.loop-number.buckets)) c.loop-number.invariant.chunk c.loop-number.invariant.noted

pub returns-clause-started : goal.returns-clause-started
returns-clause-started g c =
    let t = g.B.Blocks.terrain c.args.blocks.now in
    let chunk = c.args.flood.now.chunk in
    let nine = c.loop-number-test.false in
    IsStarted-all _ _ _ _ c.requires.none c.loop-number.invariant.grown
    (λ p l m. at_column chunk (t.emission p) (WaitsIfEmitting t chunk (todo_of c.loop-number.buckets)) p (g.met.B.Blocks.dim c.args.blocks.now p) m
    (λ k less e. WaitsIfEmitting-known _ _ _ _ (λ shines. c.loop-number.invariant.ready k (omega arith) p (c.requires.known.known k less p e l shines))))
