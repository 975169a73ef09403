use Rattle.std.proofs.Common.{arith, ◌<◌, ◌-◌, ◌∙◌, ⊎_elim, sym, subst}
use Rattle.av_flood.specs.Board.{raw_of, light_of}
use Rattle.av_flood.specs.Blocks.{IsNear}
use Rattle.av_flood.specs.Flooding.{Matters, IsGrown, todo_of}
use Rattle.av_flood.proofs.Boards.{lit_raw, matters_above, apart_most}
use Rattle.av_flood.proofs.Floods.{brought_waits, IsOffered-brought, IsOffered-seen, IsOffered-off, IsOffered-same, HasOffered-none}
use Rattle.av_flood.proofs.Marks.{IsMarked-offered, light_marked}
use Rattle.av_flood.proofs.flood.offer.Goals as goal

pub mark-requires-clause-on_board : goal.mark-requires-clause-on_board
mark-requires-clause-on_board g c = c.byte-seen.ensures.least (omega (arith, c.requires.can.level, c.saturating_sub.ensures, c.if-saturating_sub-seen.false))

pub mark-requires-clause-unsettled : goal.mark-requires-clause-unsettled
mark-requires-clause-unsettled g c =
    let low : c.byte-seen.result < 14 = omega (arith, c.requires.can.level, c.saturating_sub.ensures, c.if-saturating_sub-seen.false) in
    let is = c.byte-seen.ensures.on_board (c.byte-seen.ensures.least low) in
    omega (arith, is, low)

pub mark-requires-clause-far : goal.mark-requires-clause-far
mark-requires-clause-far g c = let most = apart_most c.args.spot.index in omega (arith, most)

pub bring-requires-clause-matters : goal.bring-requires-clause-matters
bring-requires-clause-matters g c =
    let low : c.byte-seen.result < 14 = omega (arith, c.requires.can.level, c.saturating_sub.ensures, c.if-saturating_sub-seen.false) in
    let on_board = c.byte-seen.ensures.least low in
    let far = c.byte-seen.ensures.far in
    λ v less. subst (λ k. Matters k v c.args.spot.pos) (sym c.mark.ensures.chunk) (matters_above c.args.flood.now.chunk c.args.flood.now.height c.args.spot.pos c.args.spot.index v on_board (omega (arith, far, less)))

pub returns-then-saturating_sub-seen-clause-offered : goal.returns-then-saturating_sub-seen-clause-offered
returns-then-saturating_sub-seen-clause-offered g c =
    let f = c.args.flood.now in
    let t = g.B.Blocks.terrain c.args.blocks.now in
    let q = c.args.spot.pos in
    ⊎_elim
    (λ on_board. IsOffered-same t f.chunk c.args.level (λ p. raw_of f p - 128) (light_of f) (todo_of c.args.buckets.now) q (λ p. lit_raw (raw_of f p))
    (IsOffered-seen t f.chunk c.args.level (raw_of f) (todo_of c.args.buckets.now) q c.requires.can.marked
    (λ p s. let e = lit_raw (raw_of f p) in let b = c.requires.can.bright p (let z : 0 < light_of f p = omega (arith, e, s) in z) in omega (arith, e, b))
    (let is = c.byte-seen.ensures.on_board on_board in omega (arith, is, c.saturating_sub.ensures, c.if-saturating_sub-seen.true))))
    (λ e. IsOffered-off t f.chunk f.height c.args.level (light_of f) (todo_of c.args.buckets.now) q
    (λ l. subst (λ h. IsNear h q) (sym c.requires.can.height) (g.met.B.Blocks.near c.args.blocks.now q l)) (omega (arith, c.requires.can.level)) e.off)
    c.requires.spot

pub bring-requires-clause-level : goal.bring-requires-clause-level
bring-requires-clause-level g c = c.requires.can.level

pub bring-requires-clause-comes : goal.bring-requires-clause-comes
bring-requires-clause-comes g c = c.requires.can.comes

pub returns-then-saturating_sub-seen-clause-came : goal.returns-then-saturating_sub-seen-clause-came
returns-then-saturating_sub-seen-clause-came g c = HasOffered-none (g.B.Blocks.terrain c.args.blocks.now) c.args.level c.args.flood.now (todo_of c.args.buckets.now) c.requires.can.marked

pub returns-clause-came : goal.returns-clause-came
returns-clause-came g c =
    let low : c.byte-seen.result < 14 = omega (arith, c.requires.can.level, c.saturating_sub.ensures, c.if-saturating_sub-seen.false) in
    let is = c.byte-seen.ensures.on_board (c.byte-seen.ensures.least low) in
    let f = c.args.flood.now in
    let t = g.B.Blocks.terrain c.args.blocks.now in
    let old = todo_of c.args.buckets.now in
    let new = todo_of c.bring.new.buckets in
    let now = c.in_ok-bring.ensures {u = tt} in
    let grown = subst (λ k. IsGrown t k c.args.level old new) c.mark.ensures.chunk now.grown in
    record {
      same = λ p. lit_raw (raw_of c.mark.new.self p) ∙ light_marked (raw_of f) (raw_of c.mark.new.self) c.args.spot.pos (omega (arith, is, low)) c.mark.ensures.bytes p ∙ sym (lit_raw (raw_of f p));
      marked = IsMarked-offered t f.chunk c.args.level (raw_of f) (raw_of c.mark.new.self) old new c.args.spot.pos c.mark.ensures.bytes now.grown.kept
          (brought_waits t f.chunk c.args.level c.byte-seen.result (raw_of f) old new c.args.spot.pos c.requires.can.marked (sym is) (omega (arith, low)) now.grown.kept now.brought) c.requires.can.marked;
      grown = grown;
      others = now.others;
    }

pub returns-clause-offered : goal.returns-clause-offered
returns-clause-offered g c =
    let low : c.byte-seen.result < 14 = omega (arith, c.requires.can.level, c.saturating_sub.ensures, c.if-saturating_sub-seen.false) in
    let is = c.byte-seen.ensures.on_board (c.byte-seen.ensures.least low) in
    let f = c.args.flood.now in
    let t = g.B.Blocks.terrain c.args.blocks.now in
    let old = todo_of c.args.buckets.now in
    let new = todo_of c.bring.new.buckets in
    let now = c.in_ok-bring.ensures {u = tt} in
    IsOffered-brought t f.chunk c.args.level (light_of f) new c.args.spot.pos
    (brought_waits t f.chunk c.args.level c.byte-seen.result (raw_of f) old new c.args.spot.pos c.requires.can.marked (sym is) (omega (arith, low)) now.grown.kept now.brought)
