use Rattle.std.proofs.Common.{arith, ◌≡◌, ◌<◌, ◌≤◌, ◌-◌, ◌∙◌, inl, subst, sym}
use Rattle.av_types.specs.declared.position.Pos.{Pos}
use Rattle.av_flood.specs.Board.{light_of, raw_of, IsOnBoard}
use Rattle.av_flood.specs.Blocks.{IsNear, IsFarFromEnds}
use Rattle.av_flood.specs.Light.{IsAdjacent, HasLight}
use Rattle.av_flood.specs.Flooding.{IsFlooding, IsGrown, IsMarked, IsOffered, IsPopped, todo_of}
use Rattle.av_flood.proofs.Boards.{on_board, inner_near, lit_raw, settled_light}
use Rattle.av_flood.proofs.Floods.{IsFlooding-passed, IsFlooding-settled, next_sound, none_left, IsFlooding-lit, bright_settled}
use Rattle.av_flood.proofs.Marks.{IsMarked-passed, IsMarked-same, IsMarked-settled, IsMarked-lower}
use Rattle.av_flood.proofs.flood.settle_level.Goals as goal

pub spot-spot-requires : goal.spot-spot-requires
spot-spot-requires g c =
    let sound = next_sound _ _ _ _ _ _ _ (c.in-Some.ensures {u = tt}) c.loop-pos.invariant.flooding in
    let near = g.met.B.Blocks.near c.args.blocks.now c.in-Some.pos sound.loaded in
    on_board _ _ _ _ (let h = c.requires.high in let l : c.args.level ≤ 15 = omega arith in l) sound.matters
    (subst (λ h. IsNear h c.in-Some.pos) (sym (c.loop-pos.invariant.height ∙ c.requires.height)) near)

pub byte-requires : goal.byte-requires
byte-requires g c = inl (subst (λ p. IsOnBoard c.loop-pos.flood.chunk c.loop-pos.flood.height p c.spot-spot.result.index) (sym c.spot-spot.ensures.pos) c.spot-spot.ensures.on_board)

pub settle_at-requires-clause-on_board : goal.settle_at-requires-clause-on_board
settle_at-requires-clause-on_board g c = subst (λ p. IsOnBoard c.loop-pos.flood.chunk c.loop-pos.flood.height p c.spot-spot.result.index) (sym c.spot-spot.ensures.pos) c.spot-spot.ensures.on_board

pub settle_at-requires-clause-unsettled : goal.settle_at-requires-clause-unsettled
settle_at-requires-clause-unsettled g c =
    let on_board = subst (λ p. IsOnBoard c.loop-pos.flood.chunk c.loop-pos.flood.height p c.spot-spot.result.index) (sym c.spot-spot.ensures.pos) c.spot-spot.ensures.on_board in
    let is = c.byte.ensures.on_board on_board in
    omega (arith, is, c.if-byte-lt128.true)

pub spread-requires-clause-inner : goal.spread-requires-clause-inner
spread-requires-clause-inner g c =
    let sound = next_sound _ _ _ _ _ _ _ (c.in-Some.ensures {u = tt}) c.loop-pos.invariant.flooding in
    subst IsFarFromEnds (sym c.spot-spot.ensures.pos) (inner_near _ _ (g.met.B.Blocks.near c.args.blocks.now c.in-Some.pos sound.loaded))

pub spread-requires-clause-on_board : goal.spread-requires-clause-on_board
spread-requires-clause-on_board g c =
    let on_board = subst (λ p. IsOnBoard c.loop-pos.flood.chunk c.loop-pos.flood.height p c.spot-spot.result.index) (sym c.spot-spot.ensures.pos) c.spot-spot.ensures.on_board in
    subst (λ k. IsOnBoard k c.settle_at.new.self.height c.spot-spot.result.pos c.spot-spot.result.index) (sym c.settle_at.ensures.chunk)
    (subst (λ h. IsOnBoard c.loop-pos.flood.chunk h c.spot-spot.result.pos c.spot-spot.result.index) (sym c.settle_at.ensures.height) on_board)

pub spread-requires-clause-can : goal.spread-requires-clause-can
spread-requires-clause-can g c =
    let t = g.B.Blocks.terrain c.args.blocks.now in
    let f = c.loop-pos.flood in
    let inv = c.loop-pos.invariant in
    let p = c.spot-spot.result.pos in
    let sound = next_sound _ _ _ _ _ _ _ (c.in-Some.ensures {u = tt}) inv.flooding in
    let popped = subst (IsPopped (todo_of c.loop-pos.buckets) (todo_of c.pop.new.self) c.args.level) (sym c.spot-spot.ensures.pos) (c.in-Some.ensures {u = tt}) in
    record {
      level = c.requires.high;
      height = c.settle_at.ensures.height ∙ inv.height ∙ c.requires.height;
      comes = subst (λ q. HasLight t q c.args.level) (sym c.spot-spot.ensures.pos) sound.comes;
      bright = bright_settled (light_of f) (light_of c.settle_at.new.self) p c.args.level
          (settled_light (raw_of f) (raw_of c.settle_at.new.self) p c.args.level c.settle_at.ensures.bytes) inv.flooding.bright;
      marked = subst (λ k. IsMarked t k c.args.level (raw_of c.settle_at.new.self) (todo_of c.pop.new.self)) (sym c.settle_at.ensures.chunk)
          (IsMarked-settled t f.chunk c.args.level (raw_of f) (raw_of c.settle_at.new.self) _ _ p c.requires.low popped c.settle_at.ensures.bytes inv.marked);
    }

pub loop-pos-preserved-in-Continue-1 : goal.loop-pos-preserved-in-Continue-1
loop-pos-preserved-in-Continue-1 g c =
    let spread = c.in_ok-spread.ensures {u = tt} in
    let inv = c.loop-pos.invariant in
    let t = g.B.Blocks.terrain c.args.blocks.now in
    let f = c.loop-pos.flood in
    let p = c.spot-spot.result.pos in
    let on_board = subst (λ q. IsOnBoard f.chunk f.height q c.spot-spot.result.index) (sym c.spot-spot.ensures.pos) c.spot-spot.ensures.on_board in
    let is = c.byte.ensures.on_board on_board in
    let dark : light_of f p ≡ 0 = lit_raw (raw_of f p) ∙ omega (arith, is, c.if-byte-lt128.true) in
    let popped = subst (IsPopped (todo_of c.loop-pos.buckets) (todo_of c.pop.new.self) c.args.level) (sym c.spot-spot.ensures.pos) (c.in-Some.ensures {u = tt}) in
    let chunk = c.settle_at.ensures.chunk in
    let grown = subst (λ k. IsGrown t k c.args.level (todo_of c.pop.new.self) (todo_of c.spread.new.buckets)) chunk spread.came.grown in
    let offered = λ (q : Pos) (a : IsAdjacent p q). subst (λ k. IsOffered t k c.args.level (light_of c.settle_at.new.self) (todo_of c.spread.new.buckets) q) chunk (spread.offered q a) in
    record {
      chunk = spread.chunk ∙ chunk ∙ inv.chunk;
      height = spread.height ∙ c.settle_at.ensures.height ∙ inv.height;
      marked = subst (λ k. IsMarked t k c.args.level (raw_of c.spread.new.flood) (todo_of c.spread.new.buckets)) (sym spread.chunk) spread.came.marked;
      flooding = subst (λ k. IsFlooding t k c.args.level (light_of c.spread.new.flood) (todo_of c.spread.new.buckets)) (sym (spread.chunk ∙ chunk))
          (IsFlooding-lit _ _ _ (light_of c.settle_at.new.self) (light_of c.spread.new.flood) _ spread.came.same
          (IsFlooding-settled _ _ _ (light_of f) (light_of c.settle_at.new.self) _ _ _ _ c.requires.low popped dark grown offered
          (settled_light (raw_of f) (raw_of c.settle_at.new.self) p c.args.level c.settle_at.ensures.bytes) inv.flooding));
    }

pub loop-pos-preserved : goal.loop-pos-preserved
loop-pos-preserved g c =
    let inv = c.loop-pos.invariant in
    let f = c.loop-pos.flood in
    let p = c.spot-spot.result.pos in
    let on_board = subst (λ q. IsOnBoard f.chunk f.height q c.spot-spot.result.index) (sym c.spot-spot.ensures.pos) c.spot-spot.ensures.on_board in
    let is = c.byte.ensures.on_board on_board in
    let popped = subst (IsPopped (todo_of c.loop-pos.buckets) (todo_of c.pop.new.self) c.args.level) (sym c.spot-spot.ensures.pos) (c.in-Some.ensures {u = tt}) in
    let high = inv.marked.settled p (omega (arith, is, c.if-byte-lt128.false)) in
    let same = lit_raw (raw_of f p) in
    let shines : 0 < light_of f p = omega (arith, same, high) in
    record {
      chunk = inv.chunk;
      height = inv.height;
      marked = IsMarked-passed _ _ _ _ _ _ p popped (omega (arith, is, c.if-byte-lt128.false)) inv.marked;
      flooding = IsFlooding-passed _ _ _ _ _ _ p popped shines inv.flooding;
    }

pub returns-clause-flooding : goal.returns-clause-flooding
returns-clause-flooding g c = none_left _ _ _ _ _ _ c.requires.low c.in_default.ensures c.loop-pos.invariant.flooding

pub returns-clause-marked : goal.returns-clause-marked
returns-clause-marked g c = IsMarked-lower _ _ c.args.level (c.args.level - 1) _ _ (omega arith) (IsMarked-same _ _ _ _ _ _ (c.in_default.ensures {u = tt}).same c.loop-pos.invariant.marked)
