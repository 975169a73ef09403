use Rattle.std.proofs.Common.{arith, ◌<◌, ◌∙◌, ⊎_elim, length}
use Rattle.std.proofs.lemmas.List.{get_or_read}
use Rattle.av_flood.proofs.Boards.{raw_at}
use Rattle.av_flood.proofs.Quiet.{no_end}
use Rattle.av_flood.proofs.board.Flood.byte.Goals as goal

pub index-requires : goal.index-requires
index-requires c =
    let f = c.args.self.now in
    ⊎_elim (λ p. omega (arith, p.less, f.long)) (λ e. omega (arith, e.less, f.long)) c.requires

pub returns-clause-on_board : goal.returns-clause-on_board
returns-clause-on_board c =
    let f = c.args.self.now in
    λ on_board. get_or_read f.light.items _ _ (omega (arith, on_board.less, f.long, f.light.ok.0)) c.index.ensures 0 ∙ raw_at f.chunk f.height c.args.spot.pos f.light.items c.args.spot.index on_board

pub returns-clause-far : goal.returns-clause-far
returns-clause-far c =
    let f = c.args.self.now in
    let within : c.args.spot.index < length f.light.items = ⊎_elim (λ p. omega (arith, p.less, f.long, f.light.ok.0)) (λ e. omega (arith, e.less, f.long, f.light.ok.0)) c.requires in
    let is = get_or_read f.light.items _ _ within c.index.ensures 64 in
    omega (arith, is, f.fenced.far c.args.spot.index)

pub returns-clause-least : goal.returns-clause-least
returns-clause-least c =
    let f = c.args.self.now in
    let within : c.args.spot.index < length f.light.items = ⊎_elim (λ p. omega (arith, p.less, f.long, f.light.ok.0)) (λ e. omega (arith, e.less, f.long, f.light.ok.0)) c.requires in
    let is = get_or_read f.light.items _ _ within c.index.ensures 64 in
    λ less. ⊎_elim (λ p. p) (λ e. absurd (no_end f.chunk f.height c.args.spot.pos c.args.spot.index f.light.items f.fenced e (omega (arith, is, less)))) c.requires
