use Rattle.std.proofs.Common.{arith, ◌+◌, ◌<◌}
use Rattle.std.proofs.lemmas.List.Elements.{All-set}
use Rattle.av_flood.proofs.Boards.{light_set, raw_at, apart_most}
use Rattle.av_flood.proofs.Quiet.{IsQuiet-set, IsFenced-set, count_high_set}
use Rattle.av_flood.proofs.board.Flood.settle_at.Goals as goal

pub invariant_of-self-clause-quiet : goal.invariant_of-self-clause-quiet
invariant_of-self-clause-quiet c =
    let f = c.args.self.now in
    IsQuiet-set f.touched.items f.light.items c.args.spot.index (128 + c.args.level) (omega (arith, c.requires.on_board.is)) (omega (arith, f.layers, f.touched.ok.0, c.requires.on_board.is, c.requires.on_board.less)) f.quiet

pub invariant_of-self-clause-fenced : goal.invariant_of-self-clause-fenced
invariant_of-self-clause-fenced c =
    let f = c.args.self.now in
    IsFenced-set _ f.light.items c.args.spot.index (128 + c.args.level) (omega (arith, c.requires.on_board.is)) c.requires.on_board.less (omega (arith, f.long, f.light.ok.0, c.requires.on_board.less)) (let most = apart_most c.args.spot.index in omega (arith, most)) f.fenced

pub invariant_of-self-clause-counted : goal.invariant_of-self-clause-counted
invariant_of-self-clause-counted c =
    let f = c.args.self.now in
    let was = raw_at f.chunk f.height c.args.spot.pos f.light.items c.args.spot.index c.requires.on_board in
    let now = count_high_set f.light.items c.args.spot.index (128 + c.args.level) (omega (arith, f.long, f.light.ok.0, c.requires.on_board.less)) (omega (arith, was, c.requires.unsettled)) (omega arith) in
    omega (arith, now, f.counted)

pub invariant_of-self-clause-dim : goal.invariant_of-self-clause-dim
invariant_of-self-clause-dim c = All-set (λ n. n < 144) c.args.self.now.light.items c.args.spot.index (128 + c.args.level) (omega arith) c.args.self.now.dim

pub returns-clause-bytes : goal.returns-clause-bytes
returns-clause-bytes c =
    let f = c.args.self.now in
    light_set f.chunk f.height c.args.spot.pos f.light.items (128 + c.args.level) c.args.spot.index c.requires.on_board (omega (arith, f.long, f.light.ok.0, c.requires.on_board.less))
