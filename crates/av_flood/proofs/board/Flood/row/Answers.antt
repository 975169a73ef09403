use Rattle.std.proofs.Common.{◌≡◌, ◌<◌, ◌+◌, ◌-◌, ◌*◌, ℕ, List, All, get_or, refl, sym, subst}
use Rattle.av_flood.specs.Board.{light_at}
use Rattle.av_flood.proofs.Halves.{own_row, row_dim}
use Rattle.av_flood.proofs.board.Flood.row.Goals as goal

pub returns-clause-light : goal.returns-clause-light
returns-clause-light c =
    subst (λ (xs : List ℕ). (x : ℕ) → x < 16 → get_or xs x 0 - 128 ≡ light_at c.args.self.now (256 * c.args.y + 16 * c.args.z + x)) (sym c.sixteen.ensures.value)
    (λ x less. own_row c.args.self.now.chunk c.args.self.now.height c.args.self.now.light.items c.args.y c.args.z c.requires.y c.requires.z (44 * (44 * (c.args.y + 1) + c.args.z + 14) + 14) refl x less)

pub returns-clause-dim : goal.returns-clause-dim
returns-clause-dim c = subst (λ (xs : List ℕ). All (λ n. n < 144) xs) (sym c.sixteen.ensures.value) (row_dim c.args.self.now.light.items _ _ c.args.self.now.dim)
