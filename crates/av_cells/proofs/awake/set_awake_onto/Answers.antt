use Rattle.std.proofs.Common.{ap, rules, arith, length, ◌≡◌}
use Rattle.av_cells.proofs.Wakes.{HasKinds-set, HasKinds-same, HaveRoom-these}
use Rattle.av_cells.proofs.awake.set_awake_onto.Goals as goal

pub wake_all-requires : goal.wake_all-requires
wake_all-requires g c =
    let same : (g.C.Cells.world c.set.new.self).loaded ≡ (g.C.Cells.world c.args.cells.now).loaded = ap (λ w. w.loaded) c.set.ensures.changed in
    let room = HaveRoom-these (g.C.Cells.world c.args.cells.now) (g.C.Cells.world c.set.new.self) (g.C.Cells.room c.args.cells.now) (g.C.Cells.room c.set.new.self) c.args.pos c.around.result c.around.ensures same c.set.ensures.room c.requires.room in
    let kinds = HasKinds-set _ _ _ _ _ c.set.ensures.changed c.requires.number c.requires.kinds in
    let long : length c.around.result ≡ 7 = ap length c.around.ensures in
    (search rules, (kinds, (room, omega (arith, long, c.requires.capacity))))

pub returns-clause-kinds : goal.returns-clause-kinds
returns-clause-kinds g c = HasKinds-same _ _ _ c.wake_all.ensures.states (HasKinds-set _ _ _ _ _ c.set.ensures.changed c.requires.number c.requires.kinds)
