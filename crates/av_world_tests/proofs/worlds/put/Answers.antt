use Rattle.av_world_tests.proofs.Plain.{plain_set}
use Rattle.av_world_tests.proofs.worlds.put.Goals as goal

pub returns : goal.returns
returns c =
    let e = c.in_ok-prepare_set.ensures in let f = c.set.ensures in
    plain_set c.args.world.now c.prepare_set.new.self c.set.new.self c.args.pos c.args.number e.site e.same f.site f.changed c.requires.number c.requires.plain
