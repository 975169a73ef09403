use Rattle.av_world_tests.proofs.Plain.{plain_added}
use Rattle.av_world_tests.proofs.worlds.wait.Goals as goal

pub returns : goal.returns
returns c =
    let e = c.in_ok-prepare_set.ensures in let f = c.add.ensures in
    plain_added c.args.world.now c.prepare_set.new.self c.add.new.self c.args.entry e.site e.same f.site f.changed c.requires
