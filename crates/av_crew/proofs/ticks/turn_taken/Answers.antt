use Rattle.av_world.specs.Views.{blocks}
use Rattle.av_crew.proofs.DueParts.{all_loaded}
use Rattle.av_crew.proofs.ticks.turn_taken.Goals as goal

pub plan-requires : goal.plan-requires
plan-requires g c = record { loaded = all_loaded (blocks c.args.world.now).loaded c.args.entries.now c.requires.loaded }
