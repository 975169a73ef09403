-- A world of air, water and stone is ready for each table of kinds that has these.
use Rattle.std.proofs.Common.{ℕ, ◌≤◌, refl}
use Rattle.av_world.specs.Views.{blocks}
use Rattle.av_world.specs.declared.worlds.World.{World}
use Rattle.av_world_tests.specs.Flat.{IsPlain}
use Rattle.av_world_tests.proofs.Plain.{kinds_more}
use Rattle.av_serial.specs.Ready.{IsReady}

pub plain_is_ready : (n : ℕ) (w : World) → 11 ≤ n → IsPlain w → IsReady n w
plain_is_ready n w l p = record { whole = p.whole; numbers = kinds_more 11 n (blocks w) (blocks w) refl l p.numbers }
