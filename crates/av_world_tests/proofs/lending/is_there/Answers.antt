use Rattle.std.proofs.Common.{ℕ, ◌<◌, length, sym, subst}
use Rattle.std.proofs.lemmas.Option.{slice_get_within}
use Rattle.av_world.specs.Views.{positions_of}
use Rattle.av_world.proofs.ChunkReads.{slot_of_index}
use Rattle.av_world_tests.proofs.lending.is_there.Goals as goal

pub returns-in-Some : goal.returns-in-Some
returns-in-Some c told =
    let w = c.args.world.now in
    let i = c.in-Some.field-0 in
    let found = c.in-Some.ensures.found in
    let below = slice_get_within (positions_of w) i c.args.at found in
    subst (λ (n : ℕ). n < length (positions_of w)) (sym (slot_of_index (positions_of w) c.args.at i w.lawful.rising below found)) below
