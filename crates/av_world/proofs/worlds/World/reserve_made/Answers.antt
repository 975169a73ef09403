use Rattle.std.proofs.Common.{◌≡◌, ◌<◌, ◌≤◌, ℕ, List, length, get_or, subst, arith}
use Rattle.std.proofs.lemmas.Result.{on_ok_weaker}
use Rattle.av_types.specs.Positions.{chunk_of}
use Rattle.av_types.specs.declared.position.ChunkPos.{ChunkPos}
use Rattle.av_world.specs.Index.{slot}
use Rattle.av_world.specs.Near.{slot_at}
use Rattle.av_world.specs.Appended.{entries_made}
use Rattle.av_world.specs.Appending.{count_at}
use Rattle.av_world.specs.Views.{room, positions_of}
use Rattle.av_world.proofs.Appends.{count_in_at}
use Rattle.av_world.proofs.Steps.{IsWorldKept-refl, chunk_there, loaded_before}
use Rattle.av_world.proofs.worlds.World.reserve_made.Goals as goal

pub returns-clause-room : goal.returns-clause-room
returns-clause-room c =
    let w = c.args.self.now in let ps = positions_of w in let new = c.reserve_counts.new.self in let es = entries_made c.args.made.now in let counts = c.in_ok-counts.counts.items in
    on_ok_weaker {P = (k : ℕ) (d : ChunkPos) → k < length c.as_slice.result.now → get_or c.as_slice.result.now k 0 ≤ room new (get_or ps k d)} c.reserve_counts.result (λ h p t.
    let there : slot ps (chunk_of p) < length ps = chunk_there w w p (IsWorldKept-refl w) (loaded_before w new p c.reserve_counts.ensures.kept t) in
    let all = subst (λ (xs : List ℕ). (k : ℕ) (d : ChunkPos) → k < length xs → get_or xs k 0 ≤ room new (get_or ps k d)) c.as_slice.ensures.value h in
    let has = all (slot ps (chunk_of p)) (chunk_of p) (omega (arith, there, c.in_ok-counts.ensures.count)) in
    let own : get_or counts (slot ps (chunk_of p)) 0 ≤ room new (chunk_of p) = subst (λ (d : ChunkPos). get_or counts (slot ps (chunk_of p)) 0 ≤ room new d) (slot_at ps (chunk_of p) (chunk_of p) there) has in
    let each : get_or counts (slot ps (chunk_of p)) 0 ≡ count_at ps (slot ps (chunk_of p)) es = c.in_ok-counts.ensures.each (slot ps (chunk_of p)) there in
    let most = count_in_at ps (chunk_of p) es in
    omega (arith, own, each, most)) c.reserve_counts.ensures.room
