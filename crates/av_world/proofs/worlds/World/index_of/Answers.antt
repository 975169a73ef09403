use Rattle.std.proofs.Common.{◌≡◌, ◌<◌, ◌≤◌, ℕ, length, slice_get, subst, ap, ◌∙◌, rules, arith}
use Rattle.av_world.specs.Index.{slot}
use Rattle.av_world.specs.Views.{positions_of}
use Rattle.av_world.proofs.ChunkReads.{slot_there, has_chunk_there, has_chunk_past}
use Rattle.av_world.proofs.Search.{slot_most}
use Rattle.av_world.proofs.worlds.World.index_of.Goals as goal

pub returns-then-index-len-clause-found : goal.returns-then-index-len-clause-found
returns-then-index-len-clause-found c =
    let ps = positions_of c.args.self.now in
    let is : c.chunk_slot-index.result ≡ slot ps c.args.at = c.chunk_slot-index.ensures in
    let here : c.chunk_slot-index.result < length ps = search rules in
    ap (slice_get ps) is ∙ slot_there ps c.args.at (subst (λ (j : ℕ). j < length ps) is here)

pub returns-then-index-len-clause-there : goal.returns-then-index-len-clause-there
returns-then-index-len-clause-there c =
    let ps = positions_of c.args.self.now in
    let is : c.chunk_slot-index.result ≡ slot ps c.args.at = c.chunk_slot-index.ensures in
    let here : c.chunk_slot-index.result < length ps = search rules in
    has_chunk_there ps c.args.at (subst (λ (j : ℕ). j < length ps) is here)

pub returns-else-index-len-clause-absent : goal.returns-else-index-len-clause-absent
returns-else-index-len-clause-absent c =
    let ps = positions_of c.args.self.now in
    let is : c.chunk_slot-index.result ≡ slot ps c.args.at = c.chunk_slot-index.ensures in
    let past : length ps ≤ c.chunk_slot-index.result = search rules in
    has_chunk_past ps c.args.at (subst (λ (j : ℕ). length ps ≤ j) is past)

pub returns-else-index-len-clause-free : goal.returns-else-index-len-clause-free
returns-else-index-len-clause-free c =
    let ps = positions_of c.args.self.now in
    let is : c.chunk_slot-index.result ≡ slot ps c.args.at = c.chunk_slot-index.ensures in
    let past : length ps ≤ c.chunk_slot-index.result = search rules in
    let most = slot_most ps c.args.at in
    omega (arith, is, past, most)
