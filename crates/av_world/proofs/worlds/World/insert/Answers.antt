use Rattle.std.proofs.Common.{◌≡◌, List, insert, subst, sym, ap, ◌∙◌}
use Rattle.av_types.specs.declared.position.ChunkPos.{ChunkPos}
use Rattle.av_chunk.specs.declared.chunk.Chunk.{Chunk}
use Rattle.av_world.specs.Inserted.{BelongsAt}
use Rattle.av_world.specs.Lawful.{IsWorld}
use Rattle.av_world.specs.Sections.{grid_of, lists_of}
use Rattle.av_world.proofs.Inserting.{grid_inserted, lists_inserted, lawful_inserted}
use Rattle.av_world.proofs.Filled.{whole_inserted}
use Rattle.av_world.proofs.worlds.World.insert.Goals as goal

pub invariant_of-self-2 : goal.invariant_of-self-2
invariant_of-self-2 c =
    let w = c.args.self.now in let h = w.height in let ps = w.positions.items in let cs = w.chunks.items in let i = c.insertion_index-index.result in let at = c.args.at in let x = c.args.chunk in
    let is : BelongsAt ps at i = subst (λ (qs : List ChunkPos). BelongsAt qs at i) c.as_slice.ensures.value c.insertion_index-index.ensures in
    let ps_is : c.insert_at.new.items.items ≡ insert ps i at = c.insert_at.ensures ∙ ap (λ (qs : List ChunkPos). insert qs i at) c.reserve.ensures.items in
    let cs_is : c.insert_at-2.new.items.items ≡ insert cs i x = c.insert_at-2.ensures ∙ ap (λ (ds : List Chunk). insert ds i x) c.reserve-2.ensures.items in
    record {
      lawful = subst (λ (qs : List ChunkPos). IsWorld h qs c.insert_at-2.new.items.items) (sym ps_is)
          (subst (λ (ds : List Chunk). IsWorld h (insert ps i at) ds) (sym cs_is) (lawful_inserted h ps cs i at x w.lawful is c.requires.absent c.requires.limits c.requires.fits));
    }

pub returns-clause-grid : goal.returns-clause-grid
returns-clause-grid c =
    let w = c.args.self.now in let h = w.height in let ps = w.positions.items in let cs = w.chunks.items in let i = c.insertion_index-index.result in let at = c.args.at in let x = c.args.chunk in
    let is : BelongsAt ps at i = subst (λ (qs : List ChunkPos). BelongsAt qs at i) c.as_slice.ensures.value c.insertion_index-index.ensures in
    let ps_is : c.insert_at.new.items.items ≡ insert ps i at = c.insert_at.ensures ∙ ap (λ (qs : List ChunkPos). insert qs i at) c.reserve.ensures.items in
    let cs_is : c.insert_at-2.new.items.items ≡ insert cs i x = c.insert_at-2.ensures ∙ ap (λ (ds : List Chunk). insert ds i x) c.reserve-2.ensures.items in
    ap (λ (qs : List ChunkPos). grid_of h qs c.insert_at-2.new.items.items) ps_is ∙ (ap (λ (ds : List Chunk). grid_of h (insert ps i at) ds) cs_is ∙ grid_inserted h ps cs i at x w.lawful is c.requires.absent c.requires.limits c.requires.fits)

pub returns-clause-lists : goal.returns-clause-lists
returns-clause-lists c =
    let w = c.args.self.now in let h = w.height in let ps = w.positions.items in let cs = w.chunks.items in let i = c.insertion_index-index.result in let at = c.args.at in let x = c.args.chunk in
    let is : BelongsAt ps at i = subst (λ (qs : List ChunkPos). BelongsAt qs at i) c.as_slice.ensures.value c.insertion_index-index.ensures in
    let ps_is : c.insert_at.new.items.items ≡ insert ps i at = c.insert_at.ensures ∙ ap (λ (qs : List ChunkPos). insert qs i at) c.reserve.ensures.items in
    let cs_is : c.insert_at-2.new.items.items ≡ insert cs i x = c.insert_at-2.ensures ∙ ap (λ (ds : List Chunk). insert ds i x) c.reserve-2.ensures.items in
    ap (λ (qs : List ChunkPos). lists_of qs c.insert_at-2.new.items.items) ps_is ∙ (ap (λ (ds : List Chunk). lists_of (insert ps i at) ds) cs_is ∙ lists_inserted h ps cs i at x w.lawful is c.requires.absent c.requires.limits c.requires.fits)

pub returns-clause-positions : goal.returns-clause-positions
returns-clause-positions c =
    let w = c.args.self.now in let ps = w.positions.items in let i = c.insertion_index-index.result in let at = c.args.at in
    let is : BelongsAt ps at i = subst (λ (qs : List ChunkPos). BelongsAt qs at i) c.as_slice.ensures.value c.insertion_index-index.ensures in
    record { index = i; belongs = is; is = c.insert_at.ensures ∙ ap (λ (qs : List ChunkPos). insert qs i at) c.reserve.ensures.items }

pub returns-clause-whole : goal.returns-clause-whole
returns-clause-whole c =
    let w = c.args.self.now in let h = w.height in let ps = w.positions.items in let cs = w.chunks.items in let i = c.insertion_index-index.result in let at = c.args.at in let x = c.args.chunk in
    let is : BelongsAt ps at i = subst (λ (qs : List ChunkPos). BelongsAt qs at i) c.as_slice.ensures.value c.insertion_index-index.ensures in
    let ps_is : c.insert_at.new.items.items ≡ insert ps i at = c.insert_at.ensures ∙ ap (λ (qs : List ChunkPos). insert qs i at) c.reserve.ensures.items in
    let cs_is : c.insert_at-2.new.items.items ≡ insert cs i x = c.insert_at-2.ensures ∙ ap (λ (ds : List Chunk). insert ds i x) c.reserve-2.ensures.items in
    λ whole full. whole_inserted h ps c.insert_at.new.items.items (grid_of h ps cs) (grid_of h c.insert_at.new.items.items c.insert_at-2.new.items.items) at x
    (ap (λ (qs : List ChunkPos). grid_of h qs c.insert_at-2.new.items.items) ps_is ∙ (ap (λ (ds : List Chunk). grid_of h (insert ps i at) ds) cs_is ∙ grid_inserted h ps cs i at x w.lawful is c.requires.absent c.requires.limits c.requires.fits))
    (record { index = i; belongs = is; is = ps_is }) c.requires.fits.whole whole full
