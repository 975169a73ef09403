use Rattle.std.proofs.Common.{[], sym}
use Rattle.std.proofs.lemmas.List.{append-nil}
use Rattle.av_tags.specs.View.{document}
use Rattle.av_state.specs.Table.{states}
use Rattle.av_chunk.specs.Reading.{IsLoaded}
use Rattle.av_rewrite.specs.Rewriting.{at_index}
use Rattle.av_rewrite.proofs.rewriting.read_payload.Goals as goal

pub returns-in-Full-clause-slot : goal.returns-in-Full-clause-slot
returns-in-Full-clause-slot c =
    let loaded : IsLoaded (at_index c.args.index) c.args.height (document c.in_ok-root.root) (states c.args.table.now) (states c.read_chunk.new.table) c.in-Full.chunk c.in-Full.rest =
    rw (c.in-Full.is, c.chunk_at.ensures) at c.in_ok-read_chunk.ensures.ok in
    λ region held. record {
      payload = c.args.payload.now;
      held = held;
      document = document c.in_ok-root.root;
      spelled = c.in_ok-root.ensures.spelled;
      old = states c.args.table.now;
      new = states c.read_chunk.new.table;
      loaded = loaded;
      grown = record { more = []; grown = sym (append-nil (states c.read_chunk.new.table)) };
    }
