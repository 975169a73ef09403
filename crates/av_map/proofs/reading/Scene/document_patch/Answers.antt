use Rattle.std.proofs.Common.{List, Option, Vec, Global, ℕ, sym, subst}
use Rattle.av_tags.specs.View.{document}
use Rattle.av_document.specs.Chunk.{root_tags}
use Rattle.av_map.specs.Arrays.{arrays_of}
use Rattle.av_map.specs.Sections.{AreLightsFor}
use Rattle.av_map.proofs.reading.Scene.document_patch.Goals as goal

pub lit_patch-requires-clause-lights : goal.lit_patch-requires-clause-lights
lit_patch-requires-clause-lights c =
    let s = c.args.self.now in
    subst (λ (xs : List (Option (Vec ℕ Global))). AreLightsFor s.view (root_tags (document c.args.root)) s.height (arrays_of xs)) (sym c.as_slice.ensures.value) c.in_ok-lights.ensures
