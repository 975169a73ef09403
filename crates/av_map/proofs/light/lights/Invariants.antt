use Rattle.std.proofs.Common.{◌≡◌, ◌<◌, ℕ, pos, ◌+ℤ◌, length, get_or, None}
use Rattle.av_tags.specs.View.{document}
use Rattle.av_document.specs.Chunk.{root_tags}
use Rattle.av_map.specs.Arrays.{arrays_of}
use Rattle.av_map.specs.Light.{light_array}
use Rattle.av_map.proofs.light.lights.Given as goal

abbrev pub invariant-loop-index : goal.invariant-loop-index
invariant-loop-index l = record {
  count : length (arrays_of l.lights.items) ≡ l.index;
  each : (i : ℕ) → i < l.index → get_or (arrays_of l.lights.items) i None ≡ light_array (root_tags (document l.root)) (l.height.min_section +ℤ pos i);
}
