use Rattle.std.proofs.Common.{◌≡◌, length, All}
use Rattle.av_chunk.specs.Light.{section_count}
use Rattle.av_world.specs.Views.{height_of}
use Rattle.av_image_tests.proofs.saves.dark.Given as goal

abbrev pub invariant-loop : goal.invariant-loop
invariant-loop l = record {
  each : length l.lights.items ≡ l.index;
  whole : All (λ x. section_count x ≡ (height_of l.world).sections) l.lights.items;
}
