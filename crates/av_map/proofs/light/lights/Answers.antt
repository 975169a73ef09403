use Rattle.std.proofs.lemmas.Int.{to_z_pos}
use Rattle.std.proofs.Common.{rules, arith, to_z, of_z, to_z-of_z, w32, FitsSigned, ◌≡◌, ◌∙◌, ◌∷◌, [], ◌+◌, ◌<◌, pos, ◌+ℤ◌, Option, None, List, ℕ, length, get_or, ap, sym, subst}
use Rattle.std.proofs.lemmas.List.{map-append, length_push}
use Rattle.av_tags.specs.View.{document, named_views}
use Rattle.av_document.specs.Chunk.{root_tags}
use Rattle.av_map.specs.Arrays.{arrays_of, bytes_in}
use Rattle.av_map.specs.Light.{light_array, sections_in}
use Rattle.av_map.proofs.Each.{each_push}
use Rattle.av_map.proofs.Lit.{light_from}
use Rattle.av_map.proofs.light.lights.Goals as goal

pub loop-index-preserved : goal.loop-index-preserved
loop-index-preserved c =
    let root = root_tags (document c.args.root.now) in
    let min = c.args.height.min_section in
    let fits : FitsSigned w32 min = search rules in
    let last : c.loop-index.index < c.args.height.sections = search rules in
    let most = c.args.height.bounded in
    let small : to_z w32 c.loop-index.index ≡ pos c.loop-index.index = to_z_pos w32 c.loop-index.index (omega (arith, last, most)) in
    let sum_fits : FitsSigned w32 (min +ℤ pos c.loop-index.index) = search rules in
    let sum : to_z w32 (of_z w32 min) +ℤ to_z w32 c.loop-index.index ≡ min +ℤ pos c.loop-index.index = ap (λ z. z +ℤ to_z w32 c.loop-index.index) (to_z-of_z fits) ∙ ap (λ z. min +ℤ z) small in
    let number : to_z w32 (of_z w32 (to_z w32 (of_z w32 min) +ℤ to_z w32 c.loop-index.index)) ≡ min +ℤ pos c.loop-index.index = ap (λ z. to_z w32 (of_z w32 z)) sum ∙ to_z-of_z sum_fits in
    let old = arrays_of c.loop-index.lights.items in
    let copy = c.in_ok-copied.field-0 in
    let is = ap arrays_of c.in_ok-push.ensures.items ∙ map-append bytes_in c.loop-index.lights.items (copy ∷ []) in
    record {
      count = ap length is ∙ length_push old (bytes_in copy) ∙ ap (λ k. k + 1) c.loop-index.invariant.count;
      each = subst (λ (l : List (Option (List ℕ))). (i : ℕ) → i < c.loop-index.index + 1 → get_or l i None ≡ light_array root (min +ℤ pos i)) (sym is)
          (each_push None (λ i o. o ≡ light_array root (min +ℤ pos i)) old (bytes_in copy) c.loop-index.index c.loop-index.invariant.count c.loop-index.invariant.each
          (c.in_ok-copied.ensures ∙ c.light_array.ensures ∙ light_from (named_views c.args.root.now.tags.items) _ _ (c.sections_of-sections.ensures ∙ ap (λ t. sections_in (named_views t)) c.as_slice.ensures.value) ∙ ap (light_array root) number));
    }
