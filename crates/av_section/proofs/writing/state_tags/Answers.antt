-- The entry of one more number.
use Rattle.std.proofs.Common.{get_or, refl}
use Rattle.std.specs.Prelude.{slice_index_or}
use Rattle.std.proofs.lemmas.List.{map-append, map_more}
use Rattle.std.proofs.lemmas.Option.{get_or_from_slice_get}
use Rattle.av_state.specs.BlockState.{air}
use Rattle.av_state.specs.Table.{states}
use Rattle.av_section.specs.Palette.{state_tag}
use Rattle.av_section.proofs.writing.state_tags.Goals as goal

pub loop-number-preserved : goal.loop-number-preserved
loop-number-preserved c =
    let all = states c.args.table.now in
    let i = c.loop-number.number-index in
    let state = get_or_from_slice_get all (get_or c.args.numbers.now i 0) _ air c.state.ensures.there in
    rw (c.in_ok-push.ensures.items, map-append, map_more (λ n. state_tag (slice_index_or all n air)) c.args.numbers.now i 0 c.loop-number-test.true, c.in_ok-state_tag.ensures, c.loop-number.invariant, state) refl
