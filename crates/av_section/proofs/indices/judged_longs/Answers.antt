-- The entries are states, and the longs do not fit them.
use Rattle.std.proofs.Common.{◌≡◌, sym, subst, length, map, arith, None, option_map}
use Rattle.std.specs.Option.{option_copied}
use Rattle.std.proofs.lemmas.List.{length-map}
use Rattle.av_tags.specs.View.{view}
use Rattle.av_tags.proofs.Each.{each_many}
use Rattle.av_state.specs.States.{state_of}
use Rattle.av_section.specs.BlockStates.{indices_of}
use Rattle.av_section.specs.Palette.{state_in}
use Rattle.av_section.proofs.indices.judged_longs.Goals as goal

pub returns-in_default-clause-err : goal.returns-in_default-clause-err
returns-in_default-clause-err c =
    let found = c.in_ok-entry_states.field-0.items in
    let told = c.in_ok-entry_states.ensures.ok in
    let many = each_many state_in view state_of c.args.entries.now found told in
    let count : length (map state_of found) ≡ length c.args.entries.now = omega (arith, length-map found state_of, many) in
    record {
      told = map state_of found;
      told_are = told;
      because = subst (λ n. indices_of n (option_map view (option_copied c.args.longs)) ≡ None) (sym count) c.in_default.ensures.none;
    }
