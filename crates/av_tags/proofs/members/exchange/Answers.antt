use Rattle.std.proofs.Common.{◌≡◌, OnErr, None, Ok, Err, sym, Some}
use Rattle.av_tags.specs.View.{named_view, named_views}
use Rattle.av_tags.specs.ByName.{tag_of, index_of_name}
use Rattle.av_tags.proofs.Names.{tag_is_missing}
use Rattle.av_tags.proofs.Slots.{placed_at, placed_after, taken_at}
use Rattle.av_tags.proofs.Views.{name_in_view}
use Rattle.av_tags.proofs.members.exchange.Goals as goal

pub returns-in_err-push-in-None-clause-absent : goal.returns-in_err-push-in-None-clause-absent
returns-in_err-push-in-None-clause-absent c =
    let absent : None ≡ index_of_name (named_view c.args.named).name (named_views c.args.tags.now.items) = cc (name_in_view c.args.named) in
    let missing = tag_is_missing (named_view c.args.named).name (named_views c.args.tags.now.items) (sym absent) in
    elim c.from_residual.result as (λ r. OnErr r (tag_of (named_view c.args.named).name (named_views c.args.tags.now.items) ≡ None)) [ Ok _ ↦ tt | Err _ ↦ missing ]

pub returns-in-Some-clause-placed : goal.returns-in-Some-clause-placed
returns-in-Some-clause-placed c =
    let here : Some c.in-Some.index ≡ index_of_name (named_view c.args.named).name (named_views c.args.tags.now.items) = cc (name_in_view c.args.named) in
    rw c.replace-old.ensures.after (placed_at c.args.tags.now.items c.in-Some.index c.args.named here)

pub returns-in-Some-clause-before : goal.returns-in-Some-clause-before
returns-in-Some-clause-before c =
    let here : Some c.in-Some.index ≡ index_of_name (named_view c.args.named).name (named_views c.args.tags.now.items) = cc (name_in_view c.args.named) in
    rw c.into_tag.ensures (sym (taken_at c.args.tags.now.items c.in-Some.index c.replace-old.result (named_view c.args.named).name here (rw c.replace-old.ensures.value c.index_mut.ensures.value)))

pub returns-in_ok-push-in-None-clause-placed : goal.returns-in_ok-push-in-None-clause-placed
returns-in_ok-push-in-None-clause-placed c =
    let absent : None ≡ index_of_name (named_view c.args.named).name (named_views c.args.tags.now.items) = cc (name_in_view c.args.named) in
    rw c.in_ok-push-in-None.ensures.items (placed_after c.args.tags.now.items c.args.named absent)

pub returns-in_ok-push-in-None-clause-before : goal.returns-in_ok-push-in-None-clause-before
returns-in_ok-push-in-None-clause-before c =
    let absent : None ≡ index_of_name (named_view c.args.named).name (named_views c.args.tags.now.items) = cc (name_in_view c.args.named) in
    sym (tag_is_missing (named_view c.args.named).name (named_views c.args.tags.now.items) (sym absent))
