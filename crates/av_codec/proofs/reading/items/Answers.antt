use Rattle.std.proofs.Common.{◌≡◌, sym, false, Some}
use Rattle.av_tags.specs.Shape.{items_of_list, compounds_of, lacks}
use Rattle.av_tags.specs.View.{view, views}
use Rattle.av_codec.proofs.Rows.{list_compounds, list_opened}
use Rattle.av_codec.proofs.reading.items.Goals as goal

pub returns-in-Some-clause-rows : goal.returns-in-Some-clause-rows
returns-in-Some-clause-rows c =
    let is : items_of_list (view c.in-Some.list) ≡ Some (views c.unwrap.result.items) = sym (rw c.unwrap.ensures at c.into_items.ensures) in
    let good : lacks (compounds_of (view c.in-Some.list)) ≡ false = rw c.in-Some.is at c.requires in
    rw c.in-Some.is (list_opened (view c.in-Some.list) (views c.unwrap.result.items) is good)

pub returns-in-Some-clause-compounds : goal.returns-in-Some-clause-compounds
returns-in-Some-clause-compounds c =
    let is : items_of_list (view c.in-Some.list) ≡ Some (views c.unwrap.result.items) = sym (rw c.unwrap.ensures at c.into_items.ensures) in
    let good : lacks (compounds_of (view c.in-Some.list)) ≡ false = rw c.in-Some.is at c.requires in
    list_compounds (view c.in-Some.list) (views c.unwrap.result.items) is good
