use Rattle.std.proofs.Common.{◌≡◌, ◌∙◌, false, Some, None, refl, sym}
use Rattle.av_tags.specs.Shape.{compound_of}
use Rattle.av_tags.specs.View.{view, named_views}
use Rattle.av_document.specs.Ticks.{is_bad_tick, water_entry}
use Rattle.av_codec.specs.declared.reading.water.Ticks.{Ticks}
use Rattle.av_codec.proofs.Rows.{water_added, foreign_added}
use Rattle.av_codec.proofs.reading.water.Ticks.add.Goals as goal

pub returns-in_ok-add-in-Some-clause-added : goal.returns-in_ok-add-in-Some-clause-added
returns-in_ok-add-in-Some-clause-added c =
    let ms = named_views c.unwrap-tags.result.now in
    let is : compound_of (view c.args.tick) ≡ Some ms = rw c.unwrap-tags.ensures at (sym c.as_members.ensures) in
    let good : is_bad_tick c.args.at c.args.height ms ≡ false = sym c.is_bad.ensures ∙ c.if-is_bad.false in
    let some : water_entry ms ≡ Some c.in-Some.entry = sym c.in-Some.ensures in
    let new : Ticks = record { water = c.add.new.self; foreign = c.args.self.now.foreign } in
    water_added c.args.at c.args.height (view c.args.tick) ms c.args.self.now new c.in-Some.entry c.in_ok-add-in-Some.field-0 is good some c.in_ok-add-in-Some.ensures.added c.in_ok-add-in-Some.ensures.entries refl

pub returns-in_ok-push-in-None-clause-added : goal.returns-in_ok-push-in-None-clause-added
returns-in_ok-push-in-None-clause-added c =
    let ms = named_views c.unwrap-tags.result.now in
    let is : compound_of (view c.args.tick) ≡ Some ms = rw c.unwrap-tags.ensures at (sym c.as_members.ensures) in
    let good : is_bad_tick c.args.at c.args.height ms ≡ false = sym c.is_bad.ensures ∙ c.if-is_bad.false in
    let none : water_entry ms ≡ None = sym c.in-None.ensures in
    let new : Ticks = record { water = c.args.self.now.water; foreign = c.push.new.self } in
    foreign_added c.args.at c.args.height c.args.tick ms c.args.self.now new is good none refl c.in_ok-push-in-None.ensures.items
