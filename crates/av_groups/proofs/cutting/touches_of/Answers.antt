use Rattle.std.proofs.Common.{◌∙◌, sym, subst}
use Rattle.av_world.specs.Lands.{land_of}
use Rattle.av_world.specs.Views.{positions_of}
use Rattle.av_groups.specs.Open.{IsOpen, IsGathered}
use Rattle.av_groups.proofs.Added.{all_loaded}
use Rattle.av_groups.proofs.cutting.touches_of.Goals as goal

pub touch_entries-requires-clause-gathered : goal.touch_entries-requires-clause-gathered
touch_entries-requires-clause-gathered c = subst (IsOpen (positions_of c.args.world.now) c.args.closed.now c.args.marks.now.last.items) (sym c.clear.ensures.items) c.requires.none

pub returns : goal.returns
returns c =
    subst (IsGathered (land_of c.args.world.now) c.args.closed.now c.touch_entries.new.marks.last.items c.args.entries.now) (sym (c.in_ok-touches.ensures.items ∙ c.as_slice.ensures.value))
    (record { is_open = c.in_ok-touch_entries.ensures.gathered; loaded = all_loaded c.args.world.now c.args.entries.now c.requires.loaded; stay = c.in_ok-touch_entries.ensures.stay })
