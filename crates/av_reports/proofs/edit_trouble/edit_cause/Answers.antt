-- Each fault's cause.
use Rattle.std.proofs.Common.{refl}
use Rattle.av_reports.specs.Edits.{form, tick, outside}
use Rattle.av_reports.proofs.edit_trouble.edit_cause.Goals as goal

pub returns-in-BadEdit : goal.returns-in-BadEdit
returns-in-BadEdit c = form c.in-BadEdit.line c.in-BadEdit.is refl

pub returns-in-EditTick : goal.returns-in-EditTick
returns-in-EditTick c = tick c.in-EditTick.line c.in-EditTick.is refl

pub returns-in-EditOutside : goal.returns-in-EditOutside
returns-in-EditOutside c = outside c.in-EditOutside.line c.in-EditOutside.is refl
