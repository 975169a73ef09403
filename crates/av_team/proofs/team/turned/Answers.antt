use Rattle.std.proofs.Common.{◌∙◌, sym, ap, subst}
use Rattle.av_rules.specs.Kinds.{kind_count}
use Rattle.av_land.specs.Tick.{without_due}
use Rattle.av_world.specs.Lands.{land_of}
use Rattle.av_serial.specs.Ready.{IsReady, HasSameChunks}
use Rattle.av_groups.specs.declared.groups.Groups.{Groups}
use Rattle.av_lending.proofs.After.{all_turned}
use Rattle.av_team.proofs.team.turned.Goals as goal

pub new-requires-clause-plan : goal.new-requires-clause-plan
new-requires-clause-plan g c = c.in_ok-desk.ensures.desk.is_plan

pub returns : goal.returns
returns g c =
    let d = c.in_ok-desk.ensures in
    let p = c.in_ok-desk.desk.plan in
    let left = c.in_ok-left.left in
    record {
      land_is = ap (λ t. without_due t (land_of left)) (sym d.tick) ∙ c.in_ok-left.ensures.land_is
          ∙ all_turned c.args.kinds.now c.args.now c.args.world c.args.groups.entries.items p d.desk.is_plan d.tick (sym d.desk.kinds_are) d.start (ap (λ (gs : Groups). gs.entries.items) (sym d.desk.groups_are ∙ d.groups));
      ready = subst (λ k. IsReady (kind_count k) left) (sym d.desk.kinds_are) c.in_ok-left.ensures.ready;
      chunks = subst (λ w. HasSameChunks w left) d.start c.in_ok-left.ensures.chunks;
    }
