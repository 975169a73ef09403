-- A plan of a world's entries in groups.
use Rattle.std.proofs.Common.{◌≡◌, sym, subst}
use Rattle.av_rules.specs.Kinds.{kind_count}
use Rattle.av_rules.specs.declared.kinds.Kinds.{Kinds}
use Rattle.av_world.specs.Lands.{land_of}
use Rattle.av_world.specs.declared.worlds.World.{World}
use Rattle.av_serial.specs.Ready.{IsReady}
use Rattle.av_groups.specs.declared.groups.Groups.{Groups}
use Rattle.av_groups.specs.Groups.{AreGroups}
use Rattle.av_lending.specs.declared.plans.Plan.{Plan}
use Rattle.av_lending.specs.Plans.{kinds_in, IsPlanOf}

pub plan_of : (p : Plan) (k : Kinds) (gs : Groups) (w : World) → kinds_in p ≡ k → p.start.value ≡ w → p.groups.value ≡ gs → AreGroups (land_of w) gs → IsReady (kind_count k) w → IsPlanOf p k gs
plan_of p k gs w kinds start groups cut ready = record {
  kinds_are = sym kinds;
  groups_are = sym groups;
  is_plan = record {
    ready = subst (λ n. IsReady (kind_count n) p.start.value) (sym kinds) (subst (IsReady (kind_count k)) (sym start) ready);
    groups = subst (λ hs. AreGroups (land_of p.start.value) hs) (sym groups) (subst (λ v. AreGroups (land_of v) gs) (sym start) cut);
  };
}
