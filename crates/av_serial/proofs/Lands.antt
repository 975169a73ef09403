-- Changes of a world, as changes of its land.
use Rattle.std.proofs.Common.{◌≡◌, ℕ, List, [], ap, sym, ◌∙◌}
use Rattle.av_types.specs.declared.position.Pos.{Pos}
use Rattle.av_types.specs.declared.tick.Entry.{Entry}
use Rattle.av_cells.specs.declared.kind.Kind.{Kind}
use Rattle.av_cells.specs.World.{listed_all}
use Rattle.av_cells.specs.World as cells
use Rattle.av_cells.specs.Turn.{Change, change, set_awake, turn}
use Rattle.av_land.specs.Tick.{after, set_in, turned}
use Rattle.av_world.specs.Views.{blocks, lists, site}
use Rattle.av_world.specs.Lands.{land_of, IsUncarved}
use Rattle.av_world.proofs.Whole.{cells_of_land, land_after}
use Rattle.av_world.specs.declared.worlds.World.{World}

pub land_changed : (old new : World) (made : List Entry) (c : Change) → site new ≡ site old → change (blocks new) made ≡ c → lists new ≡ listed_all (lists old) made → land_of new ≡ after (land_of old) c
land_changed old new made c s e l = land_after old new c.world.number (listed_all (lists old) c.made) s (ap (λ (d : Change). d.world.number) e) (l ∙ ap (λ (d : Change). listed_all (lists old) d.made) e)

-- a set, after its room was made
pub land_set : (k : ℕ → Kind) (now : ℕ) (p : Pos) (n : ℕ) (old mid new : World) (made : List Entry) → IsUncarved old → site mid ≡ site old → blocks mid ≡ blocks old → lists mid ≡ lists old
    → site new ≡ site mid → change (blocks new) made ≡ set_awake k now p n (change (blocks mid) []) → lists new ≡ listed_all (lists mid) made → land_of new ≡ set_in k now p n (land_of old)
land_set k now p n old mid new made whole s b l s2 e l2 =
    land_changed old new made (set_awake k now p n (change (blocks old) [])) (s2 ∙ s) (e ∙ ap (λ v. set_awake k now p n (change v [])) b) (l2 ∙ ap (λ v. listed_all v made) l)
    ∙ ap (λ v. after (land_of old) (set_awake k now p n (change v []))) (sym (cells_of_land old whole))

-- a turn, after its room was made
pub land_turned : (k : ℕ → Kind) (now : ℕ) (p : Pos) (old mid new : World) (made : List Entry) → IsUncarved old → site mid ≡ site old → blocks mid ≡ blocks old → lists mid ≡ lists old
    → site new ≡ site mid → change (blocks new) made ≡ turn k now p (blocks mid) → lists new ≡ listed_all (lists mid) made → land_of new ≡ turned k now p (land_of old)
land_turned k now p old mid new made whole s b l s2 e l2 =
    land_changed old new made (turn k now p (blocks old)) (s2 ∙ s) (e ∙ ap (turn k now p) b) (l2 ∙ ap (λ v. listed_all v made) l)
    ∙ ap (λ v. after (land_of old) (turn k now p v)) (sym (cells_of_land old whole))

-- nothing changed
pub land_same : (old new : World) → site new ≡ site old → blocks new ≡ blocks old → lists new ≡ lists old → land_of new ≡ land_of old
land_same old new s b l = land_after old new (blocks old).number (lists old) s (ap (λ (v : cells.World). v.number) b) l
