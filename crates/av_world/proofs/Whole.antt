-- A world of which no section is out, as the definitions of a tick see it.
use Rattle.std.proofs.Common.{◌≡◌, ℕ, Bool, ◌&&◌, IsTrue, Option, Some, None, refl, sym, ap, ◌∙◌}
use Rattle.av_types.specs.Positions.{chunk_of, section_of, place_of}
use Rattle.av_types.specs.declared.position.Pos.{Pos}
use Rattle.av_ticks.specs.Entries.{is_pending}
use Rattle.av_cells.specs.Grid.{Filling, is_here, pending_in}
use Rattle.av_land.specs.Land as lands
use Rattle.av_world.specs.Views.{blocks, lists, grid, site}
use Rattle.av_types.specs.declared.position.Height.{Height}
use Rattle.av_cells.specs.World.{Site, Lists}
use Rattle.av_world.specs.Lands.{land_of, IsUncarved}
use Rattle.av_world.specs.declared.worlds.World.{World}

waits_here : (o : Option Filling) (i : ℕ) (b : Bool) → (IsTrue (is_here o) → pending_in o i ≡ b) → is_here o && b ≡ pending_in o i
waits_here None i b h = refl
waits_here (Some f) i b h = sym (h refl)

pub cells_of_land : (w : World) → IsUncarved w → lands.cells_of (land_of w) ≡ blocks w
cells_of_land w whole = λ i. record { loaded = sym whole i; number = (blocks w).number; pending = λ p. pending p i } where
  pending : (p : Pos) → lands.waits (land_of w) p ≡ (blocks w).pending p
  pending p = ap (λ (l : Pos → Bool). l p && is_pending p (lists w (chunk_of p))) (sym whole) ∙ waits_here (grid w (section_of p)) (place_of p) (is_pending p (lists w (chunk_of p))) (w.lawful.tied p)

abbrev height_or : Height → Option Height → Height
height_or h None = h
height_or h (Some g) = g

pub height_of : (old new : World) → site new ≡ site old → new.height ≡ old.height
height_of old new s = ap (λ (x : Site). height_or old.height x.height) s

-- a world whose site and loaded blocks are as they were is as whole as it was
pub whole_kept : (old new : World) → site new ≡ site old → (blocks new).loaded ≡ (blocks old).loaded → IsUncarved old → IsUncarved new
whole_kept old new s l whole = l ∙ (whole ∙ sym (λ i p. lands.is_loaded (record { height = height_of old new s i; chunks = (s i).chunks; at = (blocks old).number; lists = lists old }) p))

-- a world that is a change of a whole one
pub land_after : (old new : World) (f : Pos → ℕ) (l : Lists) → site new ≡ site old → (blocks new).number ≡ f → lists new ≡ l
    → land_of new ≡ record { height = old.height; chunks = old.positions.items; at = f; lists = l }
land_after old new f l s n g = λ i. record { height = height_of old new s i; chunks = (s i).chunks; at = n i; lists = g i }
