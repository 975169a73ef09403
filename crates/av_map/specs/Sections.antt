-- Working definitions. No public clause cites them.
-- What is seen of the sections of a chunk in memory, and what the readers of a table of colours answer.
use Rattle.std.specs.Prelude.{◌≡◌, ◌≢◌, ◌<◌, ℕ, ◌+◌, ◌*◌, ◌/◌, ◌%◌, pos, ◌+ℤ◌, List, length, Option, Some, None, get_or, true, false, Result, MatchResult}
use Rattle.av_types.specs.declared.fault.Fault.{Fault}
use Rattle.av_types.specs.declared.fault.Fault.TheVariants.{OutOfMemory, BadTable}
use Rattle.av_types.specs.declared.position.Height.{Height}
use Rattle.av_tags.specs.Nbt.{NamedTag}
use Rattle.av_section.specs.Section.{number_at}
use Rattle.av_section.specs.declared.section.Section.{Section}
use Rattle.av_map.specs.declared.look.Look.{Look}
use Rattle.av_map.specs.declared.sight.Sight.{Sight}
use Rattle.av_map.specs.declared.view.View.{View}
use Rattle.av_map.specs.declared.view.View.TheVariants.{Blocks, Light}
use Rattle.av_map.specs.Columns.{block_sight, light_sight}
use Rattle.av_map.specs.Light.{level_in, light_array}

-- what stands where there is no number
abbrev pub air_look : Look
air_look = record { is_air = true; is_water = false; colour = record { red = 0; green = 0; blue = 0 } }

-- the look of a place of a section, by the looks of numbers
abbrev pub section_look : List Look → Option Section → ℕ → Look
section_look looks None place = air_look
section_look looks (Some s) place = get_or looks (number_at s place) air_look

-- the look of a column's block
abbrev pub look_at : List (Option Section) → List Look → ℕ → ℕ → Look
look_at sections looks column k = section_look looks (get_or sections (k / 16) None) (256 * (k % 16) + column)

-- the light of a column's block, by the arrays of the sections
abbrev pub level_at : List (Option (List ℕ)) → ℕ → ℕ → ℕ
level_at lights column k = level_in (get_or lights (k / 16) None) (256 * (k % 16) + column)

-- what a column shows
abbrev pub sight_by : View → List (Option Section) → List Look → List (Option (List ℕ)) → ℕ → Option Sight
sight_by Blocks sections looks lights column = block_sight (look_at sections looks column) (16 * length sections)
sight_by Light sections looks lights column = light_sight (look_at sections looks column) (level_at lights column) (16 * length sections)

-- the arrays of light of the sections of a height, the lowest first
pub record AreLights (root : List NamedTag) (h : Height) (lights : List (Option (List ℕ))) : Type 0 where
  pub count : length lights ≡ h.sections
  pub each : (i : ℕ) → i < h.sections → get_or lights i None ≡ light_array root (h.min_section +ℤ pos i)

-- where light is drawn
abbrev pub AreLightsFor : View → List NamedTag → Height → List (Option (List ℕ)) → Type 0
AreLightsFor Blocks root h lights = Unit {0}
AreLightsFor Light root h lights = AreLights root h lights

-- ---- tables of colours

-- a refusal: the part is ill-formed, or memory ran out
pub record Refuses {B : Type 0} (o : Option B) (e : Fault) : Type 0 where
  pub at_cause : e ≡ BadTable → o ≡ None
  pub only : e ≢ BadTable → e ≡ OutOfMemory

-- the value is what the part spells
abbrev pub Reads : {A B : Type 0} → (A → B) → Option B → Result A Fault → Type 0
Reads view o r = MatchResult r (λ a. o ≡ Some (view a)) (Refuses o)
