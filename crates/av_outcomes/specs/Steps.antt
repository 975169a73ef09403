-- What is told of a run's steps.
use Rattle.std.specs.Prelude.{ℕ, List, ◌++◌, codes}
use Rattle.std.specs.Fmt.{decimal}
use Rattle.av_crew.specs.declared.gates.Step.{Step}
use Rattle.av_crew.specs.declared.gates.Step.TheVariants.{Files, Light, Loaded, Ticks}

-- a step in words
abbrev pub step_text : Step → List ℕ
step_text (Loaded chunks) = decimal chunks ++ codes " chunks loaded"
step_text (Ticks done all) = decimal done ++ codes " of " ++ decimal all ++ codes " ticks run"
step_text (Light chunks) = codes "light of " ++ decimal chunks ++ codes " chunks"
step_text (Files files) = codes "making " ++ decimal files ++ codes " files"
