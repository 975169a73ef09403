-- What a folder holds, by the names of its files, and what steps do to it.
use Rattle.std.specs.Prelude.{◌≡◌, ◌⊎◌, ℕ, List, [], ◌∷◌, ◌++◌, cond, Option, Some, None}
use Rattle.std.specs.Str.{bytes_eq}

-- the bytes under each name, where there is a file
abbrev pub Holdings : Type 0
Holdings = List ℕ → Option (List ℕ)

pub data Step : Type 0 where
  -- a name that was free has a file with these bytes, all of which are on the device
  Written : (name bytes : List ℕ) → Step
  -- a file was not written: what is left under its name
  Spoiled : (name : List ℕ) (left : Option (List ℕ)) → Step
  -- a file took the name of another, which it replaced, where it was there
  Moved : (from to : List ℕ) → Step
  Removed : (name : List ℕ) → Step
  -- the names are on the device as well
  Synced : Step

abbrev pub with_name : Holdings → List ℕ → Option (List ℕ) → Holdings
with_name h name file = λ m. cond (bytes_eq m name) file (h m)

abbrev pub moved : Holdings → List ℕ → List ℕ → Option (List ℕ) → Holdings
moved h from to None = h
moved h from to (Some bytes) = with_name (with_name h from None) to (Some bytes)

abbrev pub after : Holdings → Step → Holdings
after h (Written name bytes) = with_name h name (Some bytes)
after h (Spoiled name left) = with_name h name left
after h (Moved from to) = moved h from to (h from)
after h (Removed name) = with_name h name None
after h Synced = h

abbrev pub after_all : Holdings → List Step → Holdings
after_all h [] = h
after_all h (step ∷ steps) = after_all (after h step) steps

-- what a folder held at first, and the steps that were taken since
pub record History : Type 0 where
  pub first : Holdings
  pub steps : List Step

abbrev pub held : History → Holdings
held t = after_all t.first t.steps

-- The history of a folder that can tell it, as one in memory can, after further steps. One of the system can't tell it.
abbrev pub with_steps : Option History → List Step → Option History
with_steps None steps = None
with_steps (Some t) steps = Some (record { first = t.first; steps = t.steps ++ steps })

-- a step that was answered with an error: it was not taken, or it was
abbrev pub MayHaveTaken : Step → Option History → Option History → Type 0
MayHaveTaken step old new = (new ≡ old) ⊎ (new ≡ with_steps old (step ∷ []))

-- a fact of what a folder holds, where it can tell
abbrev pub IfTold : Option History → (Holdings → Type 0) → Type 0
IfTold None P = Unit {0}
IfTold (Some t) P = P (held t)

-- ---- a crash

-- some of a list, in its order
pub data AreSomeOf {A : Type 0} : List A → List A → Type 0 where
  none : AreSomeOf [] []
  kept : (x : A) (some all : List A) → AreSomeOf some all → AreSomeOf (x ∷ some) (x ∷ all)
  lost : (x : A) (some all : List A) → AreSomeOf some all → AreSomeOf some (x ∷ all)

-- phases of steps, at the end of each of which all names are on the device
abbrev pub all_of : List (List Step) → List Step
all_of [] = []
all_of (phase ∷ phases) = phase ++ (Synced ∷ all_of phases)

-- What a crash may leave of phases: all steps of the first ones, and of the next one some, in their order, which may be none or all.
pub data IsCutOff : List (List Step) → List Step → Type 0 where
  ended : IsCutOff [] []
  during : (phase : List Step) (phases : List (List Step)) (left : List Step) → AreSomeOf left phase → IsCutOff (phase ∷ phases) left
  later : (phase : List Step) (phases : List (List Step)) (left : List Step) → IsCutOff phases left → IsCutOff (phase ∷ phases) (phase ++ (Synced ∷ left))
