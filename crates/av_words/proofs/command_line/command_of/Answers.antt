use Rattle.std.proofs.Common.{◌≡◌, ◌∙◌, ap, sym, subst, refl, arith, List, Option, Some, None, option_map, codes, slice_index, IfNone, IfOk, Result, Ok, Err}
use Rattle.std.proofs.lemmas.Option.{none-some, same_Some}
use Rattle.std.specs.Box.{box_value}
use Rattle.clap.specs.declared.parser.matches.ArgMatches.TheViews.{out-ArgMatches, out-SubCommand}
use Rattle.clap.specs.declared.parser.matches.ArgMatches.{ArgMatches}
use Rattle.clap.specs.Words.{Row, Text, found_of, rows_of, subcommand_name_of, subcommand_rows_of}
use Rattle.av_words.specs.declared.command_line.commands.Words.{Words}
use Rattle.av_words.specs.declared.command_line.commands.Words.TheVariants.{Block, Check, Map, Run, States}
use Rattle.av_words.specs.CommandLine.{HasValues, LacksBlock, LacksCheck, LacksMap, LacksRun, LacksStates, name_of}
use Rattle.av_words.proofs.command_line.command_of.Goals as goal

if_none : {T : Type 0} (o : Option T) (P Q : Type 0) → (P → Q) → IfNone o P → IfNone o Q
if_none None P Q then p = then p
if_none (Some x) P Q then p = tt

if_ok_none : {T E : Type 0} (r : Result (Option T) E) (P Q : Type 0) → (P → Q) → IfOk r (λ o. IfNone o P) → IfOk r (λ o. IfNone o Q)
if_ok_none (Ok o) P Q then p = if_none o P Q then p
if_ok_none (Err e) P Q then p = tt

-- what was entered has one name
one_name : {A : Type 0} (o : Option A) (h : A → Text × List Row) (n k : Text) (rows : List Row)
    → option_map (λ a. (h a).0) o ≡ Some n → option_map h o ≡ Some (k, rows) → k ≡ n
one_name None h n k rows named is = absurd (none-some n named)
one_name (Some a) h n k rows named is = sym (ap (λ (p : Text × List Row). p.0) (same_Some _ _ is)) ∙ same_Some _ _ named

-- and has its rows
one_rows : (o : Option (Text × List Row)) (k : Text) (rows r : List Row)
    → option_map (λ p. p.1) o ≡ Some r → o ≡ Some (k, rows) → rows ≡ r
one_rows o k rows r has is =
    same_Some _ _ (sym (ap (option_map (λ (p : Text × List Row). p.1)) is) ∙ has)

-- names that begin with other letters
unlike : (a b : Text) → (slice_index a 0 ≡ slice_index b 0 → ⊥) → a ≡ b → ⊥
unlike a b differ is = differ (ap (λ (t : Text). slice_index t 0) is)

-- the name of what was entered
named : (m : ArgMatches) (n k : Text) (rows : List Row) → subcommand_name_of m ≡ Some n → subcommand_rows_of m ≡ Some (k, rows) → k ≡ n
named m n k rows name is =
    one_name (out-ArgMatches m).subcommand
    (λ b. ((out-SubCommand (box_value b)).name.now, rows_of (found_of (out-SubCommand (box_value b)).matches))) n k rows name is

Entered : ArgMatches → Words → List Row → Type 0
Entered m w rows = subcommand_rows_of m ≡ Some (name_of w, rows)

-- rows that hold no values of the command of that name
abbrev Lacks : List Row → Text → Type 0
Lacks r n = (w : Words) → name_of w ≡ n → HasValues r w → ⊥

no_values : (m : ArgMatches) (n : Text) (r : List Row) → subcommand_name_of m ≡ Some n → option_map (λ p. p.1) (subcommand_rows_of m) ≡ Some r
    → Lacks r n → (w : Words) (rows : List Row) → Entered m w rows → HasValues rows w → ⊥
unfolding Entered
no_values m n r name has lacks w rows is h =
    lacks w (named m n (name_of w) rows name is)
    (subst (λ (rs : List Row). HasValues rs w) (one_rows (subcommand_rows_of m) (name_of w) rows r has is) h)

lacks_block : (r : List Row) → LacksBlock r → Lacks r (codes "block")
lacks_block r lacks (Block file at table explain) is h = lacks file at table explain h
lacks_block r lacks (Check input table progress explain) is h = unlike (codes "check") (codes "block") (λ e. absurd (omega arith)) is
lacks_block r lacks (Run run) is h = unlike (codes "run") (codes "block") (λ e. absurd (omega arith)) is
lacks_block r lacks (Map input output table colours light explain) is h = unlike (codes "map") (codes "block") (λ e. absurd (omega arith)) is
lacks_block r lacks (States input table explain) is h = unlike (codes "states") (codes "block") (λ e. absurd (omega arith)) is

lacks_check : (r : List Row) → LacksCheck r → Lacks r (codes "check")
lacks_check r lacks (Block file at table explain) is h = unlike (codes "block") (codes "check") (λ e. absurd (omega arith)) is
lacks_check r lacks (Check input table progress explain) is h = lacks input table progress explain h
lacks_check r lacks (Run run) is h = unlike (codes "run") (codes "check") (λ e. absurd (omega arith)) is
lacks_check r lacks (Map input output table colours light explain) is h = unlike (codes "map") (codes "check") (λ e. absurd (omega arith)) is
lacks_check r lacks (States input table explain) is h = unlike (codes "states") (codes "check") (λ e. absurd (omega arith)) is

lacks_run : (r : List Row) → LacksRun r → Lacks r (codes "run")
lacks_run r lacks (Block file at table explain) is h = unlike (codes "block") (codes "run") (λ e. absurd (omega arith)) is
lacks_run r lacks (Check input table progress explain) is h = unlike (codes "check") (codes "run") (λ e. absurd (omega arith)) is
lacks_run r lacks (Run run) is h = lacks run h
lacks_run r lacks (Map input output table colours light explain) is h = unlike (codes "map") (codes "run") (λ e. absurd (omega arith)) is
lacks_run r lacks (States input table explain) is h = unlike (codes "states") (codes "run") (λ e. absurd (omega arith)) is

lacks_map : (r : List Row) → LacksMap r → Lacks r (codes "map")
lacks_map r lacks (Block file at table explain) is h = unlike (codes "block") (codes "map") (λ e. absurd (omega arith)) is
lacks_map r lacks (Check input table progress explain) is h = unlike (codes "check") (codes "map") (λ e. absurd (omega arith)) is
lacks_map r lacks (Run run) is h = unlike (codes "run") (codes "map") (λ e. absurd (omega arith)) is
lacks_map r lacks (Map input output table colours light explain) is h = lacks input output table colours light explain h
lacks_map r lacks (States input table explain) is h = unlike (codes "states") (codes "map") (λ e. absurd (omega arith)) is

lacks_states : (r : List Row) → LacksStates r → Lacks r (codes "states")
lacks_states r lacks (Block file at table explain) is h = unlike (codes "block") (codes "states") (λ e. absurd (omega arith)) is
lacks_states r lacks (Check input table progress explain) is h = unlike (codes "check") (codes "states") (λ e. absurd (omega arith)) is
lacks_states r lacks (Run run) is h = unlike (codes "run") (codes "states") (λ e. absurd (omega arith)) is
lacks_states r lacks (Map input output table colours light explain) is h = unlike (codes "map") (codes "states") (λ e. absurd (omega arith)) is
lacks_states r lacks (States input table explain) is h = lacks input table explain h

pub returns-in-Some-clause-none : goal.returns-in-Some-clause-none
unfolding Entered
returns-in-Some-clause-none c =
    if_none c.block_words.result _ _
    (λ lacks. no_values c.args.matches.now (codes "block") _ (c.in-Some.ensures.found.0 refl) c.in-Some.ensures.rows (lacks_block (rows_of (found_of c.in-Some.block.now)) lacks))
    c.block_words.ensures.none

pub returns-in-Some-subcommand_matches-clause-none : goal.returns-in-Some-subcommand_matches-clause-none
unfolding Entered
returns-in-Some-subcommand_matches-clause-none c =
    if_none c.check_words.result _ _
    (λ lacks. no_values c.args.matches.now (codes "check") _ (c.in-Some-subcommand_matches.ensures.found.0 refl) c.in-Some-subcommand_matches.ensures.rows (lacks_check _ lacks))
    c.check_words.ensures.none

pub returns-in-Some-subcommand_matches-2-clause-none : goal.returns-in-Some-subcommand_matches-2-clause-none
unfolding Entered
returns-in-Some-subcommand_matches-2-clause-none c =
    if_none c.map_words.result _ _
    (λ lacks. no_values c.args.matches.now (codes "map") _ (c.in-Some-subcommand_matches-2.ensures.found.0 refl) c.in-Some-subcommand_matches-2.ensures.rows (lacks_map _ lacks))
    c.map_words.ensures.none

pub returns-in-Some-subcommand_matches-3-clause-none : goal.returns-in-Some-subcommand_matches-3-clause-none
unfolding Entered
returns-in-Some-subcommand_matches-3-clause-none c =
    if_none c.states_words.result _ _
    (λ lacks. no_values c.args.matches.now (codes "states") _ (c.in-Some-subcommand_matches-3.ensures.found.0 refl) c.in-Some-subcommand_matches-3.ensures.rows (lacks_states (rows_of (found_of c.in-Some-subcommand_matches-3.states.now)) lacks))
    c.states_words.ensures.none

pub returns-in-Some-subcommand_matches-4-clause-none : goal.returns-in-Some-subcommand_matches-4-clause-none
unfolding Entered
returns-in-Some-subcommand_matches-4-clause-none c =
    if_ok_none c.run_words.result _ _
    (λ lacks. no_values c.args.matches.now (codes "run") _ (c.in-Some-subcommand_matches-4.ensures.found.0 refl) c.in-Some-subcommand_matches-4.ensures.rows (lacks_run _ lacks))
    c.run_words.ensures.none
