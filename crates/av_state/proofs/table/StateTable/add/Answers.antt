use Rattle.std.proofs.Common.{◌≡◌, ◌<◌, ℕ, ◌∙◌, ◌++◌, ◌∷◌, [], List, ap, sym, subst, length, map, OnOk, arith}
use Rattle.std.proofs.lemmas.List.{length-map}
use Rattle.av_state.specs.BlockState.{BlockState}
use Rattle.av_state.specs.StateList.{Numbers}
use Rattle.av_state.specs.Table.{states}
use Rattle.av_state.specs.States.{state_of}
use Rattle.av_state.proofs.Numbering.{Numbers-new, IsStateList-put}
use Rattle.av_state.proofs.table.StateTable.add.Goals as goal

pub invariant_of-self-2 : goal.invariant_of-self-2
invariant_of-self-2 c =
    let s = state_of c.args.state.now in
    let old = c.args.self.now.states.items in
    let room : length (states c.args.self.now) < 65535 = omega (arith, length-map old state_of) in
    let P : BlockState → Type 0 = λ t. OnOk c.put.result (map state_of c.put.new.states.items ≡ map state_of old ++ t ∷ []) in
    record {
      numbered = IsStateList-put c.put.result (map state_of old) (map state_of c.put.new.states.items) s (subst P c.in_ok-clone.ensures.cases c.put.ensures.ok) c.put.ensures.unchanged c.args.self.now.numbered c.requires.same c.requires.is_new room;
      indexed = c.put.ensures.index;
    }

pub returns-clause-ok : goal.returns-clause-ok
returns-clause-ok c =
    let s = state_of c.args.state.now in
    let old = c.args.self.now.states.items in
    let n : length (map state_of old) ≡ c.len-number.result = omega (arith, length-map old state_of) in
    let all : map state_of c.put.new.states.items ≡ map state_of old ++ s ∷ [] = c.in_ok-put.ensures.ok ∙ ap (λ t. map state_of old ++ t ∷ []) c.in_ok-clone.ensures.cases in
    let P : List BlockState → Type 0 = λ xs. Numbers (map state_of old) s xs (length (map state_of old)) in
    let Q : ℕ → Type 0 = λ k. Numbers (map state_of old) s (map state_of c.put.new.states.items) k in
    subst Q n (subst P (sym all) (Numbers-new (map state_of old) s c.requires.same c.requires.is_new))

pub returns-clause-too_many : goal.returns-clause-too_many
returns-clause-too_many c =
    let room : length (states c.args.self.now) < 65535 = omega (arith, length-map c.args.self.now.states.items state_of) in
    (λ refused. absurd cc, λ full. absurd (omega (arith, room, full)))
