use Rattle.std.proofs.Common.{rules, ◌≡◌, ◌∙◌, sym, ℕ, Option, Some, None, IfSome, IfNone}
use Rattle.clap.specs.Words.{found_of, one_of, one_text, rows_of, Text}
use Rattle.clap.proofs.WalkLemmas.{one_text-rows}
use Rattle.std.proofs.lemmas.Option.{none-some, same_Some}
use Rattle.std.proofs.Common.{refl}
use Rattle.av_words.specs.CommandLine.{HasCount}
use Rattle.av_words.proofs.values.count_of.Goals as goal

pub returns-clause-value : goal.returns-clause-value
returns-clause-value c = go (one_text (found_of c.args.matches.now) c.args.name.now) refl c.get_one.result refl
  where
    go : (t : Option Text) → one_text (found_of c.args.matches.now) c.args.name.now ≡ t → (r : Option ℕ) → c.get_one.result ≡ r
        → IfSome r (HasCount (rows_of (found_of c.args.matches.now)) c.args.name.now)
    go None none None is = search rules
    go None none (Some n) is = let bad : None ≡ Some n = sym (c.get_one.ensures.none none) ∙ is in cc
    go (Some t) some None is = search rules
    go (Some t) some (Some n) is =
        let read = rw is at c.get_one.ensures.value t some in
        (t, sym (one_text-rows (found_of c.args.matches.now) c.args.name.now) ∙ some, (read.0.0.0, read.0.0.1, read.0.1))

pub returns-clause-none : goal.returns-clause-none
returns-clause-none c = go (one_text (found_of c.args.matches.now) c.args.name.now) refl c.get_one.result refl
  where
    rows_are : one_text (found_of c.args.matches.now) c.args.name.now ≡ one_of c.args.name.now (rows_of (found_of c.args.matches.now))
    rows_are = one_text-rows (found_of c.args.matches.now) c.args.name.now

    go : (t : Option Text) → one_text (found_of c.args.matches.now) c.args.name.now ≡ t → (r : Option ℕ) → c.get_one.result ≡ r
        → IfNone r ((n : ℕ) → HasCount (rows_of (found_of c.args.matches.now)) c.args.name.now n → ⊥)
    go None none None is = λ n h. none-some h.0 (sym none ∙ (rows_are ∙ h.1))
    go None none (Some m) is = tt
    go (Some t) some None is = λ n h.
        let read = rw is at c.get_one.ensures.value t some in
        let same : h.0 ≡ t = same_Some _ _ (sym h.1 ∙ (sym rows_are ∙ some)) in
        let numeral = rw same at h.2.0 in
        let small = rw same at h.2.1 in
        read.1.0 (numeral, small)
    go (Some t) some (Some m) is = tt
