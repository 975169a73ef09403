-- The loops of reading: one more field after those that were read.
use Rattle.std.proofs.Common.{◌≡◌, flat_map, length, get_or, drop, drop-cons, add-one, ℕ, suc, ◌+◌, ◌-◌, ◌<◌, List, [], ◌∷◌, ◌++◌, Option, Some, None, Result, Ok, Err, refl, sym, ap, ◌∙◌, append_assoc, append-nil, arith, true, false}
use Rattle.std.specs.Prelude.{IsErrAnd}
use Rattle.av_types.specs.declared.fault.Fault.{Fault}
use Rattle.av_types.specs.declared.fault.Fault.TheVariants.{OutOfMemory, BadNbt}
use Rattle.av_tags.specs.declared.tag.TagType.{TagType}
use Rattle.av_tags.specs.TagTypes.{is_end}
use Rattle.av_tags.specs.Nbt.{NamedTag}
use Rattle.av_types.specs.Options.{◌>>=◌}
use Rattle.av_nbt.specs.Appending.{Writes}
use Rattle.av_nbt.specs.Reading.{Fails, Gives, Field, Reader, type_at, named_at, repeat_at, until_end, with_front}

-- a fault of a step is a fault of the whole
pub fails_whole : {A B : Type 0} (e : Fault) (step : Option A) (whole : Option B) → (step ≡ None → whole ≡ None) → Fails e step → Fails e whole
fails_whole OutOfMemory step whole passes h = tt
fails_whole BadNbt step whole passes h = passes h
fails_whole _ step whole passes h = absurd h

-- a fault that is passed on
pub gives_err : {X Y : Type 0} (view : X → Y) (r : Result X Fault) (e : Fault) (whole : Option Y) → IsErrAnd r (λ f. f ≡ e) → Fails e whole → Gives view r whole
gives_err view (Ok x) e whole is h = absurd is
gives_err view (Err f) e whole is h = rw is h

-- a field moves from those that are left to those that were read
front_moves : {X : Type 0} (xs : List X) (x : X) (others : Field (List X)) → with_front (xs ++ x ∷ []) others ≡ with_front xs (others >>= λ f. Some (x ∷ f.0, f.1))
front_moves xs x None = refl
front_moves xs x (Some f) = ap (λ ys. Some (ys, f.1)) (append_assoc xs (x ∷ []) f.0)

module _ {X : Type 0} (read : List ℕ → Field X) where
  repeat_next : (n : ℕ) (rest after : List ℕ) (x : X) → read rest ≡ Some (x, after) → repeat_at read (suc n) rest ≡ (repeat_at read n after >>= λ f. Some (x ∷ f.0, f.1))
  repeat_next n rest after x step = rw step refl

  repeat_none : (n : ℕ) (rest : List ℕ) → read rest ≡ None → repeat_at read (suc n) rest ≡ None
  repeat_none n rest step = rw step refl

  module _ (xs : List X) (count i : ℕ) (rest : List ℕ) (whole : Field (List X)) where
    pub repeat_more : (after : List ℕ) (x : X) → i < count → read rest ≡ Some (x, after) → with_front xs (repeat_at read (count - i) rest) ≡ whole
        → with_front (xs ++ x ∷ []) (repeat_at read (count - (i + 1)) after) ≡ whole
    repeat_more after x more step so_far =
        let left : suc (count - (i + 1)) ≡ count - i = omega arith in
        front_moves xs x (repeat_at read (count - (i + 1)) after) ∙ ap (λ o. with_front xs o) (sym (repeat_next (count - (i + 1)) rest after x step))
        ∙ ap (λ n. with_front xs (repeat_at read n rest)) left ∙ so_far

    pub repeat_stops : i < count → with_front xs (repeat_at read (count - i) rest) ≡ whole → read rest ≡ None → whole ≡ None
    repeat_stops more so_far step =
        let left : count - i ≡ suc (count - (i + 1)) = omega arith in
        sym so_far ∙ ap (λ n. with_front xs (repeat_at read n rest)) left ∙ ap (λ o. with_front xs o) (repeat_none (count - (i + 1)) rest step)

module _ (read : Reader) where
  until_next : (n : ℕ) (rest after next : List ℕ) (k : TagType) (m : NamedTag) → type_at rest ≡ Some (k, after) → is_end k ≡ false → named_at read k after ≡ Some (m, next)
      → until_end read (suc n) rest ≡ (until_end read n next >>= λ f. Some (m ∷ f.0, f.1))
  until_next n rest after next k m tag_type more tag = rw (tag_type, more, tag) refl

  until_last : (n : ℕ) (rest after : List ℕ) (k : TagType) → type_at rest ≡ Some (k, after) → is_end k ≡ true → until_end read (suc n) rest ≡ Some ([], after)
  until_last n rest after k tag_type ends = rw (tag_type, ends) refl

  until_no_type : (n : ℕ) (rest : List ℕ) → type_at rest ≡ None → until_end read (suc n) rest ≡ None
  until_no_type n rest tag_type = rw tag_type refl

  until_no_tag : (n : ℕ) (rest after : List ℕ) (k : TagType) → type_at rest ≡ Some (k, after) → is_end k ≡ false → named_at read k after ≡ None → until_end read (suc n) rest ≡ None
  until_no_tag n rest after k tag_type more tag = rw (tag_type, more, tag) refl

  module _ (xs : List NamedTag) (count i : ℕ) (rest : List ℕ) (whole : Field (List NamedTag)) (more : i < count) (so_far : with_front xs (until_end read (count - i) rest) ≡ whole) where
    opened : (o : Field (List NamedTag)) → until_end read (suc (count - (i + 1))) rest ≡ o → with_front xs o ≡ whole
    opened o is =
        let left : suc (count - (i + 1)) ≡ count - i = omega arith in
        ap (λ f. with_front xs f) (sym is) ∙ ap (λ n. with_front xs (until_end read n rest)) left ∙ so_far

    pub named_more : (after next : List ℕ) (k : TagType) (m : NamedTag) → type_at rest ≡ Some (k, after) → is_end k ≡ false → named_at read k after ≡ Some (m, next)
        → with_front (xs ++ m ∷ []) (until_end read (count - (i + 1)) next) ≡ whole
    named_more after next k m tag_type going tag =
        front_moves xs m (until_end read (count - (i + 1)) next) ∙ opened (until_end read (count - (i + 1)) next >>= λ f. Some (m ∷ f.0, f.1)) (until_next (count - (i + 1)) rest after next k m tag_type going tag)

    pub named_end : (after : List ℕ) (k : TagType) → type_at rest ≡ Some (k, after) → is_end k ≡ true → whole ≡ Some (xs, after)
    named_end after k tag_type ends = sym (opened (Some ([], after)) (until_last (count - (i + 1)) rest after k tag_type ends)) ∙ ap (λ ys. Some (ys, after)) (append-nil xs)

    pub named_no_type : type_at rest ≡ None → whole ≡ None
    named_no_type tag_type = sym (opened None (until_no_type (count - (i + 1)) rest tag_type))

    pub named_no_tag : (after : List ℕ) (k : TagType) → type_at rest ≡ Some (k, after) → is_end k ≡ false → named_at read k after ≡ None → whole ≡ None
    named_no_tag after k tag_type going tag = sym (opened None (until_no_tag (count - (i + 1)) rest after k tag_type going tag))

-- a loop that writes: one more value behind those that were written
pub written_more : {X : Type 0} (f : X → List ℕ) (old new : List ℕ) (xs : List X) (i : ℕ) (x d : X) (whole : List ℕ) → i < length xs → x ≡ get_or xs i d → new ≡ old ++ f x
    → old ++ flat_map f (drop i xs) ≡ whole → new ++ flat_map f (drop (i + 1) xs) ≡ whole
written_more f old new xs i x d whole more is wrote so_far =
    let next : drop i xs ≡ x ∷ drop (i + 1) xs = drop-cons xs i d more ∙ ap (λ y. y ∷ drop (suc i) xs) (sym is) ∙ ap (λ n. x ∷ drop n xs) (sym (add-one i)) in
    ap (λ n. n ++ flat_map f (drop (i + 1) xs)) wrote ∙ append_assoc old (f x) (flat_map f (drop (i + 1) xs)) ∙ ap (λ ys. old ++ flat_map f ys) (sym next) ∙ so_far

-- bytes written after others that were written
pub writes_after : {E : Type 0} (r : Result (Unit {0}) E) (a b old mid new : List ℕ) → mid ≡ old ++ a → Writes r b mid new → Writes r (a ++ b) old new
writes_after (Ok done) a b old mid new e h = h ∙ ap (λ m. m ++ b) e ∙ append_assoc old a b
writes_after (Err lack) a b old mid new e h = tt
