-- What is read from the front of bytes is spelled by the bytes that it takes: fields.
use Rattle.std.proofs.Common.{◌≡◌, ℕ, ℤ, pos, negsuc, zero, suc, ◌*◌, ◌/◌, ◌<◌, ◌≤◌, ◌^◌, List, [], ◌∷◌, ◌++◌, length, map, take, drop, Option, Some, None, Bool, true, false, refl, sym, ap, ◌∙◌, subst, arith, append_assoc}
use Rattle.std.specs.Prelude.{nat_lt, if◌then◌else◌}
use Rattle.std.proofs.lemmas.List.{take-append-drop, length-take-le, length-drop, nil_from_length}
use Rattle.std.proofs.lemmas.Bool.{ltb-false}
use Rattle.std.proofs.Math.Nat.{mul-div_cancel}
use Rattle.std.proofs.Math.Facts.{of_z-to_z, sfits_to_z, Fits-of_lt}
use Rattle.std.specs.Simd.{first_chunks}
use Rattle.std.specs.Int.{Width, w16, w32, byte_len, to_be_bytes, from_be_bytes, cast_signed}
use Rattle.av_tags.specs.declared.tag.TagType.{TagType}
use Rattle.av_tags.specs.declared.tag.TagType.TheVariants as tag_type
use Rattle.av_tags.specs.TagTypes.{type_number, type_from}
use Rattle.av_types.specs.Options.{◌>>=◌}
use Rattle.av_nbt.specs.Spelling.{SpellsNumber, SpellsNumbers, SpellsBits, SpellsText, count_of}
use Rattle.av_nbt.specs.Reading.{Field, front_at, number_at, signed_at, type_at, text_at, length_from, length_at, list_length_at, bytes_at, signed_in, numbers_at}
use Rattle.av_nbt.proofs.Bytes.{AreBytes, Codes, codes_16, codes_32, bytes_left, bytes_right}

-- the bytes that were taken from the front, and what holds of them
pub record Took (P : List ℕ → Type 0) (bytes rest : List ℕ) : Type 0 where
  pub front : List ℕ
  pub parts : bytes ≡ front ++ rest
  pub holds : P front

-- A reader takes bytes of which P holds.
abbrev pub Takes : {X : Type 0} → (List ℕ → Field X) → (X → List ℕ → Type 0) → Type 0
Takes {X} read P = (bytes rest : List ℕ) (x : X) → AreBytes bytes → read bytes ≡ Some (x, rest) → Took (P x) bytes rest

-- both steps of a chain
pub record Chained {A B : Type 0} (o : Option A) (f : A → Option B) (y : B) : Type 0 where
  pub value : A
  pub first : o ≡ Some value
  pub then_rest : f value ≡ Some y

pub chained : {A B : Type 0} (o : Option A) (f : A → Option B) (y : B) → (o >>= f) ≡ Some y → Chained o f y
chained None f y e = cc
chained (Some a) f y e = record { value = a; first = refl; then_rest = e }

-- one field is another
pub same_value : {A : Type 0} (p : A × List ℕ) (x : A) (rest : List ℕ) → Some p ≡ Some (x, rest) → p.0 ≡ x
same_value p x rest e = ap (λ o. elim o [ None ↦ x | Some q ↦ q.0 ]) e

pub same_rest : {A : Type 0} (p : A × List ℕ) (x : A) (rest : List ℕ) → Some p ≡ Some (x, rest) → p.1 ≡ rest
same_rest p x rest e = ap (λ o. elim o [ None ↦ rest | Some q ↦ q.1 ]) e

pub took_bytes : (bytes front rest : List ℕ) → AreBytes bytes → bytes ≡ front ++ rest → AreBytes front × AreBytes rest
took_bytes bytes front rest h e = let both : AreBytes (front ++ rest) = subst AreBytes e h in (bytes_left front rest both, bytes_right front rest both)

-- a test that was passed
passed : (b : Bool) (p q : List ℕ × List ℕ) → ◌≡◌ {A = Field (List ℕ)} (if b then None else Some p) (Some q) → (b ≡ false) × (◌≡◌ {A = Field (List ℕ)} (Some p) (Some q))
passed true p q e = cc
passed false p q e = (refl, e)

pub front_taken : (n : ℕ) (bytes rest f : List ℕ) → front_at n bytes ≡ Some (f, rest) → (bytes ≡ f ++ rest) × (length f ≡ n)
unfolding front_at
front_taken n bytes rest f e =
    let enough = passed (nat_lt (length bytes) n) (take n bytes, drop n bytes) (f, rest) e in
    let first = same_value (take n bytes, drop n bytes) f rest enough.1 in
    let last = same_rest (take n bytes, drop n bytes) f rest enough.1 in
    (sym (take-append-drop n bytes) ∙ ap (λ x. x ++ drop n bytes) first ∙ ap (λ y. f ++ y) last, ap length (sym first) ∙ length-take-le n bytes (ltb-false (length bytes) n enough.0))

-- the number that so many bytes are
number_in : (w : Width) → Codes w → (f : List ℕ) → length f ≡ byte_len w → AreBytes f → SpellsNumber w (cast_signed w (from_be_bytes w f)) f
number_in w codes f e h =
    let fits = Fits-of_lt (codes.fits f h) in
    record { fits = sfits_to_z fits; is = sym (codes.writes_back f e h) ∙ ap (λ m. to_be_bytes w m) (sym (of_z-to_z fits)) }

pub number_taken : (w : Width) → Codes w → Takes (number_at w) (SpellsBits w)
unfolding number_at
number_taken w codes bytes rest n h e =
    let step = chained (front_at (byte_len w) bytes) (λ f. Some (from_be_bytes w f.0, f.1)) (n, rest) e in
    let f = step.value.0 in
    let value = same_value (from_be_bytes w f, step.value.1) n rest step.then_rest in
    let left = same_rest (from_be_bytes w f, step.value.1) n rest step.then_rest in
    let taken = front_taken (byte_len w) bytes step.value.1 f step.first in
    let are = took_bytes bytes f step.value.1 h taken.0 in
    record {
      front = f;
      parts = taken.0 ∙ ap (λ r. f ++ r) left;
      holds = subst (λ m. SpellsBits w m f) value (codes.fits f are.0, sym (codes.writes_back f taken.1 are.0));
    }

pub signed_taken : (w : Width) → Codes w → Takes (signed_at w) (SpellsNumber w)
unfolding signed_at
signed_taken w codes bytes rest z h e =
    let step = chained (number_at w bytes) (λ n. Some (cast_signed w n.0, n.1)) (z, rest) e in
    let n = step.value.0 in
    let value = same_value (cast_signed w n, step.value.1) z rest step.then_rest in
    let left = same_rest (cast_signed w n, step.value.1) z rest step.then_rest in
    let taken = number_taken w codes bytes step.value.1 n h step.first in
    let fits = Fits-of_lt taken.holds.0 in
    record {
      front = taken.front;
      parts = taken.parts ∙ ap (λ r. taken.front ++ r) left;
      holds = subst (λ m. SpellsNumber w m taken.front) value (record { fits = sfits_to_z fits; is = taken.holds.1 ∙ ap (λ m. to_be_bytes w m) (sym (of_z-to_z fits)) });
    }

type_of_number : (b : ℕ) (k : TagType) → type_from b ≡ Some k → type_number k ≡ b
type_of_number zero k e = let is : k ≡ tag_type.End = cc in rw is refl
type_of_number (suc zero) k e = let is : k ≡ tag_type.Byte = cc in rw is refl
type_of_number (suc (suc zero)) k e = let is : k ≡ tag_type.Short = cc in rw is refl
type_of_number (suc (suc (suc zero))) k e = let is : k ≡ tag_type.Int = cc in rw is refl
type_of_number (suc (suc (suc (suc zero)))) k e = let is : k ≡ tag_type.Long = cc in rw is refl
type_of_number (suc (suc (suc (suc (suc zero))))) k e = let is : k ≡ tag_type.Float = cc in rw is refl
type_of_number (suc (suc (suc (suc (suc (suc zero)))))) k e = let is : k ≡ tag_type.Double = cc in rw is refl
type_of_number (suc (suc (suc (suc (suc (suc (suc zero))))))) k e = let is : k ≡ tag_type.ByteArray = cc in rw is refl
type_of_number (suc (suc (suc (suc (suc (suc (suc (suc zero)))))))) k e = let is : k ≡ tag_type.Text = cc in rw is refl
type_of_number (suc (suc (suc (suc (suc (suc (suc (suc (suc zero))))))))) k e = let is : k ≡ tag_type.List = cc in rw is refl
type_of_number (suc (suc (suc (suc (suc (suc (suc (suc (suc (suc zero)))))))))) k e = let is : k ≡ tag_type.Compound = cc in rw is refl
type_of_number (suc (suc (suc (suc (suc (suc (suc (suc (suc (suc (suc zero))))))))))) k e = let is : k ≡ tag_type.IntArray = cc in rw is refl
type_of_number (suc (suc (suc (suc (suc (suc (suc (suc (suc (suc (suc (suc zero)))))))))))) k e = let is : k ≡ tag_type.LongArray = cc in rw is refl
type_of_number (suc (suc (suc (suc (suc (suc (suc (suc (suc (suc (suc (suc (suc b))))))))))))) k e = cc

pub type_taken : (bytes rest : List ℕ) (k : TagType) → type_at bytes ≡ Some (k, rest) → bytes ≡ type_number k ∷ rest
unfolding type_at
type_taken [] rest k e = cc
type_taken (b ∷ bs) rest k e =
    let step = chained (type_from b) (λ j. Some (j, bs)) (k, rest) e in
    let value = same_value (step.value, bs) k rest step.then_rest in
    let left = same_rest (step.value, bs) k rest step.then_rest in
    let is = type_of_number b step.value step.first in
    ap (λ r. b ∷ r) left ∙ ap (λ c. c ∷ rest) (sym is ∙ ap type_number value)

pub text_taken : Takes text_at SpellsText
unfolding text_at
text_taken bytes rest s h e =
    let step = chained (number_at w16 bytes) (λ n. front_at n.0 n.1) (s, rest) e in
    let length_taken = number_taken w16 codes_16 bytes step.value.1 step.value.0 h step.first in
    let taken = front_taken step.value.0 step.value.1 rest s step.then_rest in
    record {
      front = length_taken.front ++ s;
      parts = length_taken.parts ∙ ap (λ r. length_taken.front ++ r) taken.0 ∙ sym (append_assoc length_taken.front s rest);
      holds = record {
        short = subst (λ m. m < 2 ^ 16) (sym taken.1) length_taken.holds.0;
        is = ap (λ f. f ++ s) (length_taken.holds.1 ∙ ap (λ m. to_be_bytes w16 m) (sym taken.1));
      };
    }

length_is_pos : (z : ℤ) (n : ℕ) → length_from z ≡ Some n → z ≡ pos n
length_is_pos (pos m) n e = let is : m ≡ n = cc in ap pos is
length_is_pos (negsuc m) n e = cc

pub length_taken : Takes length_at (λ n. SpellsNumber w32 (pos n))
unfolding length_at
length_taken bytes rest n h e =
    let step = chained (signed_at w32 bytes) (λ z. length_from z.0 >>= λ m. Some (m, z.1)) (n, rest) e in
    let last = chained (length_from step.value.0) (λ m. Some (m, step.value.1)) (n, rest) step.then_rest in
    let taken = signed_taken w32 codes_32 bytes step.value.1 step.value.0 h step.first in
    let value = length_is_pos step.value.0 last.value last.first ∙ ap pos (same_value (last.value, step.value.1) n rest last.then_rest) in
    record {
      front = taken.front;
      parts = taken.parts ∙ ap (λ r. taken.front ++ r) (same_rest (last.value, step.value.1) n rest last.then_rest);
      holds = subst (λ z. SpellsNumber w32 z taken.front) value taken.holds;
    }

-- a List's length, of which a negative one stands for 0
abbrev pub SpellsCount : ℕ → List ℕ → Type 0
SpellsCount n bytes = (size : ℤ) × SpellsNumber w32 size bytes × (count_of size ≡ n)

pub list_length_taken : Takes list_length_at SpellsCount
unfolding list_length_at
list_length_taken bytes rest n h e =
    let step = chained (signed_at w32 bytes) (λ z. Some (count_of z.0, z.1)) (n, rest) e in
    let taken = signed_taken w32 codes_32 bytes step.value.1 step.value.0 h step.first in
    record {
      front = taken.front;
      parts = taken.parts ∙ ap (λ r. taken.front ++ r) (same_rest (count_of step.value.0, step.value.1) n rest step.then_rest);
      holds = (step.value.0, taken.holds, same_value (count_of step.value.0, step.value.1) n rest step.then_rest);
    }

-- an array of bytes, and one of signed numbers
abbrev pub SpellsByteArray : List ℕ → List ℕ → Type 0
SpellsByteArray s bytes = (len : List ℕ) × (bytes ≡ len ++ s) × SpellsNumber w32 (pos (length s)) len

abbrev pub SpellsArray : Width → List ℤ → List ℕ → Type 0
SpellsArray w zs bytes = (len rest : List ℕ) × (bytes ≡ len ++ rest) × SpellsNumber w32 (pos (length zs)) len × SpellsNumbers w zs rest

pub bytes_taken : Takes bytes_at SpellsByteArray
unfolding bytes_at
bytes_taken bytes rest s h e =
    let step = chained (length_at bytes) (λ n. front_at n.0 n.1) (s, rest) e in
    let len = length_taken bytes step.value.1 step.value.0 h step.first in
    let taken = front_taken step.value.0 step.value.1 rest s step.then_rest in
    record {
      front = len.front ++ s;
      parts = len.parts ∙ ap (λ r. len.front ++ r) taken.0 ∙ sym (append_assoc len.front s rest);
      holds = (len.front, refl, subst (λ m. SpellsNumber w32 (pos m) len.front) (sym taken.1) len.holds);
    }

-- the numbers that stand one after the other, and how many they are
numbers_in : (w : Width) → Codes w → (n : ℕ) (bs : List ℕ) → length bs ≡ n * byte_len w → AreBytes bs
    → SpellsNumbers w (map (λ b. cast_signed w (from_be_bytes w b)) (first_chunks (byte_len w) n bs)) bs × (length (map (λ b. cast_signed w (from_be_bytes w b)) (first_chunks (byte_len w) n bs)) ≡ n)
numbers_in w codes zero bs e h = (nil_from_length bs (omega (arith, e)), refl)
numbers_in w codes (suc n) bs e h =
    let k = byte_len w in
    let enough : k ≤ length bs = omega (arith, e) in
    let split = sym (take-append-drop k bs) in
    let are = took_bytes bs (take k bs) (drop k bs) h split in
    let left : length (drop k bs) ≡ n * byte_len w = length-drop k bs ∙ omega (arith, e) in
    let others = numbers_in w codes n (drop k bs) left are.1 in
    ((take k bs, drop k bs, split, number_in w codes (take k bs) (length-take-le k bs enough) are.0, others.0), ap suc others.1)

pub numbers_taken : (w : Width) → Codes w → 0 < byte_len w → Takes (numbers_at w) (SpellsArray w)
unfolding numbers_at
numbers_taken w codes some bytes rest zs h e =
    let step = chained (length_at bytes) (λ n. front_at (n.0 * byte_len w) n.1 >>= λ f. Some (signed_in w f.0, f.1)) (zs, rest) e in
    let n = step.value.0 in
    let len = length_taken bytes step.value.1 n h step.first in
    let last = chained (front_at (n * byte_len w) step.value.1) (λ f. Some (signed_in w f.0, f.1)) (zs, rest) step.then_rest in
    let f = last.value.0 in
    let taken = front_taken (n * byte_len w) step.value.1 last.value.1 f last.first in
    let are = took_bytes step.value.1 f last.value.1 (took_bytes bytes len.front step.value.1 h len.parts).1 taken.0 in
    let count : length f / byte_len w ≡ n = ap (λ m. m / byte_len w) taken.1 ∙ mul-div_cancel n some in
    let numbers = numbers_in w codes n f taken.1 are.0 in
    let value = ap (λ m. map (λ b. cast_signed w (from_be_bytes w b)) (first_chunks (byte_len w) m f)) (sym count) ∙ same_value (signed_in w f, last.value.1) zs rest last.then_rest in
    record {
      front = len.front ++ f;
      parts = len.parts ∙ ap (λ r. len.front ++ r) (taken.0 ∙ ap (λ r. f ++ r) (same_rest (signed_in w f, last.value.1) zs rest last.then_rest)) ∙ sym (append_assoc len.front f rest);
      holds = (len.front, f, refl, subst (λ m. SpellsNumber w32 (pos m) len.front) (sym numbers.1 ∙ ap length value) len.holds, subst (λ xs. SpellsNumbers w xs f) value numbers.0);
    }
