-- What is spelled at the front of bytes is read from them, whatever follows: fields.
use Rattle.std.proofs.Common.{◌≡◌, ℕ, ℤ, pos, ◌*◌, ◌/◌, ◌<◌, ◌≤◌, ◌^◌, List, [], ◌∷◌, ◌++◌, length, map, take, drop, Some, refl, sym, ap, ◌∙◌, arith, append_assoc}
use Rattle.std.specs.Simd.{first_chunks}
use Rattle.std.specs.Int.{Width, w16, w32, byte_len, to_be_bytes, from_be_bytes, cast_signed, cast_unsigned}
use Rattle.std.proofs.Math.Seq.{take-append_seam, drop-append_seam}
use Rattle.std.proofs.Math.Nat.{mul-div_cancel}
use Rattle.std.proofs.Math.Facts.{to_z-of_z, Fits-lt-pow, Fits-of_z}
use Rattle.std.proofs.lemmas.Bool.{le-ltb}
use Rattle.std.proofs.lemmas.List.{length-append}
use mir.Val.{bits}
use Rattle.av_tags.specs.declared.tag.TagType.{TagType}
use Rattle.av_tags.specs.declared.tag.TagType.TheVariants as tag_type
use Rattle.av_tags.specs.TagTypes.{type_number}
use Rattle.av_nbt.specs.Spelling.{SpellsNumber, SpellsNumbers, SpellsBits, SpellsText, count_of}
use Rattle.av_nbt.specs.Reading.{Field, front_at, number_at, signed_at, type_at, text_at, length_at, list_length_at, bytes_at, numbers_at}
use Rattle.av_nbt.proofs.Bytes.{Codes, codes_16, codes_32}
use Rattle.av_nbt.proofs.Taken.{SpellsByteArray, SpellsArray}

-- A reader reads each value again from its spelling.
abbrev pub ReadsAgain : {X : Type 0} → (List ℕ → Field X) → (X → List ℕ → Type 0) → Type 0
ReadsAgain {X} read P = (x : X) (front rest : List ℕ) → P x front → read (front ++ rest) ≡ Some (x, rest)

pub front_again : (n : ℕ) (f rest : List ℕ) → length f ≡ n → front_at n (f ++ rest) ≡ Some (f, rest)
unfolding front_at
front_again n f rest e =
    let enough : n ≤ length (f ++ rest) = simp length-append (omega arith) in
    rw (le-ltb (length (f ++ rest)) n enough, ← e, take-append_seam, drop-append_seam) refl

pub number_again : (w : Width) → Codes w → ReadsAgain (number_at w) (SpellsBits w)
unfolding number_at
number_again w codes n front rest (small, is) =
    let size = ap length is ∙ codes.size n in
    rw (front_again (byte_len w) front rest size, is, codes.reads_back n small) refl

pub signed_again : (w : Width) → Codes w → ReadsAgain (signed_at w) (SpellsNumber w)
unfolding signed_at
signed_again w codes z front rest h =
    let small : cast_unsigned w z < 2 ^ bits w = Fits-lt-pow (Fits-of_z h.fits) in
    rw (number_again w codes (cast_unsigned w z) front rest (small, h.is), to_z-of_z h.fits) refl

pub type_again : (k : TagType) (rest : List ℕ) → type_at (type_number k ∷ rest) ≡ Some (k, rest)
unfolding type_at
type_again tag_type.End rest = refl
type_again tag_type.Byte rest = refl
type_again tag_type.Short rest = refl
type_again tag_type.Int rest = refl
type_again tag_type.Long rest = refl
type_again tag_type.Float rest = refl
type_again tag_type.Double rest = refl
type_again tag_type.ByteArray rest = refl
type_again tag_type.Text rest = refl
type_again tag_type.List rest = refl
type_again tag_type.Compound rest = refl
type_again tag_type.IntArray rest = refl
type_again tag_type.LongArray rest = refl

pub text_again : ReadsAgain text_at SpellsText
unfolding text_at
text_again s front rest h =
    let len = to_be_bytes w16 (length s) in
    let split : front ++ rest ≡ len ++ (s ++ rest) = ap (λ f. f ++ rest) h.is ∙ append_assoc len s rest in
    rw (split, number_again w16 codes_16 (length s) len (s ++ rest) (h.short, refl)) (front_again (length s) s rest refl)

pub length_again : ReadsAgain length_at (λ n. SpellsNumber w32 (pos n))
unfolding length_at
length_again n front rest h = rw (signed_again w32 codes_32 (pos n) front rest h) refl

pub list_length_again : (size : ℤ) (front rest : List ℕ) → SpellsNumber w32 size front → list_length_at (front ++ rest) ≡ Some (count_of size, rest)
unfolding list_length_at
list_length_again size front rest h = rw (signed_again w32 codes_32 size front rest h) refl

pub bytes_again : ReadsAgain bytes_at SpellsByteArray
unfolding bytes_at
bytes_again s front rest (len, parts, h) =
    let split : front ++ rest ≡ len ++ (s ++ rest) = ap (λ f. f ++ rest) parts ∙ append_assoc len s rest in
    rw (split, length_again (length s) len (s ++ rest) h) (front_again (length s) s rest refl)

-- numbers are read again from their bytes, and these are so many
numbers_read : (w : Width) → Codes w → (zs : List ℤ) (bs : List ℕ) → SpellsNumbers w zs bs
    → (length bs ≡ length zs * byte_len w) × (map (λ b. cast_signed w (from_be_bytes w b)) (first_chunks (byte_len w) (length zs) bs) ≡ zs)
numbers_read w codes [] bs h = (omega (arith, ap length h), refl)
numbers_read w codes (z ∷ zs) bs (front, rest, parts, first, h) =
    let n = cast_unsigned w z in
    let k = byte_len w in
    let small : n < 2 ^ bits w = Fits-lt-pow (Fits-of_z first.fits) in
    let size : length front ≡ byte_len w = ap length first.is ∙ codes.size n in
    let others = numbers_read w codes zs rest h in
    let sum = ap length parts ∙ length-append front rest in
    let taken : take k bs ≡ front = ap (λ b. take k b) parts ∙ ap (λ m. take m (front ++ rest)) (sym size) ∙ take-append_seam front rest in
    let left : drop k bs ≡ rest = ap (λ b. drop k b) parts ∙ ap (λ m. drop m (front ++ rest)) (sym size) ∙ drop-append_seam front rest in
    let value : cast_signed w (from_be_bytes w front) ≡ z = ap (λ f. cast_signed w (from_be_bytes w f)) first.is ∙ ap (λ m. cast_signed w m) (codes.reads_back n small) ∙ to_z-of_z first.fits in
    (omega (arith, sum, size, others.0), rw (taken, left, value, others.1) refl)

pub numbers_again : (w : Width) → Codes w → 0 < byte_len w → ReadsAgain (numbers_at w) (SpellsArray w)
unfolding numbers_at
numbers_again w codes some zs front rest (len, body, parts, size, h) =
    let split : front ++ rest ≡ len ++ (body ++ rest) = ap (λ f. f ++ rest) parts ∙ append_assoc len body rest in
    let read = numbers_read w codes zs body h in
    let count : length body / byte_len w ≡ length zs = ap (λ m. m / byte_len w) read.0 ∙ mul-div_cancel (length zs) some in
    rw (split, length_again (length zs) len (body ++ rest) size, front_again (length zs * byte_len w) body rest read.0, count, read.1) refl
