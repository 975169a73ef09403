-- The light of a world is one.
use Rattle.std.proofs.Common.{◌≡◌, ◌∙◌, ℕ, suc, ◌+◌, ◌*◌, ◌<◌, ◌≤◌, ◌/◌, ◌%◌, ◌==◌, ◌⊎◌, inl, inr, ℤ, List, [], ◌∷◌, length, true, cond, refl, ap, sym, arith}
use Rattle.std.specs.Prelude.{slice_index}
use Rattle.std.proofs.lemmas.Bool.{and_from}
use Rattle.av_types.specs.Division.{divided}
use Rattle.av_types.specs.Positions.{chunk_of, place_of, is_section_of}
use Rattle.av_types.specs.declared.position.Pos.{Pos}
use Rattle.av_types.specs.declared.position.ChunkPos.{ChunkPos}
use Rattle.av_pack.specs.Nibbles.{nibble_at}
use Rattle.av_state.specs.BlockState.{BlockState}
use Rattle.av_rules.specs.Rows.{BlockTable}
use Rattle.av_document.specs.Layout.{block_at}
use Rattle.av_document.proofs.Positions.{divided-coordinate, place-of_block}
use Rattle.av_land.specs.Land.{Land, has_chunk, is_loaded}
use Rattle.av_files.specs.Layout.{Lights}
use Rattle.av_flood.specs.Light.{Terrain, IsLight, HasLight}
use Rattle.av_files.specs.Light.{IsLit, terrain_by}

least_of : (a b : ℕ) (x : (a ≡ 0) ⊎ (a ≤ b)) → a ≤ b
least_of a b (inl e) = omega arith
least_of a b (inr e) = e

at_most : (g : Terrain) (p : Pos) (a b : ℕ) → IsLight g p a → IsLight g p b → a ≤ b
at_most g p a b x y = by x.comes where
  by : ((a ≡ 0) ⊎ HasLight g p a) → a ≤ b
  by (inl e) = omega arith
  by (inr r) = let m = y.most r.from r.over r.path in let e = r.brings in omega arith

light_once : (g : Terrain) (p : Pos) (a b : ℕ) → IsLight g p a → IsLight g p b → a ≡ b
light_once g p a b x y = let l = at_most g p a b x y in let m = at_most g p b a y x in omega arith

same_list : (xs ys : List ℕ) → length xs ≡ length ys → ((i : ℕ) → i < length xs → slice_index xs i ≡ slice_index ys i) → xs ≡ ys
same_list [] [] e h = refl
same_list [] (y ∷ ys) e h = absurd (let f : 0 ≡ suc (length ys) = e in omega arith)
same_list (x ∷ xs) [] e h = absurd (let f : suc (length xs) ≡ 0 = e in omega arith)
same_list (x ∷ xs) (y ∷ ys) e h =
    let n : length xs ≡ length ys = let f : suc (length xs) ≡ suc (length ys) = e in omega arith in
    let first : x ≡ y = h 0 (omega arith) in
    let rest = same_list xs ys n (λ i less. h (suc i) (omega arith)) in
    λ i. first i ∷ rest i

low : (bytes : List ℕ) (j : ℕ) → nibble_at bytes (2 * j) ≡ slice_index bytes j % 16
unfolding nibble_at
low bytes j =
    let a : 2 * j / 2 ≡ j = omega arith in
    let b : 2 * j % 2 ≡ 0 = omega arith in
    ap (λ n. cond (2 * j % 2 == 0) (slice_index bytes n % 16) (slice_index bytes n / 16)) a ∙ ap (λ n. cond (n == 0) (slice_index bytes j % 16) (slice_index bytes j / 16)) b

high : (bytes : List ℕ) (j : ℕ) → nibble_at bytes (2 * j + 1) ≡ slice_index bytes j / 16
unfolding nibble_at
high bytes j =
    let a : (2 * j + 1) / 2 ≡ j = omega arith in
    let b : (2 * j + 1) % 2 ≡ 1 = omega arith in
    ap (λ n. cond ((2 * j + 1) % 2 == 0) (slice_index bytes n % 16) (slice_index bytes n / 16)) a ∙ ap (λ n. cond (n == 0) (slice_index bytes j % 16) (slice_index bytes j / 16)) b

same_byte : (m n : ℕ) → m % 16 ≡ n % 16 → m / 16 ≡ n / 16 → m ≡ n
same_byte m n a b = omega arith

same_nibble : (t : BlockTable) (w : Land BlockState) (l m : Lights) → IsLit t w l → IsLit t w m → (c : ChunkPos) → has_chunk w.chunks c ≡ true → (y : ℤ) → is_section_of w.height y ≡ true → (i : ℕ) → i < 4096
    → nibble_at (l c y) i ≡ nibble_at (m c y) i
same_nibble t w l m a b c is y inside i less =
    let p = block_at c y i in
    let x : divided p.x 16 ≡ c.x = divided-coordinate c.x (i % 16) (omega arith) in
    let z : divided p.z 16 ≡ c.z = divided-coordinate c.z (i / 16 % 16) (omega arith) in
    let v : divided p.y 16 ≡ y = divided-coordinate y (i / 256) (omega arith) in
    let at : chunk_of p ≡ c = λ j. record { x = x j; z = z j } in
    let there : is_loaded w p ≡ true = and_from _ _ (ap (has_chunk w.chunks) at ∙ is) (ap (is_section_of w.height) v ∙ inside) in
    let e = light_once (terrain_by t w) p (nibble_at (l (chunk_of p) (divided p.y 16)) (place_of p)) (nibble_at (m (chunk_of p) (divided p.y 16)) (place_of p)) (a.blocks p there) (b.blocks p there) in
    let go : (k : Lights) → nibble_at (k (chunk_of p) (divided p.y 16)) (place_of p) ≡ nibble_at (k c y) i = λ k j. nibble_at (k (at j) (v j)) (place-of_block c y i less j) in
    sym (go l) ∙ e ∙ go m

pub same_light : (t : BlockTable) (w : Land BlockState) (l m : Lights) → IsLit t w l → IsLit t w m → (c : ChunkPos) → has_chunk w.chunks c ≡ true → (y : ℤ) → is_section_of w.height y ≡ true → l c y ≡ m c y
same_light t w l m a b c is y inside =
    same_list (l c y) (m c y) (a.bytes c y inside ∙ sym (b.bytes c y inside)) (λ j less.
    let n : j < 2048 = rw (sym (a.bytes c y inside)) less in
    same_byte (slice_index (l c y) j) (slice_index (m c y) j)
    (sym (low (l c y) j) ∙ same_nibble t w l m a b c is y inside (2 * j) (omega arith) ∙ low (m c y) j)
    (sym (high (l c y) j) ∙ same_nibble t w l m a b c is y inside (2 * j + 1) (omega arith) ∙ high (m c y) j))
