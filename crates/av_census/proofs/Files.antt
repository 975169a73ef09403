-- The blocks of regions and files, counted one after the other.
use Rattle.std.proofs.Common.{◌≡◌, ℕ, suc, ◌+◌, ◌*◌, ◌^◌, ◌<◌, ◌≤◌, Bool, true, false, cond, List, [], ◌∷◌, ◌++◌, length, length-append, None, refl, sym, ap, ◌∙◌, subst, arith, append_assoc, Vec, Global}
use Rattle.std.specs.Prelude.{IfSome}
use Rattle.std.specs.BTreeMap.{BTreeMap, get, is_at, IsEmpty}
use Rattle.std.specs.Map.{lookup}
use Rattle.std.specs.Option.{unwrap_or}
use Rattle.std.proofs.lemmas.List.{append-nil}
use Rattle.av_types.specs.Positions.{chunk_at}
use Rattle.av_types.specs.declared.position.ChunkPos.{ChunkPos}
use Rattle.av_types.specs.declared.position.Height.{Height}
use Rattle.av_types.specs.declared.position.RegionPos.{RegionPos}
use Rattle.av_region.specs.Region.{IsShort}
use Rattle.av_state.specs.BlockState.{BlockState}
use Rattle.av_state.specs.States.{state_of}
use Rattle.av_state.specs.Table.{states}
use Rattle.av_state.specs.declared.table.StateTable.{StateTable}
use Rattle.av_state.specs.declared.state.State.{State}
use Rattle.av_types.specs.Order.{inserted, ordered}
use Rattle.std.specs.declared.cmp.Ordering.{Ordering}
use Rattle.std.specs.Ordering.{is_lt}
use Rattle.av_region_files.specs.declared.files.RegionFile.{RegionFile}
use Rattle.av_census.specs.Census.{state_order, times, HasBlocksAt, HasBlocksUpTo, HasBlocks, short, whole, HaveBlocks}
use Rattle.av_census.specs.Counting.{weighed, tallied, Tallies, HasRoom, IsCountOf, AreFew, IsAdded, IsCountedAt, TalliesAt, TalliesUpTo, TalliesFile, TalliesFiles}
use Rattle.av_census.specs.declared.counted.Counted.{Counted}
use Rattle.av_census.specs.declared.counted.Counted.TheVariants.{Nothing, Blocks, LeftOut}
use Rattle.av_census.proofs.Chunks.{times-le}
use Rattle.av_census.proofs.States.{tallies_same, tallies_then, tallies_as}
use Rattle.av_census.proofs.Weighing.{times-append}

-- how many are left out at an index
one_at_most : (counted : Counted) (blocks : List BlockState) (n : ℕ) → IsCountOf blocks n counted → n ≤ 1
one_at_most Nothing blocks n is = let e = is.1 in omega (arith, e)
one_at_most (Blocks table counts) blocks n is = let e = is.0 in omega (arith, e)
one_at_most LeftOut blocks n is = let e = is.1 in omega (arith, e)

pub added_nothing : (m : BTreeMap State ℕ) (blocks : List BlockState) (n : ℕ) → IsCountOf blocks n Nothing → IsAdded m m blocks n 0
added_nothing m blocks n is = record {
  answer = sym is.1;
  adds = subst (λ (xs : List BlockState). Tallies m m (λ s. times s xs)) (sym is.0) (tallies_same m (λ s. times s []) (λ s. refl));
}

pub added_left_out : (m : BTreeMap State ℕ) (blocks : List BlockState) (n : ℕ) → IsCountOf blocks n LeftOut → IsAdded m m blocks n 1
added_left_out m blocks n is = record {
  answer = sym is.1;
  adds = subst (λ (xs : List BlockState). Tallies m m (λ s. times s xs)) (sym is.0) (tallies_same m (λ s. times s []) (λ s. refl));
}

pub added_blocks : (old new : BTreeMap State ℕ) (blocks : List BlockState) (n : ℕ) (table : StateTable) (counts : Vec ℕ Global) → IsCountOf blocks n (Blocks table counts)
    → Tallies old new (λ s. weighed s (states table) counts.items) → IsAdded old new blocks n 0
added_blocks old new blocks n table counts is adds = record {
  answer = sym is.0;
  adds = tallies_as old new (λ s. weighed s (states table) counts.items) (λ s. times s blocks) adds is.2;
}

pub blocks_room : (old : BTreeMap State ℕ) (table : StateTable) (counts : Vec ℕ Global) → AreFew (Blocks table counts) → HasRoom old 262144
    → (s : State) → tallied old s + weighed (state_of s) (states table) counts.items < 2 ^ 64
blocks_room old table counts few room s =
    let most = few.1 (state_of s) in
    let free = room s in
    omega (arith, most, free)

pub tallies_index : (h : Height) (file : List ℕ) (c : ChunkPos) (index : ℕ) (old new : BTreeMap State ℕ) (counted : Counted) (left_out : ℕ) (i : IsCountedAt h file c index counted)
    → IsAdded old new i.blocks i.left_out left_out → TalliesAt h file c index old new left_out
tallies_index h file c index old new counted left_out i added = record {
  blocks = i.blocks;
  read = subst (HasBlocksAt h file c index i.blocks) (sym added.answer) i.read;
  adds = added.adds;
  few = i.few;
  one = subst (λ n. n ≤ 1) (sym added.answer) (one_at_most counted i.blocks i.left_out i.is);
}

-- ---- a region

pub region_none : (h : Height) (r : RegionPos) (file : List ℕ) (old : BTreeMap State ℕ) → TalliesUpTo h r file 0 old old 0
unfolding HasBlocksUpTo
region_none h r file old = record {
  blocks = [];
  read = (refl, refl);
  adds = tallies_same old (λ s. times s []) (λ s. refl);
  few = omega arith;
  some = omega arith;
}

pub region_next : (h : Height) (r : RegionPos) (file : List ℕ) (n : ℕ) (old now new : BTreeMap State ℕ) (left_out one all : ℕ) → TalliesUpTo h r file n old now left_out
    → TalliesAt h file (chunk_at r n) n now new one → all ≡ left_out + one → TalliesUpTo h r file (n + 1) old new all
unfolding HasBlocksUpTo
region_next h r file n old now new left_out one all before more is =
    let next : suc n ≡ n + 1 = omega arith in
    let joined = before.blocks ++ more.blocks in
    let read : HasBlocksUpTo h r file (suc n) joined all = (before.blocks, left_out, more.blocks, one, before.read, more.read, refl, is) in
    let long = length-append before.blocks more.blocks in
    let few = before.few in
    let few_more = more.few in
    let some = before.some in
    let one_more = more.one in
    record {
      blocks = joined;
      read = subst (λ k. HasBlocksUpTo h r file k joined all) next read;
      adds = tallies_then old now new (λ s. times s before.blocks) (λ s. times s more.blocks) (λ s. times s joined) before.adds more.adds (λ s. times-append s before.blocks more.blocks);
      few = omega (arith, long, few, few_more);
      some = omega (arith, some, one_more, is);
    }

-- there is room for one more index
pub region_room : (h : Height) (r : RegionPos) (file : List ℕ) (n : ℕ) (old now : BTreeMap State ℕ) (left_out : ℕ) → n < 1024 → HasRoom old 268435456 → TalliesUpTo h r file n old now left_out → HasRoom now 262144
region_room h r file n old now left_out low room before s =
    let is = before.adds.counts s in
    let most = times-le (state_of s) before.blocks (262144 * n) before.few in
    let free = room s in
    omega (arith, is, most, free, low)

-- ---- a file

pub file_short : (h : Height) (f : RegionFile) (old : BTreeMap State ℕ) → IsShort f.bytes.items → TalliesFile h f old old 1
file_short h f old is = record {
  blocks = [];
  read = short is refl refl;
  adds = tallies_same old (λ s. times s []) (λ s. refl);
  few = omega arith;
  some = omega arith;
}

pub file_whole : (h : Height) (f : RegionFile) (old new : BTreeMap State ℕ) (left_out : ℕ) → ¬ IsShort f.bytes.items → TalliesUpTo h f.pos f.bytes.items 1024 old new left_out → TalliesFile h f old new left_out
file_whole h f old new left_out is up =
    let few = up.few in
    record {
      blocks = up.blocks;
      read = whole is up.read;
      adds = up.adds;
      few = omega (arith, few);
      some = up.some;
    }

-- ---- files

empty_count : (m : BTreeMap State ℕ) (s : State) → IsEmpty m → get state_order m s ≡ None
empty_count m s e = ap (λ es. lookup (is_at (state_order s)) es) e

pub files_none : (h : Height) (m : BTreeMap State ℕ) → IsEmpty m → TalliesFiles h [] m 0
files_none h m e = record {
  blocks = [];
  read = (refl, refl);
  counts = λ s. ap (λ o. unwrap_or o 0) (empty_count m s e);
  sound = λ s. subst (λ o. IfSome o (λ n. 0 < n)) (sym (empty_count m s e)) tt;
  few = omega arith;
  some = omega arith;
}

have_more : (h : Height) (fs : List RegionFile) (f : RegionFile) (a b : List BlockState) (m n : ℕ) → HaveBlocks h fs a m → HasBlocks h f b n → HaveBlocks h (fs ++ f ∷ []) (a ++ b) (m + n)
have_more h [] f a b m n none one =
    let left : m + n ≡ n + 0 = omega (arith, none.1) in
    (b, n, [], 0, one, (refl, refl), ap (λ xs. xs ++ b) none.0 ∙ sym (append-nil b), left)
have_more h (g ∷ fs) f a b m n before one =
    let left : m + n ≡ before.1 + (before.3 + n) = omega (arith, before.7) in (
      before.0,
      before.1,
      before.2 ++ b,
      before.3 + n,
      before.4,
      have_more h fs f before.2 b before.3 n before.5 one,
      ap (λ xs. xs ++ b) before.6 ∙ append_assoc before.0 before.2 b,
      left,
    )

pub files_next : (h : Height) (fs : List RegionFile) (f : RegionFile) (now new : BTreeMap State ℕ) (left_out one all : ℕ) → TalliesFiles h fs now left_out → TalliesFile h f now new one → all ≡ left_out + one
    → TalliesFiles h (fs ++ f ∷ []) new all
files_next h fs f now new left_out one all before more is =
    let long = length-append before.blocks more.blocks in
    let count = length-append fs (f ∷ []) in
    let few = before.few in
    let few_more = more.few in
    let some = before.some in
    let some_more = more.some in
    record {
      blocks = before.blocks ++ more.blocks;
      read = subst (HaveBlocks h (fs ++ f ∷ []) (before.blocks ++ more.blocks)) (sym is) (have_more h fs f before.blocks more.blocks left_out one before.read more.read);
      counts = λ s. more.adds.counts s ∙ ap (λ n. n + times (state_of s) more.blocks) (before.counts s) ∙ sym (times-append (state_of s) before.blocks more.blocks);
      sound = more.adds.sound before.sound;
      few = omega (arith, long, count, few, few_more);
      some = omega (arith, count, some, some_more, is);
    }

-- there is room for one more file
pub files_room : (h : Height) (fs : List RegionFile) (now : BTreeMap State ℕ) (left_out : ℕ) → length fs < 1024 → TalliesFiles h fs now left_out → HasRoom now 268435456
files_room h fs now left_out low before s =
    let is = before.counts s in
    let most = times-le (state_of s) before.blocks (268435456 * length fs) before.few in
    omega (arith, is, most, low)

-- ---- a list in order has as many elements

inserted-length : {X : Type 0} (cmp : X → X → Ordering) (x : X) (ys : List X) → length (inserted cmp x ys) ≡ suc (length ys)
inserted-length cmp x [] = refl
inserted-length cmp x (y ∷ ys) = by (is_lt (cmp y x)) (inserted-length cmp x ys)
  where
    by : (b : Bool) → length (inserted cmp x ys) ≡ suc (length ys) → length (cond b (y ∷ inserted cmp x ys) (x ∷ y ∷ ys)) ≡ suc (suc (length ys))
    by true rest = ap suc rest
    by false rest = refl

pub ordered-length : {X : Type 0} (cmp : X → X → Ordering) (xs : List X) → length (ordered cmp xs) ≡ length xs
ordered-length cmp [] = refl
ordered-length cmp (x ∷ xs) = inserted-length cmp x (ordered cmp xs) ∙ ap suc (ordered-length cmp xs)
