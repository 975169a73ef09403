-- Steps of a flood.
use Rattle.std.proofs.Common.{◌≡◌, ℕ, ◌+◌, ◌-◌, ◌<◌, ◌≤◌, ◌⊎◌, Bool, true, false, cond, inl, inr, ⊎_elim, suc, zero, IsTrue, List, [], ◌∷◌, length, get_or, eqb, ◌≢◌, refl, sym, ap, ◌∙◌, subst, arith}
use Rattle.std.specs.Prelude.{Contains}
use Rattle.av_types.specs.declared.position.Pos.{Pos}
use Rattle.av_types.specs.declared.position.ChunkPos.{ChunkPos}
use Rattle.av_types.specs.declared.position.Height.{Height}
use Rattle.av_types.specs.Positions.{same_pos}
use Rattle.av_types.proofs.SamePositions.{same_pos_is, same_pos-refl}
use Rattle.av_flood.specs.Light.{Terrain, sides, below, above, north, south, west, east, IsAdjacent, cost, HasLight, IsLight}
use Rattle.av_flood.specs.declared.board.Flood.{Flood}
use Rattle.av_flood.specs.Board.{is_on, light_of, raw_of, IsSettled}
use Rattle.av_flood.specs.Blocks.{IsNear}
use Rattle.av_flood.specs.Flooding.{Matters, Levels, Waits, Has, IsNoted, IsMarked, IsSoundAt, IsFlooding, IsPushed, IsPopped, IsNone, IsGrown, IsBrought, IsOffered, CanOffer, HasOffered, WaitsIfEmitting, IsStarted}
use Rattle.std.proofs.lemmas.Bool.{false≢true, cases_lt}
use Rattle.std.proofs.lemmas.Bool.Decides.{eqb_tells}
use Rattle.av_flood.proofs.Queues.{IsPushed-kept, IsPushed-only, IsPushed-there, IsPopped-back}
use Rattle.av_flood.proofs.Paths.{IsLight-closed, Matters-more, HasLight-next, HasLight-emitted}
use Rattle.av_flood.proofs.Boards.{on_board}

-- the block that was settled, or another
pub settled_cases : (old new : Pos → ℕ) (p : Pos) (n : ℕ) → IsSettled old new p n → (q : Pos) → ((q ≡ p) × (new q ≡ n)) ⊎ (new q ≡ old q)
settled_cases old new p n h q = on (same_pos q p) refl (h q) where
  on : (b : Bool) → same_pos q p ≡ b → new q ≡ cond b n (old q) → ((q ≡ p) × (new q ≡ n)) ⊎ (new q ≡ old q)
  on true e is = inl (same_pos_is q p e, is)
  on false e is = inr is

pub settled_at : (old new : Pos → ℕ) (p : Pos) (n : ℕ) → IsSettled old new p n → new p ≡ n
settled_at old new p n h = on (same_pos p p) (same_pos-refl p) (h p) where
  on : (b : Bool) → b ≡ true → new p ≡ cond b n (old p) → new p ≡ n
  on true e is = is
  on false e is = grind arith

pub Has-less : (lit : Pos → ℕ) (todo : Levels) (p : Pos) (n v : ℕ) → v ≤ n → Has lit todo p n → Has lit todo p v
Has-less lit todo p n v l (inl less) = inl (omega arith)
Has-less lit todo p n v l (inr w) = inr (record { level = w.level; most = let m = w.most in omega arith; there = w.there })

pub Waits-less : (todo : Levels) (p : Pos) (n v : ℕ) → v ≤ n → Waits todo p n → Waits todo p v
Waits-less todo p n v l w = record { level = w.level; most = let m = w.most in omega arith; there = w.there }

pub Waits-grown : (old new : Levels) (p : Pos) (v : ℕ) → ((m : ℕ) (r : Pos) → Contains (old m) r → Contains (new m) r) → Waits old p v → Waits new p v
Waits-grown old new p v kept w = record { level = w.level; most = w.most; there = kept w.level p w.there }

pub Has-passed : (n : ℕ) (lit : Pos → ℕ) (old new : Levels) (p : Pos) → IsPopped old new n p → n ≤ lit p → (q : Pos) (v : ℕ) → Has lit old q v → Has lit new q v
Has-passed n lit old new p popped b q v (inl less) = inl less
Has-passed n lit old new p popped b q v (inr waits) = on (IsPushed-only new old n p (IsPopped-back old new n p popped) waits.level q waits.there) where
  on : Contains (new waits.level) q ⊎ ((waits.level ≡ n) × (q ≡ p)) → Has lit new q v
  on (inl w) = inr (record { level = waits.level; most = waits.most; there = w })
  on (inr e) = inl (subst (λ r. v ≤ lit r) (sym e.1) (let f = e.0 in let m = waits.most in omega arith))

-- the next of a level has light already
pub IsFlooding-passed : (g : Terrain) (c : ChunkPos) (n : ℕ) (lit : Pos → ℕ) (old new : Levels) (p : Pos) → IsPopped old new n p → 0 < lit p → IsFlooding g c n lit old → IsFlooding g c n lit new
IsFlooding-passed g c n lit old new p popped shines h =
    record {
      emits = λ q l e m. still q (g.emission q) (h.emits q l e m);
      spreads = λ q r a l v e s m. still r v (h.spreads q r a l v e s m);
      bright = h.bright;
      sound = h.sound;
      waits = λ v q w. h.waits v q (IsPushed-kept new old n p (IsPopped-back old new n p popped) v q w);
      low = λ v q w. h.low v q (IsPushed-kept new old n p (IsPopped-back old new n p popped) v q w);
    }
  where
    still : (q : Pos) (v : ℕ) → Has lit old q v → Has lit new q v
    still = Has-passed n lit old new p popped (h.bright p shines)

pub Has-settled : (n : ℕ) (lit lit' : Pos → ℕ) (old new grown : Levels) (p : Pos) → IsPopped old new n p → lit p ≡ 0 → ((v : ℕ) (q : Pos) → Contains (new v) q → Contains (grown v) q)
    → IsSettled lit lit' p n → (q : Pos) (v : ℕ) → Has lit old q v → Has lit' grown q v
Has-settled n lit lit' old new grown p popped dark kept settled q v has = on (Has-passed n lit' old new p popped (let e = settled_at lit lit' p n settled in omega arith) q v (brighter has)) where
  brighter : Has lit old q v → Has lit' old q v
  brighter (inl less) = inl (⊎_elim (λ i. let z = ap lit i.0 in omega arith) (λ i. omega arith) (settled_cases lit lit' p n settled q))
  brighter (inr w) = inr w

  on : Has lit' new q v → Has lit' grown q v
  on (inl less) = inl less
  on (inr w) = inr (record { level = w.level; most = w.most; there = kept w.level q w.there })

-- the next of a level is settled
pub IsFlooding-settled : (g : Terrain) (c : ChunkPos) (n : ℕ) (lit lit' : Pos → ℕ) (old new grown : Levels) (p : Pos) → 0 < n → IsPopped old new n p → lit p ≡ 0 → IsGrown g c n new grown
    → ((q : Pos) → IsAdjacent p q → IsOffered g c n lit' grown q) → IsSettled lit lit' p n → IsFlooding g c n lit old → IsFlooding g c n lit' grown
IsFlooding-settled g c n lit lit' old new grown p positive popped dark grows offered settled h =
    record {
      emits = λ q l e m. still q (g.emission q) (h.emits q l e m);
      spreads = λ q r a l v e s m. ⊎_elim
          (λ i. (offered r (subst (λ b. IsAdjacent b r) i.0 a)).has l v e (s ∙ i.1) m)
          (λ i. still r v (h.spreads q r a l v e (s ∙ i) m)) (cases q);
      bright = λ q s. ⊎_elim (λ i. let e = i.1 in omega arith) (λ i. let b = h.bright q (let z : 0 < lit q = omega arith in z) in omega arith) (cases q);
      sound = λ q s. ⊎_elim
          (λ i. subst (λ b. HasLight g b (lit' b)) (sym i.0) (subst (HasLight g p) (sym (ap lit' (sym i.0) ∙ i.1)) (h.waits n p (IsPushed-there new old n p (IsPopped-back old new n p popped))).comes))
          (λ i. subst (HasLight g q) (sym i) (h.sound q (omega arith))) (cases q);
      waits = λ v q w. ⊎_elim (λ a. h.waits v q (IsPushed-kept new old n p (IsPopped-back old new n p popped) v q a)) (λ a. a.1) (grows.only v q w);
      low = λ v q w. ⊎_elim (λ a. h.low v q (IsPushed-kept new old n p (IsPopped-back old new n p popped) v q a)) (λ a. let b = a.0 in omega arith) (grows.only v q w);
    }
  where
    cases : (q : Pos) → ((q ≡ p) × (lit' q ≡ n)) ⊎ (lit' q ≡ lit q)
    cases = settled_cases lit lit' p n settled

    still : (q : Pos) (v : ℕ) → Has lit old q v → Has lit' grown q v
    still = Has-settled n lit lit' old new grown p popped dark grows.kept settled

-- a level with none left
pub IsFlooding-lower : (g : Terrain) (c : ChunkPos) (n : ℕ) (lit : Pos → ℕ) (todo : Levels) → ((p : Pos) → ¬ Contains (todo (suc n)) p) → IsFlooding g c (suc n) lit todo → IsFlooding g c n lit todo
IsFlooding-lower g c n lit todo none h =
    record {
      emits = h.emits;
      spreads = h.spreads;
      bright = λ p s. let b = h.bright p s in omega arith;
      sound = h.sound;
      waits = h.waits;
      low = λ v p w. below v p w (h.low v p w) (λ e. none p (subst (λ m. Contains (todo m) p) e w));
    }
  where
    below : (v : ℕ) (p : Pos) → Contains (todo v) p → v ≤ suc n → (v ≡ suc n → ⊥) → v ≤ n
    below v p w l ne = omega (arith, ne)

IsFlooding-same : (g : Terrain) (c : ChunkPos) (n : ℕ) (lit : Pos → ℕ) (old new : Levels) → ((m : ℕ) → new m ≡ old m) → IsFlooding g c n lit old → IsFlooding g c n lit new
IsFlooding-same g c n lit old new same h =
    record {
      emits = λ p l e m. still p (g.emission p) (h.emits p l e m);
      spreads = λ q p a l v e s m. still p v (h.spreads q p a l v e s m);
      bright = h.bright;
      sound = h.sound;
      waits = λ v p w. h.waits v p (subst (λ qs. Contains qs p) (same v) w);
      low = λ v p w. h.low v p (subst (λ qs. Contains qs p) (same v) w);
    }
  where
    still : (p : Pos) (v : ℕ) → Has lit old p v → Has lit new p v
    still p v (inl less) = inl less
    still p v (inr w) = inr (record { level = w.level; most = w.most; there = subst (λ qs. Contains qs p) (sym (same w.level)) w.there })

-- all levels are settled
pub IsLight-flooded : (g : Terrain) (c : ChunkPos) (lit : Pos → ℕ) (todo : Levels) → IsFlooding g c 0 lit todo → (p : Pos) → Matters c 1 p → IsLight g p (lit p)
IsLight-flooded g c lit todo h =
    IsLight-closed g c lit
    (record {
      emits = λ p l v positive less m. let e = done p (g.emission p) (omega arith) (h.emits p l (omega arith) (Matters-more c v (g.emission p) p less m)) in omega arith;
      spreads = λ q p a l v positive less m. let e = done p (lit q - cost g p) (omega arith) (h.spreads q p a l (lit q - cost g p) (omega arith) (omega arith) (Matters-more c v (lit q - cost g p) p (omega arith) m)) in omega arith;
    })
    h.sound
  where
    done : (p : Pos) (v : ℕ) → 0 < v → Has lit todo p v → v ≤ lit p
    done p v positive (inl less) = less
    done p v positive (inr waits) = let l = h.low waits.level p waits.there in let m = waits.most in absurd (omega arith)

-- what waits after one push of light that came
pub IsGrown-pushed : (t : Terrain) (c : ChunkPos) (n v : ℕ) (old new : Levels) (q : Pos) → IsPushed old new v q → v < n → IsSoundAt t c v q → IsGrown t c n old new
IsGrown-pushed t c n v old new q pushed less sound =
    record {
      kept = IsPushed-kept old new v q pushed;
      only = λ w r h. ⊎_elim inl (λ e. inr (let f = e.0 in omega arith, subst (λ m. IsSoundAt t c m r) (sym e.0) (subst (IsSoundAt t c v) (sym e.1) sound))) (IsPushed-only old new v q pushed w r h);
    }

pub IsGrown-none : (t : Terrain) (c : ChunkPos) (n : ℕ) (todo : Levels) → IsGrown t c n todo todo
IsGrown-none t c n todo = record { kept = λ v q h. h; only = λ v q h. inl h }

pub IsGrown-trans : (t : Terrain) (c : ChunkPos) (n : ℕ) (a b d : Levels) → IsGrown t c n a b → IsGrown t c n b d → IsGrown t c n a d
IsGrown-trans t c n a b d g h =
    record {
      kept = λ v q w. h.kept v q (g.kept v q w);
      only = λ v q w. ⊎_elim (g.only v q) inr (h.only v q w);
    }

pub Has-grown : (lit : Pos → ℕ) (old new : Levels) (q : Pos) (v : ℕ) → ((m : ℕ) (r : Pos) → Contains (old m) r → Contains (new m) r) → Has lit old q v → Has lit new q v
Has-grown lit old new q v kept (inl less) = inl less
Has-grown lit old new q v kept (inr w) = inr (record { level = w.level; most = w.most; there = kept w.level q w.there })

-- an offer stays good while more is added
pub IsOffered-grown : (t : Terrain) (c : ChunkPos) (n : ℕ) (lit : Pos → ℕ) (old new : Levels) (q : Pos) → IsGrown t c n old new → IsOffered t c n lit old q → IsOffered t c n lit new q
IsOffered-grown t c n lit old new q g h = record { has = λ l v positive e m. Has-grown lit old new q v g.kept (h.has l v positive e m) }

-- light that comes to a block from beside it
pub IsSoundAt-next : (t : Terrain) (c : ChunkPos) (n v : ℕ) (p q : Pos) → IsAdjacent p q → HasLight t p n → IsTrue (t.loaded q) → 0 < v → v + cost t q ≡ n → Matters c v q → IsSoundAt t c v q
IsSoundAt-next t c n v p q a h l positive e m = record { loaded = l; positive = positive; matters = m; comes = HasLight-next t p q n v a l e h }

pub IsBrought-pushed : (t : Terrain) (n k seen : ℕ) (old new : Levels) (q : Pos) → k ≡ cost t q → k < n → IsPushed old new (n - k) q → IsBrought t n seen new q
IsBrought-pushed t n k seen old new q is less pushed = record { waits = λ l v more e. record { level = n - k; most = omega arith; there = IsPushed-there old new (n - k) q pushed } }

-- what a loop over the blocks beside has offered
pub offered_more : {A : Type 0} (P : A → Type 0) (Q : A → Type 0) (qs : List A) (i : ℕ) (d q : A) → i < length qs → q ≡ get_or qs i d → ((r : A) → P r → Q r) → Q q
    → ((k : ℕ) (e : A) → k < i → P (get_or qs k e)) → (k : ℕ) (e : A) → k < i + 1 → Q (get_or qs k e)
offered_more {A} P Q qs i d q within is still here before k e less = on (eqb_tells k i) where
  on : ((eqb k i ≡ true) × (k ≡ i)) ⊎ ((eqb k i ≡ false) × (k ≢ i)) → Q (get_or qs k e)
  on (inl h) = subst (λ j. Q (get_or qs j e)) (sym h.1) (subst Q (is ∙ same_read qs i d e within) here) where
    same_read : (xs : List A) (j : ℕ) (a b : A) → j < length xs → get_or xs j a ≡ get_or xs j b
    same_read [] j a b l = absurd (omega arith)
    same_read (x ∷ xs) zero a b l = refl
    same_read (x ∷ xs) (suc j) a b l = same_read xs j a b (omega arith)
  on (inr h) = still (get_or qs k e) (before k e (let n = h.1 in omega (arith, n)))

-- all six blocks beside
pub IsOffered-all : (t : Terrain) (c : ChunkPos) (n : ℕ) (lit : Pos → ℕ) (todo : Levels) (p : Pos)
    → IsOffered t c n lit todo (below p) → IsOffered t c n lit todo (above p) → IsOffered t c n lit todo (north p) → IsOffered t c n lit todo (south p) → IsOffered t c n lit todo (west p) → IsOffered t c n lit todo (east p)
    → (q : Pos) → IsAdjacent p q → IsOffered t c n lit todo q
IsOffered-all t c n lit todo p b a d s w e q near = subst (IsOffered t c n lit todo) near.2 (on near.0 near.1) where
  on : (k : ℕ) → k < 6 → IsOffered t c n lit todo (get_or (sides p) k q)
  on zero l = b
  on (suc zero) l = a
  on (suc (suc zero)) l = d
  on (suc (suc (suc zero))) l = s
  on (suc (suc (suc (suc zero)))) l = w
  on (suc (suc (suc (suc (suc zero))))) l = e
  on (suc (suc (suc (suc (suc (suc k)))))) l = absurd (omega arith)

-- the steps of a level, as the loop takes them
pub none_left : (t : Terrain) (c : ChunkPos) (n : ℕ) (lit : Pos → ℕ) (old new : Levels) → 0 < n → IsNone old new n → IsFlooding t c n lit old → IsFlooding t c (n - 1) lit new
none_left t c n lit old new positive none h =
    IsFlooding-lower t c (n - 1) lit new (λ p w. empty p (subst (λ qs. Contains qs p) (ap new (let e : suc (n - 1) ≡ n = omega arith in e) ∙ none.same n ∙ none.here) w))
    (subst (λ m. IsFlooding t c m lit new) (let e : n ≡ suc (n - 1) = omega arith in e) (IsFlooding-same t c n lit old new none.same h))
  where
    empty : (p : Pos) → Contains {X = Pos} [] p → ⊥
    empty p w = let l : w.0 < 0 = w.1 in omega arith

-- what is next in a level
pub next_sound : (t : Terrain) (c : ChunkPos) (n : ℕ) (lit : Pos → ℕ) (old new : Levels) (p : Pos) → IsPopped old new n p → IsFlooding t c n lit old → IsSoundAt t c n p
next_sound t c n lit old new p popped h = h.waits n p (IsPushed-there new old n p (IsPopped-back old new n p popped))

pub above_zero : (n m : ℕ) → n ≡ m → (n ≡ 0 → ⊥) → 0 < m
above_zero n zero e h = absurd (h e)
above_zero n (suc m) e h = omega arith

-- blocks that emit light
pub WaitsIfEmitting-grown : (t : Terrain) (c : ChunkPos) (n : ℕ) (old new : Levels) (p : Pos) → IsGrown t c n old new → WaitsIfEmitting t c old p → WaitsIfEmitting t c new p
WaitsIfEmitting-grown t c n old new p g h = record { ready = λ l e m. Waits-grown old new p (t.emission p) g.kept (h.ready l e m) }

pub WaitsIfEmitting-moved : (t : Terrain) (c d : ChunkPos) (todo : Levels) (p : Pos) → c ≡ d → WaitsIfEmitting t c todo p → WaitsIfEmitting t d todo p
WaitsIfEmitting-moved t c d todo p e h = subst (λ k. WaitsIfEmitting t k todo p) e h

pub WaitsIfEmitting-pushed : (t : Terrain) (c : ChunkPos) (n : ℕ) (old new : Levels) (p : Pos) → n ≡ t.emission p → IsPushed old new n p → WaitsIfEmitting t c new p
WaitsIfEmitting-pushed t c n old new p is pushed = record { ready = λ l e m. record { level = n; most = omega arith; there = IsPushed-there old new n p pushed } }

pub WaitsIfEmitting-unloaded : (t : Terrain) (c : ChunkPos) (todo : Levels) (p : Pos) → t.loaded p ≡ false → WaitsIfEmitting t c todo p
WaitsIfEmitting-unloaded t c todo p e = record { ready = λ l g m. absurd (false≢true (sym e ∙ l)) }

pub WaitsIfEmitting-noted : (t : Terrain) (c : ChunkPos) (n : ℕ) (raw : Pos → ℕ) (todo : Levels) (p : Pos) → n ≡ t.emission p → n ≤ raw p → IsNoted t c raw todo → WaitsIfEmitting t c todo p
WaitsIfEmitting-noted t c n raw todo p is most h = record { ready = λ l e m. h.waits p l (t.emission p) (omega arith) e m }

pub WaitsIfEmitting-off : (t : Terrain) (c : ChunkPos) (h : Height) (todo : Levels) (p : Pos) → (IsTrue (t.loaded p) → IsNear h p) → t.emission p ≤ 15 → is_on c h p ≡ false → WaitsIfEmitting t c todo p
WaitsIfEmitting-off t c h todo p near most off = record { ready = λ l e m. absurd (false≢true (sym off ∙ on_board c h (t.emission p) p most m (near l))) }

pub IsSoundAt-emitted : (t : Terrain) (c : ChunkPos) (n : ℕ) (p : Pos) → n ≡ t.emission p → IsTrue (t.loaded p) → 0 < n → Matters c n p → IsSoundAt t c n p
IsSoundAt-emitted t c n p is l positive m = record { loaded = l; positive = positive; matters = m; comes = subst (HasLight t p) (sym is) (HasLight-emitted t p l) }

pub IsStarted-all : (t : Terrain) (c : ChunkPos) (old new : Levels) → ((n : ℕ) → old n ≡ []) → IsGrown t c 16 old new
    → ((p : Pos) → IsTrue (t.loaded p) → Matters c (t.emission p) p → WaitsIfEmitting t c new p) → IsStarted t c new
IsStarted-all t c old new none g all =
    record {
      emits = λ p l e m. (all p l m).ready l e m;
      sound = λ v p w. ⊎_elim (λ h. absurd (empty v p h)) (λ h. h.1) (g.only v p w);
      low = λ v p w. ⊎_elim (λ h. absurd (empty v p h)) (λ h. let l = h.0 in omega arith) (g.only v p w);
    }
  where
    nothing : (p : Pos) → Contains {X = Pos} [] p → ⊥
    nothing p w = let l : w.0 < 0 = w.1 in omega arith

    empty : (v : ℕ) (p : Pos) → Contains (old v) p → ⊥
    empty v p w = nothing p (subst (λ qs. Contains qs p) (none v) w)

pub IsFlooding-started : (t : Terrain) (c : ChunkPos) (lit : Pos → ℕ) (todo : Levels) → ((p : Pos) → lit p ≡ 0) → IsStarted t c todo → IsFlooding t c 15 lit todo
IsFlooding-started t c lit todo dark h =
    record {
      emits = λ p l e m. inr (h.emits p l e m);
      spreads = λ q p a l v s e m. let d = dark q in absurd (omega arith);
      bright = λ p s. let d = dark p in absurd (omega arith);
      sound = λ p s. let d = dark p in absurd (omega arith);
      waits = h.sound;
      low = h.low;
    }

pub WaitsIfEmitting-known : (t : Terrain) (c : ChunkPos) (todo : Levels) (p : Pos) → (0 < t.emission p → WaitsIfEmitting t c todo p) → WaitsIfEmitting t c todo p
WaitsIfEmitting-known t c todo p known = record { ready = λ l e m. (known e).ready l e m }

-- marks
pub Has-same : (lit lit' : Pos → ℕ) (todo : Levels) (p : Pos) (n : ℕ) → ((q : Pos) → lit' q ≡ lit q) → Has lit todo p n → Has lit' todo p n
Has-same lit lit' todo p n same (inl less) = inl (let e = same p in omega arith)
Has-same lit lit' todo p n same (inr w) = inr w

-- light that came to a block and its byte's
pub brought_waits : (t : Terrain) (c : ChunkPos) (n seen : ℕ) (raw : Pos → ℕ) (old new : Levels) (q : Pos) → IsMarked t c n raw old → raw q ≡ seen → seen < 128
    → ((m : ℕ) (r : Pos) → Contains (old m) r → Contains (new m) r) → IsBrought t n seen new q
    → IsTrue (t.loaded q) → (v : ℕ) → 0 < v → v + cost t q ≤ n → Matters c v q → Waits new q v
brought_waits t c n seen raw old new q marked is low kept brought l v positive less m =
    ⊎_elim (λ few. Waits-grown old new q v kept (marked.waits q (omega arith) l v (omega arith) positive less m))
    (λ more. Waits-less new q (n - cost t q) v (omega arith) (brought.waits l (n - cost t q) (omega arith) (omega arith)))
    (cases_le (n - cost t q) seen)
  where
    cases_le : (a b : ℕ) → (a ≤ b) ⊎ (b < a)
    cases_le a b = ⊎_elim inr inl (cases_lt b a)

pub IsOffered-brought : (t : Terrain) (c : ChunkPos) (n : ℕ) (lit : Pos → ℕ) (new : Levels) (q : Pos)
    → (IsTrue (t.loaded q) → (v : ℕ) → 0 < v → v + cost t q ≤ n → Matters c v q → Waits new q v) → IsOffered t c n lit new q
IsOffered-brought t c n lit new q waits = record { has = λ l v positive e m. inr (waits l v positive (omega arith) m) }

-- a byte that says enough
pub IsOffered-seen : (t : Terrain) (c : ChunkPos) (n : ℕ) (raw : Pos → ℕ) (todo : Levels) (q : Pos) → IsMarked t c n raw todo → ((p : Pos) → 0 < raw p - 128 → n ≤ raw p - 128) → n - 1 ≤ raw q
    → IsOffered t c n (λ p. raw p - 128) todo q
IsOffered-seen t c n raw todo q marked bright seen = record { has = λ l v positive e m. on l v positive e m (cases_lt (raw q) 128) } where
  on : IsTrue (t.loaded q) → (v : ℕ) → 0 < v → v + cost t q ≡ n → Matters c v q → (raw q < 128) ⊎ (128 ≤ raw q) → Has (λ p. raw p - 128) todo q v
  on l v positive e m (inl low) = inr (marked.waits q low l v (omega arith) positive (omega arith) m)
  on l v positive e m (inr high) = inl (let s = marked.settled q high in let b = bright q (omega arith) in omega arith)

-- a block beyond the board
pub IsOffered-off : (t : Terrain) (c : ChunkPos) (h : Height) (n : ℕ) (lit : Pos → ℕ) (todo : Levels) (q : Pos) → (IsTrue (t.loaded q) → IsNear h q) → n ≤ 15 → is_on c h q ≡ false → IsOffered t c n lit todo q
IsOffered-off t c h n lit todo q near most off = record { has = λ l v positive e m. absurd (false≢true (sym off ∙ on_board c h v q (omega arith) m (near l))) }

pub IsOffered-same : (t : Terrain) (c : ChunkPos) (n : ℕ) (lit lit' : Pos → ℕ) (todo : Levels) (q : Pos) → ((p : Pos) → lit' p ≡ lit p) → IsOffered t c n lit todo q → IsOffered t c n lit' todo q
IsOffered-same t c n lit lit' todo q same h = record { has = λ l v positive e m. Has-same lit lit' todo q v same (h.has l v positive e m) }

-- the same light
pub IsFlooding-lit : (t : Terrain) (c : ChunkPos) (n : ℕ) (lit lit' : Pos → ℕ) (todo : Levels) → ((p : Pos) → lit' p ≡ lit p) → IsFlooding t c n lit todo → IsFlooding t c n lit' todo
IsFlooding-lit t c n lit lit' todo same h =
    record {
      emits = λ p l e m. Has-same lit lit' todo p (t.emission p) same (h.emits p l e m);
      spreads = λ q p a l v e s m. Has-same lit lit' todo p v same (h.spreads q p a l v e (s ∙ same q) m);
      bright = λ p s. let e = same p in let b = h.bright p (let z : 0 < lit p = omega arith in z) in omega arith;
      sound = λ p s. subst (HasLight t p) (sym (same p)) (h.sound p (subst (λ m. 0 < m) (same p) s));
      waits = h.waits;
      low = h.low;
    }

-- after a settling all light is at least of this level
pub bright_settled : (lit lit' : Pos → ℕ) (p : Pos) (n : ℕ) → IsSettled lit lit' p n → ((q : Pos) → 0 < lit q → n ≤ lit q) → (q : Pos) → 0 < lit' q → n ≤ lit' q
bright_settled lit lit' p n set bright q s = ⊎_elim (λ i. let e = i.1 in omega arith) (λ i. let b = bright q (let z : 0 < lit q = omega arith in z) in omega arith) (settled_cases lit lit' p n set q)

-- nothing came
pub HasOffered-none : (t : Terrain) (n : ℕ) (f : Flood) (todo : Levels) → IsMarked t f.chunk n (raw_of f) todo → HasOffered t n f f todo todo
HasOffered-none t n f todo marked = record { same = λ q. refl; marked = marked; grown = IsGrown-none t f.chunk n todo; others = refl }

-- light came once, and then again
pub HasOffered-trans : (t : Terrain) (n : ℕ) (old mid new : Flood) (was between now : Levels) → mid.chunk ≡ old.chunk → HasOffered t n old mid was between → HasOffered t n mid new between now → HasOffered t n old new was now
HasOffered-trans t n old mid new was between now chunk first second =
    record {
      same = λ q. second.same q ∙ first.same q;
      marked = subst (λ k. IsMarked t k n (raw_of new) now) chunk second.marked;
      grown = IsGrown-trans t old.chunk n was between now first.grown (subst (λ k. IsGrown t k n between now) chunk second.grown);
      others = second.others ∙ first.others;
    }

-- more can come
pub CanOffer-more : (t : Terrain) (h : Height) (n : ℕ) (old new : Flood) (was now : Levels) (p : Pos) → new.chunk ≡ old.chunk → new.height ≡ old.height → HasOffered t n old new was now → CanOffer t h n old was p → CanOffer t h n new now p
CanOffer-more t h n old new was now p chunk height came can =
    record {
      level = can.level;
      height = height ∙ can.height;
      comes = can.comes;
      bright = λ q s. subst (λ m. n ≤ m) (sym (came.same q)) (can.bright q (subst (λ m. 0 < m) (came.same q) s));
      marked = subst (λ k. IsMarked t k n (raw_of new) now) (sym chunk) came.marked;
    }

-- what was offered from a board that has the same light
pub IsOffered-later : (t : Terrain) (n : ℕ) (old mid : Flood) (was between now end : Levels) (q : Pos) → mid.chunk ≡ old.chunk → HasOffered t n old mid was between → IsGrown t old.chunk n now end → IsOffered t mid.chunk n (light_of mid) now q → IsOffered t old.chunk n (light_of old) end q
IsOffered-later t n old mid was between now end q chunk came grown offered =
    IsOffered-grown t old.chunk n (light_of old) now end q grown
    (IsOffered-same t old.chunk n (light_of mid) (light_of old) now q (λ p. sym (came.same p)) (subst (λ k. IsOffered t k n (light_of mid) now q) chunk offered))
