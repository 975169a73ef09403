-- An input has one first fault at most.
use Rattle.std.proofs.Common.{◌≡◌, ◌∙◌, ℕ, ◌+◌, ◌*◌, ◌<◌, ◌≤◌, ◌/◌, ◌⊎◌, inl, inr, List, [], ◌∷◌, refl, ap, sym, subst, arith}
use Rattle.std.proofs.lemmas.Option.{none-some, same_Some}
use Rattle.std.proofs.lemmas.Bool.{true≢false}
use Rattle.av_types.specs.Faults.{fault_number}
use Rattle.av_types.specs.Positions.{chunk_at}
use Rattle.av_types.specs.declared.position.Height.{Height}
use Rattle.av_types.specs.declared.position.ChunkPos.{ChunkPos}
use Rattle.av_types.specs.declared.fault.Fault.{Fault}
use Rattle.av_types.specs.declared.fault.Fault.TheVariants.{BadLocation, TruncatedChunk, BadLength, ExternalChunk, Compression}
use Rattle.av_types.proofs.HeightNumbers.{height_is}
use Rattle.av_nbt.specs.Spelling.{SpellsDocument}
use Rattle.av_region.specs.Region.{IsChunkFault, IsBadLocation, IsLocated, IsTruncated, IsWithinFile, IsBadLength, IsMeasured, Holds, IsAbsent, location_of, offset_of, count_of, length_of, type_of}
use Rattle.av_state.specs.BlockState.{BlockState}
use Rattle.av_state.specs.StateList.{first_states, with_states}
use Rattle.av_rules.specs.Rows.{BlockTable}
use Rattle.av_document.specs.Chunk.{root_tags, first_fault}
use Rattle.av_land.specs.Land.{Land, is_loaded}
use Rattle.av_files.specs.Files.{File, in_order}
use Rattle.av_files.specs.Denotes.{Rest, Denotes}
use Rattle.av_files.specs.Layout.{indices}
use Rattle.av_edits.specs.Edits.{first_in_edits}
use Rattle.av_files.specs.FirstFault.{IsFaultAt, sectors, spelling, document, IsGoodAt, nothing, chunk, states_read, AreIndicesGood, IsFirstOfIndices, IsFileGood, IsFirstOfFile, header, at_index, AreFilesGood, IsFirstOfFiles, IsTable, AreFilesRead, IsFilesFault, range, repeated, region, IsFirstFault, counts, rules, file, edit, IsAccepted, OneFirstFault}
use Rattle.av_files.proofs.Unique.{same_document, some_location, denote_one}
use Rattle.av_files.proofs.OneFault.{document_fault}

-- ---- sectors

misplaced : (f : List ℕ) (i : ℕ) → IsBadLocation f i → IsLocated f i → ⊥
misplaced f i a b = by a.cause where
  by : ((offset_of f i < 2) ⊎ (count_of f i ≡ 0)) → ⊥
  by (inl h) = let x = b.offset in omega arith
  by (inr h) = let x = b.count in omega arith

mismeasured : (f : List ℕ) (i : ℕ) → IsBadLength f i → IsMeasured f i → ⊥
mismeasured f i a b = by a.cause where
  by : ((length_of f i ≡ 0) ⊎ (4096 * count_of f i < length_of f i + 4)) → ⊥
  by (inl h) = let x = b.nonempty in omega arith
  by (inr h) = let x = b.fits in omega arith

cut : (f : List ℕ) (i : ℕ) → IsTruncated f i → IsWithinFile f i → ⊥
cut f i a b = let x = a.cause in let y = b.within in omega arith

typed : (n k : ℕ) → 128 ≤ n → n ≡ k → k < 128 → ⊥
typed n k a b c = omega arith

sector_one : (f : List ℕ) (i : ℕ) (e g : Fault) → IsChunkFault f i e → IsChunkFault f i g → e ≡ g
sector_one f i BadLocation BadLocation a b = refl
sector_one f i BadLocation TruncatedChunk a b = absurd (misplaced f i a b.located)
sector_one f i BadLocation BadLength a b = absurd (misplaced f i a b.whole.located)
sector_one f i BadLocation ExternalChunk a b = absurd (misplaced f i a b.measured.whole.located)
sector_one f i BadLocation (Compression k) a b = absurd (misplaced f i a b.measured.whole.located)
sector_one f i BadLocation _ a b = absurd b
sector_one f i TruncatedChunk BadLocation a b = absurd (misplaced f i b a.located)
sector_one f i TruncatedChunk TruncatedChunk a b = refl
sector_one f i TruncatedChunk BadLength a b = absurd (cut f i a b.whole)
sector_one f i TruncatedChunk ExternalChunk a b = absurd (cut f i a b.measured.whole)
sector_one f i TruncatedChunk (Compression k) a b = absurd (cut f i a b.measured.whole)
sector_one f i TruncatedChunk _ a b = absurd b
sector_one f i BadLength BadLocation a b = absurd (misplaced f i b a.whole.located)
sector_one f i BadLength TruncatedChunk a b = absurd (cut f i b a.whole)
sector_one f i BadLength BadLength a b = refl
sector_one f i BadLength ExternalChunk a b = absurd (mismeasured f i a b.measured)
sector_one f i BadLength (Compression k) a b = absurd (mismeasured f i a b.measured)
sector_one f i BadLength _ a b = absurd b
sector_one f i ExternalChunk BadLocation a b = absurd (misplaced f i b a.measured.whole.located)
sector_one f i ExternalChunk TruncatedChunk a b = absurd (cut f i b a.measured.whole)
sector_one f i ExternalChunk BadLength a b = absurd (mismeasured f i b a.measured)
sector_one f i ExternalChunk ExternalChunk a b = refl
sector_one f i ExternalChunk (Compression k) a b = absurd (typed (type_of f i) k a.cause b.compression b.internal)
sector_one f i ExternalChunk _ a b = absurd b
sector_one f i (Compression k) BadLocation a b = absurd (misplaced f i b a.measured.whole.located)
sector_one f i (Compression k) TruncatedChunk a b = absurd (cut f i b a.measured.whole)
sector_one f i (Compression k) BadLength a b = absurd (mismeasured f i b a.measured)
sector_one f i (Compression k) ExternalChunk a b = absurd (typed (type_of f i) k b.cause a.compression a.internal)
sector_one f i (Compression k) (Compression l) a b = ap Compression (sym a.compression ∙ b.compression)
sector_one f i (Compression k) _ a b = absurd b
sector_one f i _ _ a b = absurd a

held_is_good : (f : List ℕ) (i : ℕ) (p : List ℕ) (e : Fault) → Holds f i p → IsChunkFault f i e → ⊥
held_is_good f i p BadLocation h a = misplaced f i a h.measured.whole.located
held_is_good f i p TruncatedChunk h a = cut f i a h.measured.whole
held_is_good f i p BadLength h a = mismeasured f i a h.measured
held_is_good f i p ExternalChunk h a = typed (type_of f i) 3 a.cause h.uncompressed (omega arith)
held_is_good f i p (Compression k) h a = a.cause (sym a.compression ∙ h.uncompressed)
held_is_good f i p _ h a = a

zero_offset : (n : ℕ) → 2 ≤ n / 256 → n ≡ 0 → ⊥
zero_offset n a b = omega arith

none_is_good : (f : List ℕ) (i : ℕ) (e : Fault) → IsAbsent f i → IsChunkFault f i e → ⊥
none_is_good f i BadLocation h a = a.present h
none_is_good f i TruncatedChunk h a = zero_offset (location_of f i) a.located.offset h
none_is_good f i BadLength h a = zero_offset (location_of f i) a.whole.located.offset h
none_is_good f i ExternalChunk h a = zero_offset (location_of f i) a.measured.whole.located.offset h
none_is_good f i (Compression k) h a = zero_offset (location_of f i) a.measured.whole.located.offset h
none_is_good f i _ h a = a

-- ---- one index

index_one : (h : Height) (t : List BlockState) (f : List ℕ) (c : ChunkPos) (i : ℕ) (e g : Fault) → IsFaultAt h t f c i e → IsFaultAt h t f c i g → e ≡ g
index_one h t f c i e g (sectors a) (sectors b) = sector_one f i e g a b
index_one h t f c i e g (sectors a) (spelling p held un is) = absurd (held_is_good f i p e held a)
index_one h t f c i e g (sectors a) (document p d held sp is) = absurd (held_is_good f i p e held a)
index_one h t f c i e g (spelling p held un is) (sectors b) = absurd (held_is_good f i p g held b)
index_one h t f c i e g (spelling p held un is) (spelling q held' un' is') = is ∙ sym is'
index_one h t f c i e g (spelling p held un is) (document q d held' sp is') = absurd (un d (subst (SpellsDocument d) (held'.bytes ∙ sym held.bytes) sp))
index_one h t f c i e g (document p d held sp is) (sectors b) = absurd (held_is_good f i p g held b)
index_one h t f c i e g (document p d held sp is) (spelling q held' un is') = absurd (un d (subst (SpellsDocument d) (held.bytes ∙ sym held'.bytes) sp))
index_one h t f c i e g (document p d held sp is) (document q d' held' sp' is') =
    let one = same_document f i p q d d' held held' sp sp' in
    document_fault h c t (root_tags d) e g is (ap (λ x. first_fault h c t (root_tags x)) one.1 ∙ is')

index_not : (h : Height) (t : List BlockState) (f : List ℕ) (c : ChunkPos) (i : ℕ) (e : Fault) (new : List BlockState) → IsFaultAt h t f c i e → IsGoodAt h t f c i new → ⊥
index_not h t f c i e new (sectors a) (nothing n is) = none_is_good f i e n a
index_not h t f c i e new (sectors a) (chunk p d held sp un is) = held_is_good f i p e held a
index_not h t f c i e new (spelling p held un is) (nothing n is') = some_location f i p held n
index_not h t f c i e new (spelling p held un is) (chunk q d held' sp un' is') = un d (subst (SpellsDocument d) (held'.bytes ∙ sym held.bytes) sp)
index_not h t f c i e new (document p d held sp is) (nothing n is') = some_location f i p held n
index_not h t f c i e new (document p d held sp is) (chunk q d' held' sp' un is') =
    let one = same_document f i p q d d' held held' sp sp' in
    none-some (fault_number e) (sym un ∙ sym (ap (λ x. first_fault h c t (root_tags x)) one.1) ∙ is)

good_one : (h : Height) (t : List BlockState) (f : List ℕ) (c : ChunkPos) (i : ℕ) (x y : List BlockState) → IsGoodAt h t f c i x → IsGoodAt h t f c i y → x ≡ y
good_one h t f c i x y (nothing n is) (nothing n' is') = is ∙ sym is'
good_one h t f c i x y (nothing n is) (chunk q d held sp un is') = absurd (some_location f i q held n)
good_one h t f c i x y (chunk p d held sp un is) (nothing n is') = absurd (some_location f i p held n)
good_one h t f c i x y (chunk p d held sp un is) (chunk q d' held' sp' un' is') =
    let one = same_document f i p q d d' held held' sp sp' in
    is ∙ ap (λ z. with_states t (states_read h z)) one.1 ∙ sym is'

-- ---- indices and files in order

indices_one : (h : Height) (t : List BlockState) (f : File) (is : List ℕ) (e g : Fault) → IsFirstOfIndices h t f is e → IsFirstOfIndices h t f is g → e ≡ g
indices_one h t f [] e g a b = absurd a
indices_one h t f (i ∷ is) e g (inl a) (inl b) = index_one h t f.bytes (chunk_at f.pos i) i e g a b
indices_one h t f (i ∷ is) e g (inl a) (inr b) = absurd (index_not h t f.bytes (chunk_at f.pos i) i e b.0 a b.1)
indices_one h t f (i ∷ is) e g (inr a) (inl b) = absurd (index_not h t f.bytes (chunk_at f.pos i) i g a.0 b a.1)
indices_one h t f (i ∷ is) e g (inr a) (inr b) =
    let same = good_one h t f.bytes (chunk_at f.pos i) i b.0 a.0 b.1 a.1 in
    indices_one h a.0 f is e g a.2 (subst (λ x. IsFirstOfIndices h x f is g) same b.2)

indices_not : (h : Height) (t : List BlockState) (f : File) (is : List ℕ) (e : Fault) (new : List BlockState) → IsFirstOfIndices h t f is e → AreIndicesGood h t f is new → ⊥
indices_not h t f [] e new a b = a
indices_not h t f (i ∷ is) e new (inl a) b = index_not h t f.bytes (chunk_at f.pos i) i e b.0 a b.1
indices_not h t f (i ∷ is) e new (inr a) b =
    let same = good_one h t f.bytes (chunk_at f.pos i) i b.0 a.0 b.1 a.1 in
    indices_not h a.0 f is e new a.2 (subst (λ x. AreIndicesGood h x f is new) same b.2)

indices_good : (h : Height) (t : List BlockState) (f : File) (is : List ℕ) (x y : List BlockState) → AreIndicesGood h t f is x → AreIndicesGood h t f is y → x ≡ y
indices_good h t f [] x y a b = a ∙ sym b
indices_good h t f (i ∷ is) x y a b =
    let same = good_one h t f.bytes (chunk_at f.pos i) i b.0 a.0 b.1 a.1 in
    indices_good h a.0 f is x y a.2 (subst (λ z. AreIndicesGood h z f is y) same b.2)

file_one : (h : Height) (t : List BlockState) (f : File) (e g : Fault) → IsFirstOfFile h t f e → IsFirstOfFile h t f g → e ≡ g
file_one h t f e g (header s is) (header s' is') = is ∙ sym is'
file_one h t f e g (header s is) (at_index n p) = absurd (n s)
file_one h t f e g (at_index n p) (header s is) = absurd (n s)
file_one h t f e g (at_index n p) (at_index n' p') = indices_one h t f indices e g p p'

file_not : (h : Height) (t : List BlockState) (f : File) (e : Fault) (new : List BlockState) → IsFirstOfFile h t f e → IsFileGood h t f new → ⊥
file_not h t f e new (header s is) b = b.whole s
file_not h t f e new (at_index n p) b = indices_not h t f indices e new p b.good

files_one : (h : Height) (t : List BlockState) (fs : List File) (e g : Fault) → IsFirstOfFiles h t fs e → IsFirstOfFiles h t fs g → e ≡ g
files_one h t [] e g a b = absurd a
files_one h t (f ∷ fs) e g (inl a) (inl b) = file_one h t f e g a b
files_one h t (f ∷ fs) e g (inl a) (inr b) = absurd (file_not h t f e b.0 a b.1)
files_one h t (f ∷ fs) e g (inr a) (inl b) = absurd (file_not h t f g a.0 b a.1)
files_one h t (f ∷ fs) e g (inr a) (inr b) =
    let same = indices_good h t f indices b.0 a.0 b.1.good a.1.good in
    files_one h a.0 fs e g a.2 (subst (λ x. IsFirstOfFiles h x fs g) same b.2)

files_not : (h : Height) (t : List BlockState) (fs : List File) (e : Fault) (new : List BlockState) → IsFirstOfFiles h t fs e → AreFilesGood h t fs new → ⊥
files_not h t [] e new a b = a
files_not h t (f ∷ fs) e new (inl a) b = file_not h t f e b.0 a b.1
files_not h t (f ∷ fs) e new (inr a) b =
    let same = indices_good h t f indices b.0 a.0 b.1.good a.1.good in
    files_not h a.0 fs e new a.2 (subst (λ x. AreFilesGood h x fs new) same b.2)

files_good : (h : Height) (t : List BlockState) (fs : List File) (x y : List BlockState) → AreFilesGood h t fs x → AreFilesGood h t fs y → x ≡ y
files_good h t [] x y a b = a ∙ sym b
files_good h t (f ∷ fs) x y a b =
    let same = indices_good h t f indices b.0 a.0 b.1.good a.1.good in
    files_good h a.0 fs x y a.2 (subst (λ z. AreFilesGood h z fs y) same b.2)

-- ---- the whole input

input_one : (h : Height) (fs : List File) (e g : Fault) → IsFilesFault h fs e → IsFilesFault h fs g → e ≡ g
input_one h fs e g (range n is) (range n' is') = is ∙ sym is'
input_one h fs e g (range n is) (repeated l s is') = absurd (n l)
input_one h fs e g (range n is) (region l s x) = absurd (n l)
input_one h fs e g (repeated l s is) (range n is') = absurd (n l)
input_one h fs e g (repeated l s is) (repeated l' s' is') = is ∙ sym is'
input_one h fs e g (repeated l s is) (region l' s' x) = absurd (true≢false (sym s ∙ s'))
input_one h fs e g (region l s x) (range n is') = absurd (n l)
input_one h fs e g (region l s x) (repeated l' s' is') = absurd (true≢false (sym s' ∙ s))
input_one h fs e g (region l s x) (region l' s' y) = files_one h first_states (in_order fs) e g x y

input_not : (h : Height) (fs : List File) (e : Fault) (states : List BlockState) → IsFilesFault h fs e → AreFilesRead h fs states → ⊥
input_not h fs e states (range n is) b = n b.limits
input_not h fs e states (repeated l s is) b = true≢false (sym s ∙ b.apart)
input_not h fs e states (region l s x) b = files_not h first_states (in_order fs) e states x b.good

pub table_one : (text : List ℕ) (t u : BlockTable) (h k : Height) → IsTable text t h → IsTable text u k → h ≡ k
table_one text t u h k a b =
    let same : t ≡ u = same_Some t u (sym a.spelled ∙ b.spelled) in
    height_is h k (a.low ∙ ap (λ x. x.min_section) same ∙ sym b.low) (a.count ∙ ap (λ x. x.sections) same ∙ sym b.count)

-- the fault of edits does not depend on how the files were read
edit_same : (h k : Height) (fs : List File) (xs ys : List BlockState) (w v : Land BlockState) (r s : Rest) (n : ℕ) (text : List ℕ) → h ≡ k → AreFilesRead h fs xs → AreFilesRead k fs ys → Denotes h fs w r → Denotes k fs v s
    → first_in_edits (is_loaded w) n xs text ≡ first_in_edits (is_loaded v) n ys text
edit_same h k fs xs ys w v r s n text same a b d d' =
    let b' : AreFilesRead h fs ys = subst (λ x. AreFilesRead x fs ys) (sym same) b in
    let states = files_good h first_states (in_order fs) xs ys a.good b'.good in
    let worlds = (denote_one h fs w v r s d (subst (λ x. Denotes x fs v s) (sym same) d')).0 in
    λ i. first_in_edits (is_loaded (worlds i)) n (states i) text

fault_one : (fs : List File) (table edits : List ℕ) (n k : ℕ) (e g : Fault) → IsFirstFault fs table edits n k e → IsFirstFault fs table edits n k g → e ≡ g
fault_one fs table edits n k e g (counts a is) (counts b is') = is ∙ sym is'
fault_one fs table edits n k e g (counts a is) (rules b bad is') = absurd (a b)
fault_one fs table edits n k e g (counts a is) (file b t h tab x) = absurd (a b)
fault_one fs table edits n k e g (counts a is) (edit b t h xs w r tab read den x) = absurd (a b)
fault_one fs table edits n k e g (rules a bad is) (counts b is') = absurd (b a)
fault_one fs table edits n k e g (rules a bad is) (rules b bad' is') = is ∙ sym is'
fault_one fs table edits n k e g (rules a bad is) (file b t h tab x) = absurd (bad t h tab)
fault_one fs table edits n k e g (rules a bad is) (edit b t h xs w r tab read den x) = absurd (bad t h tab)
fault_one fs table edits n k e g (file a t h tab x) (counts b is') = absurd (b a)
fault_one fs table edits n k e g (file a t h tab x) (rules b bad is') = absurd (bad t h tab)
fault_one fs table edits n k e g (file a t h tab x) (file b t' h' tab' y) = input_one h fs e g x (subst (λ z. IsFilesFault z fs g) (table_one table t' t h' h tab' tab) y)
fault_one fs table edits n k e g (file a t h tab x) (edit b t' h' xs w r tab' read den y) = absurd (input_not h fs e xs x (subst (λ z. AreFilesRead z fs xs) (table_one table t' t h' h tab' tab) read))
fault_one fs table edits n k e g (edit a t h xs w r tab read den x) (counts b is') = absurd (b a)
fault_one fs table edits n k e g (edit a t h xs w r tab read den x) (rules b bad is') = absurd (bad t h tab)
fault_one fs table edits n k e g (edit a t h xs w r tab read den x) (file b t' h' tab' y) = absurd (input_not h' fs g xs y (subst (λ z. AreFilesRead z fs xs) (table_one table t t' h h' tab tab') read))
fault_one fs table edits n k e g (edit a t h xs w r tab read den x) (edit b t' h' ys v s tab' read' den' y) =
    same_Some e g (sym x ∙ edit_same h h' fs xs ys w v r s n edits (table_one table t t' h h' tab tab') read read' den den' ∙ y)

fault_not : (fs : List File) (table edits : List ℕ) (n k : ℕ) (e : Fault) (t : BlockTable) (h : Height) (w : Land BlockState) (r : Rest) → IsFirstFault fs table edits n k e → IsAccepted fs table edits n k t h w r → ⊥
fault_not fs table edits n k e t h w r (counts a is) b = a b.counts
fault_not fs table edits n k e t h w r (rules a bad is) b = bad t h b.rules
fault_not fs table edits n k e t h w r (file a t' h' tab x) b = input_not h' fs e b.states x (subst (λ z. AreFilesRead z fs b.states) (table_one table t t' h h' b.rules tab) b.read)
fault_not fs table edits n k e t h w r (edit a t' h' xs v s tab read den x) b =
    none-some e (sym b.no_fault ∙ edit_same h h' fs b.states xs w v r s n edits (table_one table t t' h h' b.rules tab) b.read read b.denotes den ∙ x)

pub one_first_fault : OneFirstFault
one_first_fault fs table edits n k = record { one = fault_one fs table edits n k; none = fault_not fs table edits n k }
