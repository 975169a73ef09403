-- The sections of a reach's corners that are there are those of the list of the territory.
use Rattle.std.proofs.Common.{◌≡◌, ◌↔◌, ℕ, ◌+◌, ◌<◌, pos, ◌+ℤ◌, ◌-ℤ◌, ◌&&◌, Bool, true, false, cond, List, [], ◌∷◌, ◌++◌, length, get_or, take, Some, slice_get, ◌⊎◌, inl, inr, refl, sym, ap, ◌∙◌, subst, append_assoc, IsTrue, arith}
use Rattle.std.specs.List.{Contains}
use Rattle.std.proofs.lemmas.List.{append-nil, take_more}
use Rattle.std.proofs.lemmas.List.Elements.{Contains-append_cases, Contains-append_left, Contains-append_right, Contains-push, Contains-push_cases}
use Rattle.std.proofs.lemmas.Option.{slice_get-get_or, get_or_from_slice_get}
use Rattle.av_types.specs.declared.position.Pos.{Pos}
use Rattle.av_types.specs.declared.position.SectionPos.{SectionPos}
use Rattle.av_types.specs.declared.tick.Entry.{Entry}
use Rattle.av_types.specs.Positions.{section_of}
use Rattle.av_cells.specs.Grid.{Grid, is_here, cells_of}
use Rattle.av_play.specs.Parts.{InTerritory}
use Rattle.av_play.specs.Corners.{corner}
use Rattle.av_play.proofs.Corners.{by_corners}
use Rattle.av_play.proofs.Lists.{none_contained}
use Rattle.av_cluster.specs.Territory.{is_new, one_if, at_column, at_side, territory_list, corner_if, column_if, side_if, corner_list, sections_there, MeetSameSections}
use Rattle.av_cluster.specs.Forest.{AreJoined}
use Rattle.av_cluster.specs.Joining.{Owners, Touches, AreIndicesLinked, IsTouchedIf, IsNoted, IsBefore}
use Rattle.av_cluster.proofs.Sides.{territory_exact}
use Rattle.av_cluster.proofs.Joinings.{linked_by, around_itself, noted_beside, IsWithin, within_more, within_all, taken_all}

module _ (g : Grid) where
  pub there_append : (xs ys : List Pos) → sections_there g (xs ++ ys) ≡ sections_there g xs ++ sections_there g ys
  there_append [] ys = refl
  there_append (x ∷ xs) ys =
      ap (λ l. one_if (is_here (g (section_of x))) (section_of x) ++ l) (there_append xs ys)
      ∙ sym (append_assoc (one_if (is_here (g (section_of x))) (section_of x)) (sections_there g xs) (sections_there g ys))

  pub there_push : (xs : List Pos) (c : Pos) → sections_there g (xs ++ c ∷ []) ≡ sections_there g xs ++ one_if (is_here (g (section_of c))) (section_of c)
  there_push xs c = there_append xs (c ∷ []) ∙ ap (λ l. sections_there g xs ++ l) (append-nil (one_if (is_here (g (section_of c))) (section_of c)))

  pub there_more : (cs : List Pos) (i : ℕ) (d : Pos) → i < length cs → (found new : List SectionPos) → found ≡ sections_there g (take i cs)
      → new ≡ found ++ one_if (is_here (g (section_of (get_or cs i d)))) (section_of (get_or cs i d)) → new ≡ sections_there g (take (i + 1) cs)
  there_more cs i d l found new e n =
      n
      ∙ ap (λ fs. fs ++ one_if (is_here (g (section_of (get_or cs i d)))) (section_of (get_or cs i d))) e
      ∙ sym (there_push (take i cs) (get_or cs i d))
      ∙ ap (sections_there g) (sym (take_more cs i d l))

  -- where two lists are taken, or neither
  there_both : (b : Bool) (xs ys : List Pos) → sections_there g (cond b (xs ++ ys) []) ≡ cond b (sections_there g xs) [] ++ cond b (sections_there g ys) []
  there_both true xs ys = there_append xs ys
  there_both false xs ys = refl

  both : (b : Bool) (xs ys : List SectionPos) → cond b (xs ++ ys) [] ≡ cond b xs [] ++ cond b ys []
  both true xs ys = refl
  both false xs ys = refl

  one_of : (x y z : Bool) (c : Pos)
      → cond z (cond x (sections_there g (cond y (c ∷ []) [])) []) [] ≡ one_if ((x && y && z) && is_here (g (section_of c))) (section_of c)
  one_of true true true c = append-nil (one_if (is_here (g (section_of c))) (section_of c))
  one_of true true false c = refl
  one_of true false true c = refl
  one_of true false false c = refl
  one_of false true true c = refl
  one_of false true false c = refl
  one_of false false true c = refl
  one_of false false false c = refl

  module _ (p : Pos) where
    abbrev new_x : Bool → Bool
    new_x e = is_new e (p.x -ℤ pos 5) (p.x +ℤ pos 5)

    abbrev new_y : Bool → Bool
    new_y h = is_new h (p.y -ℤ pos 2) (p.y +ℤ pos 1)

    abbrev new_z : Bool → Bool
    new_z d = is_new d (p.z -ℤ pos 5) (p.z +ℤ pos 5)

    there_column : (e d : Bool) → cond (new_z d) (sections_there g (column_if p e d)) [] ≡ at_column g p e d
    there_column e d =
        ap (λ l. cond (new_z d) l []) (there_both (new_x e) (corner_if p e d false) (corner_if p e d true))
        ∙ both (new_z d) (cond (new_x e) (sections_there g (corner_if p e d false)) []) (cond (new_x e) (sections_there g (corner_if p e d true)) [])
        ∙ (λ i. one_of (new_x e) (new_y false) (new_z d) (corner p e false d) i ++ one_of (new_x e) (new_y true) (new_z d) (corner p e true d) i)

    there_side : (d : Bool) → sections_there g (side_if p d) ≡ at_side g p d
    there_side d = there_both (new_z d) (column_if p false d) (column_if p true d) ∙ (λ i. there_column false d i ++ there_column true d i)

    pub there_list : sections_there g (corner_list p) ≡ territory_list g p
    there_list = there_append (side_if p false) (side_if p true) ∙ (λ i. there_side false i ++ there_side true i)

    pub there_exact : (s : SectionPos) → Contains (sections_there g (corner_list p)) s ↔ InTerritory (cells_of g) p s
    there_exact s = subst (λ l. Contains l s ↔ InTerritory (cells_of g) p s) (sym there_list) (territory_exact g p s)

  there_contains : (cs : List Pos) (c : Pos) → Contains cs c → is_here (g (section_of c)) ≡ true → Contains (sections_there g cs) (section_of c)
  there_contains [] c m h = absurd (none_contained c m)
  there_contains (x ∷ xs) c m h = by (Contains-append_cases (x ∷ []) xs c m) (λ n. there_contains xs c n h) where
    by : Contains (x ∷ []) c ⊎ Contains xs c → (Contains xs c → Contains (sections_there g xs) (section_of c)) → Contains (one_if (is_here (g (section_of x))) (section_of x) ++ sections_there g xs) (section_of c)
    by (inr n) rest = Contains-append_right (one_if (is_here (g (section_of x))) (section_of x)) (sections_there g xs) (section_of c) (rest n)
    by (inl n) rest = last (Contains-push_cases [] x c n) where
      last : Contains [] c ⊎ (x ≡ c) → Contains (one_if (is_here (g (section_of x))) (section_of x) ++ sections_there g xs) (section_of c)
      last (inl k) = absurd (none_contained c k)
      last (inr e) =
          Contains-append_left (one_if (is_here (g (section_of x))) (section_of x)) (sections_there g xs) (section_of c)
          (subst (λ (y : Pos). Contains (one_if (is_here (g (section_of y))) (section_of y)) (section_of c)) (sym e)
          (subst (λ b. Contains (one_if b (section_of c)) (section_of c)) (sym h) (Contains-push [] (section_of c))))

-- the next corner of an entry's reach
module _ (g : Grid) (es : List Entry) (index : ℕ) (d : Entry) (inside : index < length es) where
  abbrev at : Pos
  at = (get_or es index d).pos

  -- the section of a corner, where it is there, is in the territory
  corner_touches : (c : Pos) → Contains (corner_list at) c → is_here (g (section_of c)) ≡ true → Touches (cells_of g) es index (section_of c)
  corner_touches c m h = record { entry = get_or es index d; is_at = slice_get-get_or es index d inside; territory = (there_exact g at (section_of c)).0 (there_contains g (corner_list at) c m h) }

  pub corner_noted : (old new : List ℕ) (was now : Owners) (cs ds : List Pos) (c : Pos) → ds ≡ cs ++ c ∷ [] → Contains (corner_list at) c → IsNoted (cells_of g) es old was (IsWithin (cells_of g) es index (sections_there g cs))
      → IsTouchedIf (is_here (g (section_of c))) old new was now (section_of c) index → IsNoted (cells_of g) es new now (IsWithin (cells_of g) es index (sections_there g ds))
  corner_noted old new was now cs ds c e m n = by (is_here (g (section_of c))) refl where
    is : sections_there g ds ≡ sections_there g cs ++ one_if (is_here (g (section_of c))) (section_of c)
    is = ap (sections_there g) e ∙ there_push g cs c

    by : (b : Bool) → is_here (g (section_of c)) ≡ b → IsTouchedIf b old new was now (section_of c) index → IsNoted (cells_of g) es new now (IsWithin (cells_of g) es index (sections_there g ds))
    by true h t =
        within_more (cells_of g) es old new was now index (sections_there g cs) (sections_there g ds) (section_of c) (is ∙ ap (λ b. sections_there g cs ++ one_if b (section_of c)) h) n (corner_touches c m h) t
    by false h t =
        let same : sections_there g ds ≡ sections_there g cs = is ∙ ap (λ b. sections_there g cs ++ one_if b (section_of c)) h ∙ append-nil (sections_there g cs) in
        subst (λ ps. IsNoted (cells_of g) es ps now (IsWithin (cells_of g) es index (sections_there g ds))) (sym t.0)
        (subst (λ os. IsNoted (cells_of g) es old os (IsWithin (cells_of g) es index (sections_there g ds))) (sym t.1)
        (subst (λ l. IsNoted (cells_of g) es old was (IsWithin (cells_of g) es index l)) (sym same) n))

  pub corners_noted : (ps : List ℕ) (owners : Owners) (cs : List Pos) → cs ≡ corner_list at → (i : ℕ) → i ≡ length cs → IsNoted (cells_of g) es ps owners (IsWithin (cells_of g) es index (sections_there g (take i cs)))
      → IsNoted (cells_of g) es ps owners (IsBefore (cells_of g) es (index + 1))
  corners_noted ps owners cs e i l n =
      within_all (cells_of g) es ps owners index (sections_there g (corner_list at)) (get_or es index d) (slice_get-get_or es index d inside) (there_exact g at)
      (subst (λ xs. IsNoted (cells_of g) es ps owners (IsWithin (cells_of g) es index (sections_there g xs))) (taken_all cs i l ∙ e) n)

-- an element of a list
pub item_of : (xs ys : List Pos) → xs ≡ ys → (i : ℕ) → i < length xs → (d : Pos) → Contains ys (get_or xs i d)
item_of xs ys e i l d = subst (λ zs. Contains zs (get_or xs i d)) e (i, l, get_or_from_slice_get xs i (get_or xs i d) (get_or xs i d) (slice_get-get_or xs i d l))

-- a section with an owner is there
pub owned_is_there : (g : Grid) (es : List Entry) (ps : List ℕ) (owners : Owners) (D : ℕ → SectionPos → Type 0) → IsNoted (cells_of g) es ps owners D → (s : SectionPos) (k : ℕ) → owners s ≡ Some k → is_here (g s) ≡ true
owned_is_there g es ps owners D n s k e = let t = (n.done k s (n.owned s k e)).territory in subst (λ u. IsTrue (is_here (g u))) t.lies t.loaded

-- reaches that meet the same sections have the same territory
module _ (g : Grid) where
  same_territory : (a b : Pos) → MeetSameSections a b → (s : SectionPos) → InTerritory (cells_of g) b s → InTerritory (cells_of g) a s
  same_territory a b m s t =
      let h = (by_corners g b s).0 t in
      (by_corners g a s).1 (record { here = h.here; east = h.east; high = h.high; south = h.south; lies = m.corners h.east h.high h.south ∙ h.lies })

  pub beside_noted : (es : List Entry) (d : Entry) (b index : ℕ) (old new : List ℕ) (owners : Owners) → b < index → index < length es → MeetSameSections (get_or es b d).pos (get_or es index d).pos
      → IsTrue ((cells_of g).loaded (get_or es index d).pos) → IsNoted (cells_of g) es old owners (IsBefore (cells_of g) es index) → AreJoined old new b index → IsNoted (cells_of g) es new owners (IsBefore (cells_of g) es (index + 1))
  beside_noted es d b index old new owners less inside m loaded h j = noted_beside (cells_of g) es old new owners b index h less inside j same link where
    entry_is : (n : ℕ) (x : Entry) → n < length es → slice_get es n ≡ Some x → x ≡ get_or es n d
    entry_is n x l e = sym (get_or_from_slice_get es n x d e)

    same : (s : SectionPos) → Touches (cells_of g) es index s → Touches (cells_of g) es b s
    same s t =
        record {
          entry = get_or es b d;
          is_at = slice_get-get_or es b d (omega (arith, less, inside));
          territory = same_territory (get_or es b d).pos (get_or es index d).pos m s (subst (λ (x : Entry). InTerritory (cells_of g) x.pos s) (entry_is index t.entry inside t.is_at) t.territory);
        }

    itself : Touches (cells_of g) es index (section_of (get_or es index d).pos)
    itself = around_itself (cells_of g) es index (get_or es index d) (slice_get-get_or es index d inside) loaded

    link : AreIndicesLinked (cells_of g) es index b
    link = linked_by (cells_of g) es index b (section_of (get_or es index d).pos) itself (same (section_of (get_or es index d).pos) itself)
