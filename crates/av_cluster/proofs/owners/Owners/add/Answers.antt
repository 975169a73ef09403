-- The section stands last, and its slot or the tree says so.
use Rattle.std.proofs.Common.{◌≡◌, ◌≢◌, ◌<◌, ◌∙◌, ◌+◌, ◌++◌, ◌∷◌, [], ℤ, true, Some, None, cond, is_ok, length, get_or, set, sym, ap, subst, arith}
use Rattle.std.specs.BTreeMap.{get}
use Rattle.std.specs.Map.{lookup}
use Rattle.std.specs.Ordering.{is_eq}
use Rattle.std.proofs.lemmas.List.{get_or_read}
use Rattle.av_cluster.specs.Indices.{key_cmp, slot_of, AreSlots}
use Rattle.av_cluster.specs.Joining.{key_of, same_key}
use Rattle.av_cluster.proofs.Indexed.{lookup_pushed}
use Rattle.av_cluster.proofs.Slotted.{slots_full, slots_free}
use Rattle.av_cluster.proofs.owners.Owners.add.Goals as goal

pub invariant_of-self : goal.invariant_of-self
invariant_of-self c =
    let s = c.args.self.now in
    record { slotted = subst (AreSlots s.slots.items (get key_cmp s.others)) (sym c.reserve.ensures.items) s.slotted }

pub returns-clause-ok : goal.returns-clause-ok
returns-clause-ok c s =
    let es = c.args.self.now.entries.items in
    let k = c.key-key.result in
    let new = c.in_ok-push-2.ensures.items ∙ ap (λ l. l ++ (k, c.args.owner) ∷ []) c.in_ok-reserve.ensures.items in
    let none = subst (λ q. lookup (same_key q) es ≡ None) (sym c.key-key.ensures) c.requires in
    ap (lookup (same_key (key_of s))) new ∙ lookup_pushed es k c.args.owner (key_of s) none ∙ ap (λ q. cond (same_key q (key_of s)) (Some c.args.owner) (lookup (same_key (key_of s)) es)) c.key-key.ensures

pub returns-then-index-eq0-clause-ok : goal.returns-then-index-eq0-clause-ok
returns-then-index-eq0-clause-ok c s =
    let es = c.args.self.now.entries.items in
    let k = c.key-key.result in
    let new = c.in_ok-push.ensures.items ∙ ap (λ l. l ++ (k, c.args.owner) ∷ []) c.in_ok-reserve.ensures.items in
    let none = subst (λ q. lookup (same_key q) es ≡ None) (sym c.key-key.ensures) c.requires in
    ap (lookup (same_key (key_of s))) new ∙ lookup_pushed es k c.args.owner (key_of s) none ∙ ap (λ q. cond (same_key q (key_of s)) (Some c.args.owner) (lookup (same_key (key_of s)) es)) c.key-key.ensures

pub invariant_of-self-then-index-eq0 : goal.invariant_of-self-then-index-eq0
invariant_of-self-then-index-eq0 c =
    let s = c.args.self.now in
    let es = s.entries.items in
    let ns = s.slots.items in
    let f = get key_cmp s.others in
    let k = c.key-key.result in
    let o = c.args.owner in
    let none = subst (λ q. lookup (same_key q) es ≡ None) (sym c.key-key.ensures) c.requires in
    let fine : is_ok c.push.result ≡ true = c.push.ensures.succeeds (omega (arith, c.in_ok-reserve.ensures.ok)) in
    let new : c.push.new.self.items ≡ es ++ (k, o) ∷ [] =
    c.push.ensures.items ∙ ap (λ b. cond b (c.reserve.new.self.items ++ (k, o) ∷ []) c.reserve.new.self.items) fine ∙ ap (λ l. l ++ (k, o) ∷ []) c.in_ok-reserve.ensures.items in
    let many : c.len.result ≡ length ns = c.len.ensures ∙ s.slots.ok.0 in
    let last : c.len-last.result ≡ length es = c.len-last.ensures ∙ s.entries.ok.0 in
    let slot : c.slot-slot.result ≡ slot_of (length ns) k = c.slot-slot.ensures.value ∙ ap (λ m. slot_of m (key_of c.args.section)) many ∙ ap (slot_of (length ns)) (sym c.key-key.ensures) in
    let low : c.slot-slot.result < length ns = omega (arith, c.slot-slot.ensures.bound, many) in
    let at = get_or_read ns c.slot-slot.result c.index.result.now low c.index.ensures 0 in
    let free : get_or ns c.slot-slot.result 0 ≡ 0 = omega (arith, at, c.if-index-eq0.true) in
    let empty : get_or ns (slot_of (length ns) k) 0 ≡ 0 = ap (λ i. get_or ns i 0) (sym slot) ∙ free in
    let base = slots_free ns f es k o s.slotted none empty in
    let due = subst (λ i. AreSlots (set ns i (length es + 1)) f (es ++ (k, o) ∷ [])) (sym slot) base in
    let noted = subst (λ n. AreSlots (set ns c.slot-slot.result (n + 1)) f (es ++ (k, o) ∷ [])) (sym last) due in
    record { slotted = subst (AreSlots (set ns c.slot-slot.result (c.len-last.result + 1)) f) (sym new) noted }

pub invariant_of-self-2 : goal.invariant_of-self-2
invariant_of-self-2 c =
    let s = c.args.self.now in
    let es = s.entries.items in
    let ns = s.slots.items in
    let f = get key_cmp s.others in
    let g = get key_cmp c.insert.new.self in
    let k = c.key-key.result in
    let o = c.args.owner in
    let none = subst (λ q. lookup (same_key q) es ≡ None) (sym c.key-key.ensures) c.requires in
    let fine : is_ok c.push-2.result ≡ true = c.push-2.ensures.succeeds (omega (arith, c.in_ok-reserve.ensures.ok)) in
    let new : c.push-2.new.self.items ≡ es ++ (k, o) ∷ [] =
    c.push-2.ensures.items ∙ ap (λ b. cond b (c.reserve.new.self.items ++ (k, o) ∷ []) c.reserve.new.self.items) fine ∙ ap (λ l. l ++ (k, o) ∷ []) c.in_ok-reserve.ensures.items in
    let many : c.len.result ≡ length ns = c.len.ensures ∙ s.slots.ok.0 in
    let last : c.len-last.result ≡ length es = c.len-last.ensures ∙ s.entries.ok.0 in
    let slot : c.slot-slot.result ≡ slot_of (length ns) k = c.slot-slot.ensures.value ∙ ap (λ m. slot_of m (key_of c.args.section)) many ∙ ap (slot_of (length ns)) (sym c.key-key.ensures) in
    let low : c.slot-slot.result < length ns = omega (arith, c.slot-slot.ensures.bound, many) in
    let at = get_or_read ns c.slot-slot.result c.index.result.now low c.index.ensures 0 in
    let held : get_or ns c.slot-slot.result 0 ≢ 0 = λ e. absurd (omega (arith, at, c.if-index-eq0.false, e)) in
    let full : get_or ns (slot_of (length ns) k) 0 ≢ 0 = λ e. held (ap (λ i. get_or ns i 0) slot ∙ e) in
    let says = subst (λ n. (q : ℤ × ℤ × ℤ) → g q ≡ cond (is_eq (key_cmp k q)) (Some n) (f q)) last c.in_ok-insert.ensures.updates.0 in
    record { slotted = subst (AreSlots ns g) (sym new) (slots_full ns f es k o s.slotted none g full says) }
