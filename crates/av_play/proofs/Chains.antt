-- Chains of entries, and labels that follow them.
use Rattle.std.proofs.Common.{◌≡◌, ℕ, List, [], ◌∷◌, ◌↔◌, ◌∙◌}
use Rattle.std.specs.List.{Contains}
use Rattle.av_types.specs.declared.position.Pos.{Pos}
use Rattle.av_cells.specs.World.{World}
use Rattle.av_play.specs.declared.event.DueEntry.{DueEntry}
use Rattle.av_play.specs.Parts.{ShareSection, IsChain, AreLinked}
use Rattle.av_play.specs.Labels.{AreLabelled}

share_back : (w : World) (p q : Pos) → ShareSection w p q → ShareSection w q p
share_back w p q s = record { section = s.section; first = s.second; second = s.first }

one_link : (w : World) (all : List DueEntry) (a b : DueEntry) → ShareSection w a.entry.pos b.entry.pos → AreLinked w all a b
one_link w all a b s = record { between = []; links = s }

chain_on : (w : World) (all : List DueEntry) (a b c : DueEntry) (cs : List DueEntry) → IsChain w all a cs b → Contains all b → AreLinked w all b c → AreLinked w all a c
chain_on w all a b c [] h m l = record { between = b ∷ l.between; links = (m, h, l.links) }
chain_on w all a b c (d ∷ ds) h m l = let r = chain_on w all d b c ds h.2 m l in record { between = d ∷ r.between; links = (h.0, h.1, r.links) }

pub linked_on : (w : World) (all : List DueEntry) (a b c : DueEntry) → AreLinked w all a b → Contains all b → AreLinked w all b c → AreLinked w all a c
linked_on w all a b c l m r = chain_on w all a b c l.between l.links m r

chain_back : (w : World) (all : List DueEntry) (a b : DueEntry) (cs : List DueEntry) → IsChain w all a cs b → AreLinked w all b a
chain_back w all a b [] h = one_link w all b a (share_back w _ _ h)
chain_back w all a b (d ∷ ds) h = linked_on w all b d a (chain_back w all d b ds h.2) h.0 (one_link w all d a (share_back w _ _ h.1))

pub linked_back : (w : World) (all : List DueEntry) (a b : DueEntry) → AreLinked w all a b → AreLinked w all b a
linked_back w all a b l = chain_back w all a b l.between l.links

chain_label : (w : World) (all : List DueEntry) (label : ℕ → ℕ) → AreLabelled w all label → (a b : DueEntry) (cs : List DueEntry) → Contains all a → Contains all b → IsChain w all a cs b → label a.index ≡ label b.index
chain_label w all label h a b [] ca cb l = h.same a b ca cb l
chain_label w all label h a b (d ∷ ds) ca cb l = h.same a d ca l.0 l.1 ∙ chain_label w all label h d b ds l.0 cb l.2

-- labelled entries are together exactly if they are linked
pub labels_together : (w : World) (all : List DueEntry) (label : ℕ → ℕ) → AreLabelled w all label → (a b : DueEntry) → Contains all a → Contains all b → (label a.index ≡ label b.index) ↔ AreLinked w all a b
labels_together w all label h a b ca cb = (h.linked a b ca cb, λ l. chain_label w all label h a b l.between ca cb l.links)
